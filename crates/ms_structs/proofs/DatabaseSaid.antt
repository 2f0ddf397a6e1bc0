-- What a database is made of.
use Rattle.std.proofs.Common.{◌≡◌, pos, refl, sym, ap, ◌∙◌}
use Rattle.ms_structs.specs.declared.database.DatabaseFields.{DatabaseFields}
use Rattle.thrift_binary.specs.Tree.{Fields}
use Rattle.ms_structs.specs.Slots.{said, said_or_bad}
use Rattle.ms_structs.specs.Values.{params_of, text_of}
use Rattle.ms_structs.specs.Database.{database_made, database_none, database_of, database_set, database_whole}
use Rattle.ms_structs.specs.Laws.{DatabaseIsSaid, OrderIsFree}
use Rattle.ms_structs.proofs.Said.{said_same, slot_is}

-- a database is made of what its fields say under each id
pub database_by : (v : Fields) (f : DatabaseFields) → said (pos 1) 11 text_of v ≡ f.name → said (pos 2) 11 text_of v ≡ f.description → said (pos 3) 11 text_of v ≡ f.location
    → said (pos 4) 13 params_of v ≡ f.params → said (pos 6) 11 text_of v ≡ f.owner → database_made v ≡ database_whole f
database_by v f name description location params owner =
    let name = slot_is database_set database_none v (λ g. g.name) (pos 1) 11 text_of (λ g ty id w. refl) refl name in
    let description = slot_is database_set database_none v (λ g. g.description) (pos 2) 11 text_of (λ g ty id w. refl) refl description in
    let location = slot_is database_set database_none v (λ g. g.location) (pos 3) 11 text_of (λ g ty id w. refl) refl location in
    let params = slot_is database_set database_none v (λ g. g.params) (pos 4) 13 params_of (λ g ty id w. refl) refl params in
    let owner = slot_is database_set database_none v (λ g. g.owner) (pos 6) 11 text_of (λ g ty id w. refl) refl owner in
    λ i. database_whole (record { name = name i; description = description i; location = location i; params = params i; owner = owner i })

-- what fields say under each id
abbrev said_slots : Fields → DatabaseFields
said_slots v = record { name = said (pos 1) 11 text_of v; description = said (pos 2) 11 text_of v; location = said (pos 3) 11 text_of v; params = said (pos 4) 13 params_of v; owner = said (pos 6) 11 text_of v }

pub database_is_said : DatabaseIsSaid
database_is_said v = database_by v (said_slots v) refl refl refl refl refl

pub order_is_free : OrderIsFree database_of
order_is_free v v' same =
    ap said_or_bad (
    database_by v (said_slots v') (said_same (pos 1) 11 text_of v v' same) (said_same (pos 2) 11 text_of v v' same) (said_same (pos 3) 11 text_of v v' same)
    (said_same (pos 4) 13 params_of v v' same) (said_same (pos 6) 11 text_of v v' same)
    ∙ sym (database_is_said v')
    )
