-- How rows are turned into bytes: the order of fields is free, and what is written reads back.
use Rattle.std.proofs.Common.{◌≡◌, ◌||◌, false, pos, Some, refl, sym, ap, ◌∙◌}
use Rattle.cat_values.specs.declared.storage.Serde.{Serde}
use Rattle.thrift_binary.specs.Codes.{map_code, text_code}
use Rattle.thrift_binary.specs.Tree.{Bytes, Fields}
use Rattle.ms_structs.specs.declared.got.Got.TheVariants.{Is}
use Rattle.ms_structs.specs.Laws.{OrderIsFree}
use Rattle.ms_structs.specs.Slots.{said, said_or_bad, unless_bad}
use Rattle.ms_structs.specs.Values.{params_of, text_of}
use Rattle.ms_structs.specs.Written.{fields_of}
use Rattle.ms_structs.proofs.OwnFields.{maybe, maybe_is_good, maybe_value, said_told, says_maybe}
use Rattle.ms_structs.proofs.ReadBack.{maybe_text_read, params_read}
use Rattle.ms_structs.proofs.Said.{said_same, slot_is}
use Rattle.table_structs.specs.declared.serdes.SerdeFields.{SerdeFields}
use Rattle.table_structs.specs.Serdes.{serde_made, serde_none, serde_of, serde_set, serde_tree, serde_whole, serde_written}
use Rattle.table_structs.specs.Kept.{IsKeptSerde}
use Rattle.table_structs.specs.Laws.{ReadsBack}

-- what fields make, by what they say under each id
serde_by : (v : Fields) (f : SerdeFields)
    → said (pos 1) text_code text_of v ≡ f.name
    → said (pos 2) text_code text_of v ≡ f.lib
    → said (pos 3) map_code params_of v ≡ f.params
    → serde_made v ≡ serde_whole f
serde_by v f name lib params =
    let name = slot_is serde_set serde_none v (λ g. g.name) (pos 1) text_code text_of (λ g ty id w. refl) refl name in
    let lib = slot_is serde_set serde_none v (λ g. g.lib) (pos 2) text_code text_of (λ g ty id w. refl) refl lib in
    let params = slot_is serde_set serde_none v (λ g. g.params) (pos 3) map_code params_of (λ g ty id w. refl) refl params in
    λ i. serde_whole (record { name = name i; lib = lib i; params = params i })

abbrev said_slots : Fields → SerdeFields
said_slots v = record {
  name = said (pos 1) text_code text_of v;
  lib = said (pos 2) text_code text_of v;
  params = said (pos 3) map_code params_of v;
}

pub serde_order : OrderIsFree serde_of
unfolding serde_of
serde_order v v' same = ap said_or_bad (
    serde_by v (said_slots v')
    (said_same (pos 1) text_code text_of v v' same)
    (said_same (pos 2) text_code text_of v v' same)
    (said_same (pos 3) map_code params_of v v' same)
    ∙ sym (serde_by v' (said_slots v') refl refl refl)
    )

-- the slots behind a serializer's own fields
abbrev own_slots : Serde → SerdeFields
own_slots serde = record { name = maybe serde.name; lib = maybe serde.lib; params = Is serde.params }

own_said : (serde : Serde) → IsKeptSerde serde → serde_made (fields_of (serde_written serde)) ≡ serde_whole (own_slots serde)
own_said serde kept =
    let own = serde_written serde in
    serde_by (fields_of own) (own_slots serde)
    (said_told (pos 1) text_code text_of own refl ∙ says_maybe text_code text_of Bytes serde.name (maybe_text_read serde.name kept.name))
    (said_told (pos 2) text_code text_of own refl ∙ says_maybe text_code text_of Bytes serde.lib (maybe_text_read serde.lib kept.lib))
    (said_told (pos 3) map_code params_of own refl ∙ params_read serde.params kept.params.0 kept.params.1)

own_whole : (serde : Serde) → serde_whole (own_slots serde) ≡ Some serde
own_whole serde = λ i. unless_bad (maybe_is_good serde.name i || (maybe_is_good serde.lib i || false)) (record serde { name = maybe_value serde.name i; lib = maybe_value serde.lib i })

pub serdes_read_back : ReadsBack IsKeptSerde serde_of serde_tree
unfolding serde_of serde_tree
serdes_read_back serde kept = ap said_or_bad (own_said serde kept ∙ own_whole serde)
