-- A database that is written reads back.
use Rattle.std.proofs.Common.{◌≡◌, ◌||◌, ℕ, List, false, pos, Some, refl, ap, ◌∙◌}
use Rattle.std.specs.Str.{IsUtf8}
use Rattle.cat_values.specs.declared.records.DbRec.{DbRec}
use Rattle.thrift_binary.specs.Tree.{Bytes}
use Rattle.ms_structs.specs.declared.database.DatabaseFields.{DatabaseFields}
use Rattle.ms_structs.specs.declared.got.Got.TheVariants.{Is}
use Rattle.ms_structs.specs.Slots.{said_or_bad, unless_bad}
use Rattle.ms_structs.specs.Values.{params_of, text_of}
use Rattle.ms_structs.specs.Database.{database_made, database_whole}
use Rattle.ms_structs.specs.Written.{database_fields, database_written}
use Rattle.ms_structs.specs.Laws.{IsKept, WrittenIsRead}
use Rattle.ms_structs.proofs.DatabaseSaid.{database_by}
use Rattle.ms_structs.proofs.OwnFields.{maybe, maybe_is_good, maybe_value, said_told, says_maybe}
use Rattle.ms_structs.proofs.ReadBack.{maybe_text_read, params_read, text_read}

-- the slots behind a database's own fields
abbrev slots : List ℕ → DbRec → DatabaseFields
slots name rec = record { name = Is name; description = maybe rec.description; location = maybe rec.location; params = Is rec.params; owner = maybe rec.owner }

fields_read : (name : List ℕ) (rec : DbRec) → IsUtf8 name → IsKept rec → database_made (database_fields name rec) ≡ database_whole (slots name rec)
fields_read name rec is kept =
    let own = database_written name rec in
    database_by (database_fields name rec) (slots name rec)
    (said_told (pos 1) 11 text_of own refl ∙ text_read name is)
    (said_told (pos 2) 11 text_of own refl ∙ says_maybe 11 text_of Bytes rec.description (maybe_text_read rec.description kept.description))
    (said_told (pos 3) 11 text_of own refl ∙ says_maybe 11 text_of Bytes rec.location (maybe_text_read rec.location kept.location))
    (said_told (pos 4) 13 params_of own refl ∙ params_read rec.params kept.params kept.sorted)
    (said_told (pos 6) 11 text_of own refl ∙ says_maybe 11 text_of Bytes rec.owner (maybe_text_read rec.owner kept.owner))

slots_whole : (name : List ℕ) (rec : DbRec) → database_whole (slots name rec) ≡ Some (record { name = Some name; rec = rec })
slots_whole name rec = λ i. unless_bad (false || (maybe_is_good rec.description i || (maybe_is_good rec.location i || (false || maybe_is_good rec.owner i)))) (record {
  name = Some name;
  rec = record { description = maybe_value rec.description i; location = maybe_value rec.location i; params = rec.params; owner = maybe_value rec.owner i };
})

pub written_is_read : WrittenIsRead
written_is_read name rec is kept = ap said_or_bad (fields_read name rec is kept ∙ slots_whole name rec)
