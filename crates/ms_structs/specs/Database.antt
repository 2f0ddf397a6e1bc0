-- Database: what its fields say.
use Rattle.std.specs.Prelude.{ℕ, ℤ, pos, [], Option, Bool, ◌||◌}
use Rattle.cat_types.specs.declared.arguments.DbArg.{DbArg}
use Rattle.ms_structs.specs.declared.database.DatabaseFields.{DatabaseFields}
use Rattle.ms_structs.specs.declared.got.Got.{Got}
use Rattle.ms_structs.specs.declared.got.Got.TheVariants.{Nothing}
use Rattle.ms_structs.specs.Slots.{slot, made_of, struct_of, is_bad, value_of, value_or, unless_bad}
use Rattle.ms_structs.specs.Values.{text_of, params_of}
use Rattle.thrift_binary.specs.Codes.{map_code, text_code}
use Rattle.thrift_binary.specs.Tree.{Fields, Wire}

-- 1 name, 2 description, 3 locationUri, 4 parameters, 6 ownerName
abbrev pub database_none : DatabaseFields
database_none = record { name = Nothing; description = Nothing; location = Nothing; params = Nothing; owner = Nothing }

abbrev pub database_set : DatabaseFields → ℕ → ℤ → Wire → DatabaseFields
database_set f ty id w = record {
  name = slot (pos 1) text_code text_of f.name ty id w;
  description = slot (pos 2) text_code text_of f.description ty id w;
  location = slot (pos 3) text_code text_of f.location ty id w;
  params = slot (pos 4) map_code params_of f.params ty id w;
  owner = slot (pos 6) text_code text_of f.owner ty id w;
}

-- whether a text in one of the slots is bad
abbrev pub database_is_bad : DatabaseFields → Bool
database_is_bad f = is_bad f.name || (is_bad f.description || (is_bad f.location || (is_bad f.params || is_bad f.owner)))

-- absent texts stay absent, and an absent map is empty
abbrev pub database_from : DatabaseFields → DbArg
database_from f = record {
  name = value_of f.name;
  rec = record { description = value_of f.description; location = value_of f.location; params = value_or [] f.params; owner = value_of f.owner };
}

-- what the slots make, unless a text is bad
abbrev pub database_whole : DatabaseFields → Option DbArg
database_whole f = unless_bad (database_is_bad f) (database_from f)

-- the database that these fields make; None: a text that counts isn't UTF-8
abbrev pub database_made : Fields → Option DbArg
database_made = made_of database_whole database_set database_none

abbrev pub database_of : Wire → Got DbArg
database_of = struct_of database_whole database_set database_none
