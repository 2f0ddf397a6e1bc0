-- SerDeInfo: what its fields say, and how it is written.
use Rattle.std.specs.Prelude.{ℕ, ℤ, pos, List, [], ◌∷◌, Option, Bool, ◌||◌}
use Rattle.cat_values.specs.declared.storage.Serde.{Serde}
use Rattle.ms_structs.specs.declared.got.Got.{Got}
use Rattle.ms_structs.specs.declared.got.Got.TheVariants.{Nothing}
use Rattle.ms_structs.specs.Slots.{is_bad, made_of, slot, struct_of, unless_bad, value_of, value_or}
use Rattle.ms_structs.specs.Values.{params_of, text_of}
use Rattle.ms_structs.specs.Written.{OwnField, fields_of, given, if_any, params_tree}
use Rattle.table_structs.specs.declared.serdes.SerdeFields.{SerdeFields}
use Rattle.thrift_binary.specs.Codes.{map_code, text_code}
use Rattle.thrift_binary.specs.Tree.{Wire, Bytes, Struct, Fields}

-- the slots before the first field: 1 name, 2 serializationLib, 3 parameters
abbrev pub serde_none : SerdeFields
serde_none = record { name = Nothing; lib = Nothing; params = Nothing }

-- the slots behind one more field
abbrev pub serde_set : SerdeFields → ℕ → ℤ → Wire → SerdeFields
serde_set f ty id w = record {
  name = slot (pos 1) text_code text_of f.name ty id w;
  lib = slot (pos 2) text_code text_of f.lib ty id w;
  params = slot (pos 3) map_code params_of f.params ty id w;
}

-- whether a text in one of the slots is bad
abbrev pub serde_is_bad : SerdeFields → Bool
serde_is_bad f = is_bad f.name || (is_bad f.lib || is_bad f.params)

-- absent texts stay absent, and an absent map is empty
abbrev pub serde_from : SerdeFields → Serde
serde_from f = record {
  name = value_of f.name;
  lib = value_of f.lib;
  params = value_or [] f.params;
}

-- what the slots make, unless a text is bad
abbrev pub serde_whole : SerdeFields → Option Serde
serde_whole f = unless_bad (serde_is_bad f) (serde_from f)

-- the serializer that these fields make; None: a text that counts isn't UTF-8
abbrev pub serde_made : Fields → Option Serde
serde_made = made_of serde_whole serde_set serde_none

-- the serializer that a struct says
unfoldable pub serde_of : Wire → Got Serde
serde_of = struct_of serde_whole serde_set serde_none

-- the fields that a serializer is written as
abbrev pub serde_written : Serde → List OwnField
serde_written serde =
    if_any (pos 1) text_code Bytes serde.name ∷
    if_any (pos 2) text_code Bytes serde.lib ∷
    given (pos 3) map_code params_tree serde.params ∷ []

-- the struct that a serializer is written as
unfoldable pub serde_tree : Serde → Wire
serde_tree serde = Struct (fields_of (serde_written serde))
