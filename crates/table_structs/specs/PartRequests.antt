-- AddPartitionsRequest and AddPartitionsResult.
use Rattle.std.specs.Prelude.{ℕ, ℤ, pos, List, [], ◌∷◌, Option, Bool, true, false, ◌||◌}
use Rattle.cat_types.specs.declared.calls.Call.{Call}
use Rattle.cat_types.specs.declared.calls.Call.TheVariants.{AddPartitionsReq}
use Rattle.cat_types.specs.declared.named.NamedPart.{NamedPart}
use Rattle.ms_structs.specs.declared.got.Got.{Got}
use Rattle.ms_structs.specs.declared.got.Got.TheVariants.{Nothing}
use Rattle.ms_structs.specs.Slots.{is_bad, made_of, slot, struct_of, unless_bad, value_of, value_or}
use Rattle.ms_structs.specs.Values.{flag_of, items_of, text_of}
use Rattle.ms_structs.specs.Written.{OwnField, fields_of, if_any, items_tree}
use Rattle.table_structs.specs.declared.part_requests.AddPartitionsFields.{AddPartitionsFields}
use Rattle.table_structs.specs.Partitions.{partition_of, partition_tree}
use Rattle.thrift_binary.specs.Codes.{bool_code, list_code, struct_code, text_code}
use Rattle.thrift_binary.specs.Tree.{Wire, Struct, Fields}

-- the slots before the first field: 1 dbName, 2 tblName, 3 parts, 4 ifNotExists, 5 needResult
abbrev pub adding_none : AddPartitionsFields
adding_none = record { db = Nothing; table = Nothing; parts = Nothing; if_not_exists = Nothing; need_result = Nothing }

-- the slots behind one more field
abbrev pub adding_set : AddPartitionsFields → ℕ → ℤ → Wire → AddPartitionsFields
adding_set f ty id w = record {
  db = slot (pos 1) text_code text_of f.db ty id w;
  table = slot (pos 2) text_code text_of f.table ty id w;
  parts = slot (pos 3) list_code (items_of struct_code partition_of) f.parts ty id w;
  if_not_exists = slot (pos 4) bool_code flag_of f.if_not_exists ty id w;
  need_result = slot (pos 5) bool_code flag_of f.need_result ty id w;
}

-- whether a text in one of the slots is bad
abbrev pub adding_is_bad : AddPartitionsFields → Bool
adding_is_bad f = is_bad f.db || (is_bad f.table || is_bad f.parts)

-- absent names stay absent, and an absent list is empty; those that are there aren't passed over unless it is said, and the added ones are told unless it is said that they needn't be
abbrev pub adding_from : AddPartitionsFields → Call
adding_from f = AddPartitionsReq (value_of f.db) (value_of f.table) (value_or [] f.parts) (value_or false f.if_not_exists) (value_or true f.need_result)

-- what the slots make, unless a text is bad
abbrev pub adding_whole : AddPartitionsFields → Option Call
adding_whole f = unless_bad (adding_is_bad f) (adding_from f)

-- the call that these fields ask for; None: a text that counts isn't UTF-8
abbrev pub adding_made : Fields → Option Call
adding_made = made_of adding_whole adding_set adding_none

-- the call that a request asks for
unfoldable pub adding_of : Wire → Got Call
adding_of = struct_of adding_whole adding_set adding_none

-- the one field of the result: 1 the partitions, where they are to be told
abbrev pub partitions_field : Option (List NamedPart) → OwnField
partitions_field = if_any (pos 1) list_code (items_tree struct_code partition_tree)

-- the struct that answers a request
abbrev pub partitions_result : Option (List NamedPart) → Wire
partitions_result parts = Struct (fields_of (partitions_field parts ∷ []))
