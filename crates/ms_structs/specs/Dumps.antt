-- ReplDumpResult.
use Rattle.std.specs.Prelude.{ℕ, ℤ, pos, List, [], ◌∷◌}
use Rattle.ms_structs.specs.Written.{OwnField, fields_of, given}
use Rattle.thrift_binary.specs.Codes.{i64_code, text_code}
use Rattle.thrift_binary.specs.Tree.{Wire, Bytes, Number, Struct}

-- the fields of a ReplDumpResult: 1 dumpDir, 2 lastEvent
abbrev pub dump_written : List ℕ → ℤ → List OwnField
dump_written dir last = given (pos 1) text_code Bytes dir ∷ given (pos 2) i64_code Number last ∷ []

-- the struct that answers a dump into this folder, up to the event with this number
abbrev pub dump_result : List ℕ → ℤ → Wire
dump_result dir last = Struct (fields_of (dump_written dir last))
