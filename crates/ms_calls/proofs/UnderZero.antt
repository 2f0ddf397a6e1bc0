-- What is written under field 0.
use Rattle.std.proofs.Common.{◌≡◌, ℕ, List, ◌++◌, [], Result, pos, sym, append-nil}
use Rattle.thrift_binary.specs.Sending.{Gathers}
use Rattle.thrift_binary.specs.Strict.{field_bytes, fields_bytes, wire_bytes}
use Rattle.thrift_binary.specs.Tree.{Field, Fields, NoFields, Struct, Wire}
use Rattle.ms_structs.proofs.PiecesWritten.{gathers_as, gathers_then}

pub tree_written : {T E : Type 0} (result : Result T E) (old mid new : List ℕ) (code : ℕ) (w : Wire) → mid ≡ old ++ field_bytes code (pos 0) → Gathers mid new result (wire_bytes code w)
    → Gathers old new result (fields_bytes (Field code (pos 0) w NoFields))
tree_written result old mid new code w first second =
    gathers_then result old mid new (field_bytes code (pos 0)) (wire_bytes code w ++ []) first (gathers_as result mid new _ _ (sym (append-nil (wire_bytes code w))) second)

pub struct_written : {T E : Type 0} (result : Result T E) (old mid new : List ℕ) (v : Fields) → mid ≡ old ++ field_bytes 12 (pos 0) → Gathers mid new result (wire_bytes 12 (Struct v))
    → Gathers old new result (fields_bytes (Field 12 (pos 0) (Struct v) NoFields))
struct_written result old mid new v first second = tree_written result old mid new 12 (Struct v) first second
