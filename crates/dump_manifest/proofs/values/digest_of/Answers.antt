use Rattle.std.proofs.Common.{rules}
use Rattle.hex.specs.Hex.{encode_lower}
use Rattle.dump_manifest.proofs.Spelled.{hex_reads, is_not_err, is_the_same, spelled_again}
use Rattle.dump_manifest.proofs.values.digest_of.Goals as goal

pub returns-in-Err : goal.returns-in-Err
returns-in-Err c = λ value fits same. is_not_err _ value _ c.in-Err.is (hex_reads value _ 32 _ fits same c.from_hex.ensures)

pub returns-else-eq : goal.returns-else-eq
returns-else-eq c = λ value fits same.
    let read = hex_reads value _ 32 c.from_hex.result fits same c.from_hex.ensures in
    spelled_again encode_lower c.in-Ok.digest value _ _ _ same (is_the_same _ _ _ c.in-Ok.is read) (search rules) c.eq.ensures c.if-eq.false
