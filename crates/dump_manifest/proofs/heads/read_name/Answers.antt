use Rattle.std.proofs.Common.{subst, sym}
use Rattle.std.specs.Str.{IsUtf8}
use Rattle.dump_manifest.proofs.Names.{name_utf8}
use Rattle.dump_manifest.proofs.heads.read_name.Goals as goal

pub returns-in-Err : goal.returns-in-Err
returns-in-Err c = λ value fits same. c.in-Err.ensures.cases.0 (subst IsUtf8 (sym same) (name_utf8 value fits))
