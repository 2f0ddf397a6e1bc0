use Rattle.std.proofs.Common.{rules}
use Rattle.dump_manifest.specs.Manifests.{kind_line}
use Rattle.dump_manifest.proofs.Words.{kind_incremental}
use Rattle.dump_manifest.proofs.writing.put_kind.Goals as goal

pub returns-then-bootstrap : goal.returns-then-bootstrap
unfolding kind_line
returns-then-bootstrap c = search rules

pub returns-else-bootstrap : goal.returns-else-bootstrap
unfolding kind_line
returns-else-bootstrap c = let e = kind_incremental c.args.bootstrap c.if-bootstrap.false in search rules
