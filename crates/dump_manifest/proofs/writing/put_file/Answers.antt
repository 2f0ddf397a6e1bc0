use Rattle.std.proofs.Common.{rules}
use Rattle.dump_manifest.proofs.Words.{file_end}
use Rattle.dump_manifest.proofs.writing.put_file.Goals as goal

pub returns : goal.returns
returns c = let e = file_end c.args.file.now in search rules
