use Rattle.std.proofs.Common.{◌≡◌, ◌++◌, take, map}
use Rattle.dump_manifest.specs.Manifests.{file_line, lines_text}
use Rattle.dump_manifest.proofs.writing.put_files.Given as goal

abbrev pub invariant-loop-file : goal.invariant-loop-file
invariant-loop-file l = l.out ≡ l.fn.out ++ lines_text (map file_line (take l.file-index l.files))
