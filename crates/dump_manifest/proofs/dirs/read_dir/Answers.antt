use Rattle.std.proofs.Common.{rules}
use Rattle.dump_manifest.proofs.Folders.{dir_read, short_dir}
use Rattle.dump_manifest.proofs.dirs.read_dir.Goals as goal

pub returns-then-bytes-lt-SOURCE_DIGITS : goal.returns-then-bytes-lt-SOURCE_DIGITS
returns-then-bytes-lt-SOURCE_DIGITS c = λ value fits same. short_dir c.args.dir.now c.as_bytes-bytes.result.now value (search rules) fits same c.if-bytes-lt-SOURCE_DIGITS.true

pub returns : goal.returns
returns c = dir_read c.args.dir.now c.as_bytes-bytes.result.now c.split_at.result.0.now c.split_at.result.1.now c.read_parts.result (search rules) c.split_at.ensures.front c.split_at.ensures.back c.split_at.ensures.front_len c.read_parts.ensures.some c.read_parts.ensures.none
