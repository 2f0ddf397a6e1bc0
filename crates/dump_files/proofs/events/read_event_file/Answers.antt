use Rattle.std.proofs.Common.{None, arith}
use Rattle.std.specs.List.{last_or}
use Rattle.change_codec.specs.Records.{newest}
use Rattle.change_codec.proofs.Lawful.{event-lawful}
use Rattle.dump_files.specs.Events.{event_file, event_stands}
use Rattle.dump_files.proofs.Spelled.{file-lawful}
use Rattle.dump_files.proofs.Whole.{reads_file}
use Rattle.dump_files.proofs.events.read_event_file.Goals as goal

pub returns : goal.returns
returns c =
    let last = last_or None c.args.events.now in
    reads_file (event_file c.args.bounds.now last) (file-lawful (event_stands c.args.bounds.now) _ (event-lawful newest) last) c.args.bytes.now (λ i. omega (arith, c.type_inv.bytes i))
    c.args.events.now c.read_file.new.elements c.read_file.result c.read_file.ensures.kept c.read_file.ensures.exact
