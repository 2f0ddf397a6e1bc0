use Rattle.std.proofs.Common.{◌∙◌}
use Rattle.repl_dump.specs.Files.{next_file, written_of}
use Rattle.repl_dump.proofs.Writing.{put_stays, put_text, same_line}
use Rattle.repl_dump.proofs.writer.Writer.put.Goals as goal

pub returns-in-Ok-add-clause-put : goal.returns-in-Ok-add-clause-put
returns-in-Ok-add-clause-put g c = record {
  dir_stays = c.in-Ok-add.ensures.dir;
  end_stays = c.in-Ok-add.ensures.end;
  lines = same_line _ _ _ _ _ _ c.in-Ok.ensures.name c.as_slice-2.ensures.items c.in-Ok-add.ensures.lines;
  items = c.in-Ok-add.ensures.items;
  events = c.in-Ok-add.ensures.events;
  text = put_text c.args.self.now.dir (next_file c.args.kind c.args.bytes.now c.args.self.now) _ _ _ _ (c.as_str.ensures.bytes ∙ c.in-Ok.ensures.path) c.as_slice.ensures.items c.in_ok-put.ensures.files;
}

pub returns-in-Ok-add-clause-stays : goal.returns-in-Ok-add-clause-stays
returns-in-Ok-add-clause-stays g c = put_stays c.args.self.now.dir c.args.kind (written_of c.args.kind c.args.self.now) _ _ _ _ (c.as_str.ensures.bytes ∙ c.in-Ok.ensures.path) c.in_ok-put.ensures.files

pub returns-clause-stays : goal.returns-clause-stays
returns-clause-stays g c = put_stays c.args.self.now.dir c.args.kind (written_of c.args.kind c.args.self.now) _ _ _ _ (c.as_str.ensures.bytes ∙ c.in-Ok.ensures.path) c.in_ok-put.ensures.files
