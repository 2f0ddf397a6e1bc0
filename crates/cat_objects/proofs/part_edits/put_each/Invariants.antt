use Rattle.std.proofs.Common.{◌≡◌, drop}
use Rattle.cat_objects.specs.Changes.{unput}
use Rattle.cat_objects.specs.Placing.{put_all}
use Rattle.cat_objects.proofs.part_edits.put_each.Given as goal

abbrev pub invariant-loop-op : goal.invariant-loop-op
invariant-loop-op l = record {
  done : put_all l.fn.ops l.fn.parts ≡ put_all (drop l.op-index l.fn.ops) l.parts;
  back : unput l.puts.items l.parts ≡ unput l.fn.puts.items l.fn.parts;
}
