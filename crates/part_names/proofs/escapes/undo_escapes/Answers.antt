use Rattle.std.proofs.Common.{lit<}
use Rattle.std.proofs.lemmas.Str.Pattern.{split_parts}
use Rattle.part_names.proofs.Undoing.{undone_more, undone_all, undone_short}
use Rattle.part_names.proofs.escapes.undo_escapes.Goals as goal

pub loop-before-preserved : goal.loop-before-preserved
loop-before-preserved c =
    let parts = split_parts 37 c.loop-before.rest.now c.split_once.result c.split_once.ensures.cases (lit< tt) in
    let at_some = rw c.in-Some.is at parts in record {
      utf8 = c.in_ok-rest.ensures.utf8;
      so_far = undone_more _ _ _ _ _ _ _ c.args.text.now at_some.0 at_some.1 c.loop-before.invariant.so_far c.in_ok-push_str.ensures.bytes c.in_ok-rest.ensures.read;
    }

pub returns-clause-plain : goal.returns-clause-plain
returns-clause-plain c =
    let parts = split_parts 37 c.loop-before.rest.now c.split_once.result c.split_once.ensures.cases (lit< tt) in
    let at_none = rw c.in_default.is at parts in
    undone_all _ _ _ c.args.text.now at_none c.loop-before.invariant.so_far c.in_ok-push_str-2.ensures.bytes

pub returns-clause-shorter : goal.returns-clause-shorter
returns-clause-shorter c = undone_short _ c.args.text.now _ c.push_str-2.new.self.bytes.ok.0 (returns-clause-plain c)
