use Rattle.std.proofs.Common.{◌≡◌, true, subst, sym, ◌∙◌, rules}
use Rattle.std.specs.Cmp.Lexicographic.{slice_cmp, nat_list_cmp_total}
use Rattle.std.specs.List.Sorted.{IsStrictlySortedBy}
use Rattle.std.specs.Map.{keys_of}
use Rattle.std.specs.Ordering.{nat_cmp}
use Rattle.kept_records.specs.Tables.{keeps_column}
use Rattle.kept_records.proofs.Keeping.{kept_one}
use Rattle.kept_records.proofs.statistics.kept_stats.Goals as goal

pub loop-name-preserved-in-Continue-branch-2 : goal.loop-name-preserved-in-Continue-branch-2
loop-name-preserved-in-Continue-branch-2 c =
    let passes : keeps_column c.args.old.now c.args.new.now c.in-Some.name.now ≡ true = search rules in
    kept_one (keeps_column c.args.old.now c.args.new.now) (slice_cmp nat_cmp) nat_list_cmp_total c.loop-name.kept c.put.new.self c.loop-name.name-iterator c.next.new.self c.args.stats.now
    c.in-Some.name.now c.in_ok-new_name.new_name c.in-Some.stat.now
    c.iter-name-items.ensures.sorted c.loop-name.invariant c.in-Some.ensures.steps passes c.in_ok-put.ensures.ok c.in_ok-new_name.ensures
