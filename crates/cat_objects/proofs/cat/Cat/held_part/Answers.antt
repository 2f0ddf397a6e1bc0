use Rattle.std.proofs.Common.{◌≡◌, None, subst, rules}
use Rattle.std.specs.Cmp.Lexicographic.{slice_cmp}
use Rattle.std.specs.Ordering.{nat_cmp}
use Rattle.cat_objects.specs.Catalogue.{parts_of, table}
use Rattle.cat_objects.proofs.Rising.{none_rise}
use Rattle.cat_objects.proofs.Walking.{ValuesRise}
use Rattle.cat_objects.proofs.cat.Cat.held_part.Goals as goal

pub returns-in_default-clause-rising : goal.returns-in_default-clause-rising
returns-in_default-clause-rising c =
    let none : None ≡ table c.args.self.now c.args.db.now c.args.name.now = search rules in
    subst (λ o. ValuesRise (parts_of o)) none (none_rise (slice_cmp (slice_cmp nat_cmp)))
