use Rattle.std.proofs.Common.{◌≡◌, None, subst, rules}
use Rattle.std.specs.Cmp.Lexicographic.{slice_cmp}
use Rattle.std.specs.Ordering.{nat_cmp}
use Rattle.cat_objects.specs.Catalogue.{database, tables_of}
use Rattle.cat_objects.proofs.Rising.{none_rise}
use Rattle.cat_objects.proofs.Seeing.{Rises}
use Rattle.cat_objects.proofs.cat.Cat.seen.Goals as goal

pub returns-in-None-clause-rising : goal.returns-in-None-clause-rising
returns-in-None-clause-rising c =
    let none : None ≡ database c.args.self.now c.args.db.now = search rules in
    subst (λ o. Rises (tables_of o)) none (none_rise (slice_cmp nat_cmp))
