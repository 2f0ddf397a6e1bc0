use Rattle.std.proofs.Common.{◌≡◌, ℕ, List, [], ◌∷◌, Some, is_some, false, true, rules, refl, subst}
use Rattle.std.specs.Prelude.{IfOk}
use Rattle.cat_types.specs.declared.changes.EventKind.TheVariants as kind
use Rattle.cat_types.specs.declared.changes.Op.TheVariants.{MovePart, PutPart}
use Rattle.cat_objects.specs.Catalogue.{at_name, database}
use Rattle.cat_objects.specs.Parts.{at_values}
use Rattle.rulings.specs.Bars.{is_dumping, is_replica}
use Rattle.rulings.specs.Changes.{may_have}
use Rattle.part_rules.specs.PartChanges.{revalues}
use Rattle.rulings.specs.Meant.{seen_values, stored_values}
use Rattle.kept_records.specs.Partitions.{altered_part}
use Rattle.part_rules.proofs.Renaming.{rename_barred, rename_told}
use Rattle.part_rules.proofs.part_changes.rename_part.Goals as goal

pub returns-then-not-may_have : goal.returns-then-not-may_have
returns-then-not-may_have c =
    let there : database c.args.cat.now c.args.db.now ≡ Some c.in-Some.within.now = search rules in
    let free : is_replica c.args.bars.now c.args.db.now ≡ false = search rules in
    let inside : at_name c.args.name.now c.in-Some.within.now.tables ≡ Some c.in-Some-get.held.now = search rules in
    let stands : at_values (stored_values c.args.values.now) c.in-Some-get.held.now.parts ≡ Some c.in-Some-get-2.old.now = search rules in
    let fit : may_have (Some c.in-Some-get.held.now) (stored_values c.args.new.now.values) ≡ false = search rules in
    rename_barred c.args.cat.now c.args.bars.now c.args.db.now c.args.name.now c.in-Some.within.now c.in-Some-get.held.now there free inside c.args.values.now c.args.new.now c.args.moment c.in-Some-get-2.old.now stands c.refused-then-not-may_have.result fit c.refused-then-not-may_have.ensures

pub returns-then-eq : goal.returns-then-eq
returns-then-eq c =
    let there : database c.args.cat.now c.args.db.now ≡ Some c.in-Some.within.now = search rules in
    let free : is_replica c.args.bars.now c.args.db.now ≡ false = search rules in
    let inside : at_name c.args.name.now c.in-Some.within.now.tables ≡ Some c.in-Some-get.held.now = search rules in
    let stands : at_values (stored_values c.args.values.now) c.in-Some-get.held.now.parts ≡ Some c.in-Some-get-2.old.now = search rules in
    let fit : may_have (Some c.in-Some-get.held.now) (stored_values c.args.new.now.values) ≡ true = search rules in
    let same : revalues c.args.values.now c.args.new.now ≡ false = search rules in
    let from : seen_values c.in-Ok.from ≡ stored_values c.args.values.now = search rules in
    rename_told c.args.cat.now c.args.bars.now c.args.db.now c.args.name.now c.in-Some.within.now c.in-Some-get.held.now there free inside c.args.values.now c.args.new.now c.args.moment c.in-Some-get-2.old.now stands false c.alters.result c.changed.result same fit refl refl
    (subst (λ (v : List (List ℕ)). IfOk c.alters.result (λ change. change ≡ record { kind = kind.AlterPartition; db = c.args.db.now; db_born = c.in-Some.within.now.born; ops = PutPart c.args.name.now c.in-Some-get.held.now.born v (altered_part c.in-Some-get-2.old.now c.args.new.now.rec c.args.moment) ∷ [] })) from c.alters.ensures) c.changed.ensures.ok c.changed.ensures.err

pub returns : goal.returns
returns c =
    let there : database c.args.cat.now c.args.db.now ≡ Some c.in-Some.within.now = search rules in
    let free : is_replica c.args.bars.now c.args.db.now ≡ false = search rules in
    let inside : at_name c.args.name.now c.in-Some.within.now.tables ≡ Some c.in-Some-get.held.now = search rules in
    let stands : at_values (stored_values c.args.values.now) c.in-Some-get.held.now.parts ≡ Some c.in-Some-get-2.old.now = search rules in
    let fit : may_have (Some c.in-Some-get.held.now) (stored_values c.args.new.now.values) ≡ true = search rules in
    let other : revalues c.args.values.now c.args.new.now ≡ true = search rules in
    let from : seen_values c.in-Ok.from ≡ stored_values c.args.values.now = search rules in
    let to : seen_values c.in-Ok-of.to ≡ stored_values c.args.new.now.values = search rules in
    let quiet : is_dumping c.args.bars.now c.args.db.now ≡ false = search rules in
    let room : is_some (at_values (stored_values c.args.new.now.values) c.in-Some-get.held.now.parts) ≡ false = search rules in
    rename_told c.args.cat.now c.args.bars.now c.args.db.now c.args.name.now c.in-Some.within.now c.in-Some-get.held.now there free inside c.args.values.now c.args.new.now c.args.moment c.in-Some-get-2.old.now stands true c.moves.result c.changed-2.result other fit quiet room
    (subst (λ (w : List (List ℕ)). IfOk c.moves.result (λ change. change ≡ record { kind = kind.AlterPartition; db = c.args.db.now; db_born = c.in-Some.within.now.born; ops = MovePart c.args.name.now c.in-Some-get.held.now.born (stored_values c.args.values.now) w (altered_part c.in-Some-get-2.old.now c.args.new.now.rec c.args.moment) ∷ [] })) to
    (subst (λ (v : List (List ℕ)). IfOk c.moves.result (λ change. change ≡ record { kind = kind.AlterPartition; db = c.args.db.now; db_born = c.in-Some.within.now.born; ops = MovePart c.args.name.now c.in-Some-get.held.now.born v (seen_values c.in-Ok-of.to) (altered_part c.in-Some-get-2.old.now c.args.new.now.rec c.args.moment) ∷ [] })) from c.moves.ensures)) c.changed-2.ensures.ok c.changed-2.ensures.err
