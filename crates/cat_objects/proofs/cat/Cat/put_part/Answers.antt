use Rattle.std.proofs.Common.{◌≡◌, ℕ, List, true, false, ap, ◌∙◌, rules}
use Rattle.std.proofs.lemmas.Result.{on_ok_weaker}
use Rattle.cat_values.specs.declared.records.PartRec.{PartRec}
use Rattle.cat_objects.specs.Catalogue.{has_part}
use Rattle.cat_objects.specs.Changes.{changed_parts, changed_tables}
use Rattle.cat_objects.proofs.Putting.{inserted_part, part_missing, part_there, replaced_part}
use Rattle.cat_objects.proofs.cat.Cat.put_part.Goals as goal

pub returns-then-has_part : goal.returns-then-has_part
returns-then-has_part c =
    let there : has_part c.args.self.now c.args.db.now c.args.name.now c.args.values.now ≡ true = search rules in
    c.swap_part.ensures
    ∙ ap (λ (rec : PartRec). changed_tables c.args.db.now (changed_parts c.args.name.now (replaced_part c.args.values.now rec)) c.args.self.now) c.in_ok-rec.ensures
    ∙ part_there c.args.self.now c.args.db.now c.args.name.now c.args.values.now c.args.rec.now there

pub returns : goal.returns
returns c =
    let free : has_part c.args.self.now c.args.db.now c.args.name.now c.args.values.now ≡ false = search rules in
    on_ok_weaker c.insert_part.result
    (λ is. is
    ∙ ap (λ (p : List (List ℕ) × PartRec). changed_tables c.args.db.now (changed_parts c.args.name.now (inserted_part p.0 p.1)) c.args.self.now) c.in_ok-values.ensures
    ∙ part_missing c.args.self.now c.args.db.now c.args.name.now c.args.values.now c.args.rec.now free)
    c.insert_part.ensures.ok
