use Rattle.std.proofs.Common.{◌≡◌, ℕ, List, true, ap, ◌∙◌, rules}
use Rattle.cat_types.specs.declared.changes.Op.TheVariants.{MoveTable}
use Rattle.cat_values.specs.declared.records.TableRec.{TableRec}
use Rattle.cat_objects.specs.Changes.{changed_tables, fits_op}
use Rattle.cat_objects.proofs.Editing.{inserted}
use Rattle.cat_objects.proofs.PlacedBack.{move_table}
use Rattle.cat_objects.proofs.Taking.{to_is_free}
use Rattle.cat_objects.proofs.cat.Cat.replay_move.Goals as goal

pub returns : goal.returns
returns c =
    let may : fits_op c.args.self.now c.args.db.now (MoveTable c.args.name.now c.args.born c.args.to.now c.args.rec.now) ≡ true = search rules in (
      search rules,
      λ _. c.settle_move.ensures
          ∙ (move_table c.args.self.now c.insert_table.new.self c.args.db.now c.args.name.now c.args.to.now c.args.born c.args.rec.now (to_is_free c.args.self.now c.args.db.now c.args.name.now c.args.born c.args.to.now c.args.rec.now may)
          (c.in_ok-insert_table.ensures.ok ∙ ap (λ (p : List ℕ × TableRec). changed_tables c.args.db.now (inserted p.0 c.args.born p.1) c.args.self.now) c.in_ok-new.ensures)).0,
    )
