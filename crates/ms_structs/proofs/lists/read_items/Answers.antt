use Rattle.std.proofs.Common.{◌≡◌, refl, ap, ◌∙◌, sym, subst, arith, rules, Option, Some, List, [], ◌+◌}
use Rattle.std.specs.Bool.{⊤}
use Rattle.std.proofs.lemmas.Result.{err_from_is_err_and}
use Rattle.thrift_binary.specs.Taking.{Took}
use Rattle.thrift_binary.specs.Tree.{Wire}
use Rattle.ms_structs.specs.Slots.{typed}
use Rattle.ms_structs.specs.Values.{fold_elements, with_item}
use Rattle.ms_structs.proofs.Getting.{refused_there}
use Rattle.ms_structs.proofs.ElementsSoFar.{SomeElements, elements_none, elements_more, elements_stop, some_begun, fold_push_element}
use Rattle.ms_structs.proofs.lists.read_items.Goals as goal

pub loop-init : goal.loop-init
loop-init g c = record { same_source = refl; stays = refl; so_far = elements_none _ _ _ _ c.requires.unspent c.args.reader.now.within (ap Some c.new.ensures) }

pub returns-in_err-item-clause-reads : goal.returns-in_err-item-clause-reads
returns-in_err-item-clause-reads g c =
    let p = err_from_is_err_and c.from_residual.result c.from_residual.ensures.1 in
    rw (p.1, p.2) (elements_stop _ _ _ _ _ _ c.args.ty c.loop.counter c.args.count _ c.in_err-item.field-0.0 c.requires.code c.loop-test.true c.loop.invariant.so_far c.in_err-item.ensures.reads)

pub loop-preserved : goal.loop-preserved
loop-preserved g c =
    let add = λ (so : Option (List g.row.T-Value.Denot)) (w : Wire). with_item so (typed g.T.FromWire.CODE g.T.FromWire.means c.args.ty w) in
    record {
      same_source = search rules;
      stays = c.in_ok-item.ensures.stays ∙ c.loop.invariant.stays;
      so_far = elements_more _ _ _ _ _ _ c.args.ty c.loop.counter (c.loop.counter + 1) _ _ _ (omega arith) (λ es w so says. c.in-Ok.ensures ∙ ap (λ x. with_item x c.in_ok-item.item) so ∙ ap (λ x. with_item (fold_elements add (Some []) es) x) says ∙ sym (fold_push_element add (Some []) es w))
          c.loop.invariant.so_far c.in_ok-item.ensures.reads;
    }

pub returns-in-Err-clause-reads : goal.returns-in-Err-clause-reads
returns-in-Err-clause-reads g c =
    refused_there _ _ _ _ _ _ _ _ _ _ (some_begun _ c.args.ty (c.loop.counter + 1) c.args.count _ c.requires.code (omega (arith, c.loop-test.true))) (elements_more _ _ _ _ _ _ c.args.ty c.loop.counter (c.loop.counter + 1) _ (λ _. ⊤) _ (omega arith) (λ es w so says. tt) c.loop.invariant.so_far c.in_ok-item.ensures.reads)
    (ap g.S.Source.left c.refused.ensures.source) c.refused.ensures.kept c.refused.ensures.same

pub returns-clause-reads : goal.returns-clause-reads
returns-clause-reads g c =
    let all : c.loop.counter ≡ c.args.count = omega arith in
    subst (λ n. Took (g.S.Source.left c.args.reader.now.source.now) (g.S.Source.left c.loop.reader.source.now) c.args.reader.now.progress c.loop.reader.progress (SomeElements c.args.reader.now.progress.room c.args.ty n (λ es. c.loop.items ≡ fold_elements (λ so w. with_item so (typed g.T.FromWire.CODE g.T.FromWire.means c.args.ty w)) (Some []) es))) all c.loop.invariant.so_far
