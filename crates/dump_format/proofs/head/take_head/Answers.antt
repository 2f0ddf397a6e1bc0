use Rattle.std.proofs.Common.{◌∙◌, sym, subst, ℕ, List, Option, Some}
use Rattle.dump_format.specs.Harms.{IsFound}
use Rattle.dump_format.proofs.Heads.{got, taken}
use Rattle.dump_format.proofs.head.take_head.Goals as goal

pub returns-in-Ok-Some-clause-taken : goal.returns-in-Ok-Some-clause-taken
returns-in-Ok-Some-clause-taken g c =
    let there = subst (λ (found : Option (List ℕ)). IsFound (g.F.Folder.files c.args.folder.now) c.as_str.result.now found) c.in-Ok-Some.field-0-is
    (got (g.F.Folder.files c.args.folder.now) (g.F.Folder.files c.get.new.self) _ c.in-Ok-Some.field-0 c.in-Ok-Some.ensures.files) in
    let named = c.as_str.ensures.value ∙ c.in-Ok.ensures in
    taken (g.F.Folder.files c.args.folder.now) c.args.dir.now c.in-Some.named.0 c.in-Some.named.1 _ c.judge_head.result c.in-Some.ensures
    (subst (λ (bytes : List ℕ). IsFound (g.F.Folder.files c.args.folder.now) bytes (Some c.as_slice.result.now)) named
    (subst (λ (bytes : List ℕ). IsFound (g.F.Folder.files c.args.folder.now) c.as_str.result.now (Some bytes)) (sym c.as_slice.ensures.items) there))
    c.judge_head.ensures.judged
