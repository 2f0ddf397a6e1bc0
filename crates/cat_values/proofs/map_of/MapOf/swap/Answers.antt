use Rattle.std.proofs.Common.{◌≡◌, ◌∙◌, None, ap, sym, rules}
use Rattle.std.specs.BTreeMap.{is_at}
use Rattle.std.specs.Map.{lookup}
use Rattle.cat_values.proofs.MapLemmas.{set_absent}
use Rattle.cat_values.proofs.map_of.MapOf.swap.Goals as goal

pub returns-in_default-clause-entries : goal.returns-in_default-clause-entries
returns-in_default-clause-entries g c =
    let none : lookup (is_at (g.K.Ord.cmp c.args.key.now)) c.args.self.now ≡ None = search rules in
    ap (λ m. m.entries) c.get_mut.follows.holds-at-none ∙ c.self.view_is ∙ sym (set_absent (is_at (g.K.Ord.cmp c.args.key.now)) c.args.self.now c.args.value none)
