use Rattle.std.proofs.Common.{◌≡◌, ◌∙◌, None, ap, sym, rules}
use Rattle.std.specs.BTreeMap.{is_at}
use Rattle.std.specs.Map.{lookup}
use Rattle.cat_objects.proofs.Maps.{set_absent}
use Rattle.cat_objects.proofs.parts.swap_value.Goals as goal

pub returns-in_default-clause-entries : goal.returns-in_default-clause-entries
returns-in_default-clause-entries g c =
    let none : lookup (is_at (g.K.Ord.cmp c.args.key.now)) c.args.inner.now.entries ≡ None = search rules in
    ap (λ m. m.entries) c.get_mut.follows.holds-at-none ∙ sym (set_absent (is_at (g.K.Ord.cmp c.args.key.now)) c.args.inner.now.entries c.args.value none)
