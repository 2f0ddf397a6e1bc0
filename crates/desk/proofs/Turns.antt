-- How turns of others go on.
use Rattle.std.proofs.Common.{◌≡◌, ◌≤◌, List, [], ◌∷◌, ◌++◌, ◌∙◌, sym, ap, append_assoc, arith}
use Rattle.desk.specs.Entries.{Others}
use Rattle.desk.specs.History.{Entry}
use Rattle.desk.specs.Scripts.{AskedBy, IsAskedBy}
use Rattle.desk.specs.declared.foreign.Foreign.{Foreign}

asked_push : (ts : List Foreign) (es : List Entry) (t : Foreign) (e : Entry) → AskedBy ts es → IsAskedBy t e → AskedBy (ts ++ t ∷ []) (es ++ e ∷ [])
asked_push [] [] t e all one = (one, tt)
asked_push [] (x ∷ es) t e all one = absurd all
asked_push (y ∷ ts) [] t e all one = absurd all
asked_push (y ∷ ts) (x ∷ es) t e all one = (all.0, asked_push ts es t e all.1 one)

-- and then another took a turn
pub another : (old mid new between : List Entry) (ts : List Foreign) (t : Foreign) (e : Entry) → AskedBy ts between → mid ≡ old ++ between → IsAskedBy t e → new ≡ mid ++ e ∷ []
    → (more : List Entry) × AskedBy (ts ++ t ∷ []) more × (new ≡ old ++ more)
another old mid new between ts t e all is one now =
    (between ++ e ∷ [], asked_push ts between t e all one, now ∙ ap (λ (l : List Entry). l ++ e ∷ []) is ∙ append_assoc old between (e ∷ []))

-- foreign turns are others'
pub are_others : (ts : List Foreign) (es : List Entry) → AskedBy ts es → Others 0 es
are_others [] [] all = tt
are_others [] (e ∷ es) all = absurd all
are_others (t ∷ ts) [] all = absurd all
are_others (t ∷ ts) (e ∷ es) all =
    let other : 1 ≤ t.caller = t.other in
    let same : e.0.caller ≡ t.caller = all.0.0 in
    ((λ zero. omega (arith, other, same, zero)), are_others ts es all.1)

-- the next of the turns to come was taken
pub next_taken : (all taken left after : List Foreign) (t : Foreign) → all ≡ taken ++ left → left ≡ t ∷ after → all ≡ (taken ++ t ∷ []) ++ after
next_taken all taken left after t is front = is ∙ ap (λ (l : List Foreign). taken ++ l) front ∙ sym (append_assoc taken (t ∷ []) after)

-- others' turns came before an own one
pub own_behind : (old mid new between : List Entry) (e : Entry) → mid ≡ old ++ between → new ≡ mid ++ e ∷ [] → new ≡ (old ++ between) ++ e ∷ []
own_behind old mid new between e is now = now ∙ ap (λ (l : List Entry). l ++ e ∷ []) is
