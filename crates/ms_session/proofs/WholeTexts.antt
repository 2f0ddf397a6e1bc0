-- A session over a text that is known.
use Rattle.std.proofs.Common.{◌≡◌, ℕ, ◌+◌, ◌≤◌, List, [], ◌∷◌, ◌++◌, length, map, Option, Some, None, refl, sym, ap, ◌∙◌, subst, append_assoc, arith, inl, inr}
use Rattle.std.specs.Io.KnownBytes.{Consumes, IsAtEnd}
use Rattle.std.proofs.lemmas.List.{append-nil}
use Rattle.desk.specs.History.{Entry}
use Rattle.thrift_binary.specs.Messages.{Asks, Message, Ending, Boundary, Truncated, Bad_at, Large_at, Ends, AreMessages, Spells}
use Rattle.thrift_binary.specs.Laws.{IsFinal}
use Rattle.thrift_binary.specs.Taking.{room_at}
use Rattle.thrift_binary.proofs.OneText.{cut_anywhere, ends_at_boundary, one_more, reads_one_way, stays_so}
use Rattle.ms_session.specs.Laws.{AllAnswered, EndsWith, WholeTextsAreServed}
use Rattle.ms_session.specs.Session.{IsBad, IsLarge, IsShutdown, Met, Served}
use Rattle.ms_session.specs.Turns.{Turn}
use Rattle.ms_session.specs.declared.end.End.TheVariants as ended

-- the messages that were carried out
abbrev messages_of : List Turn → List Message
messages_of turns = map (λ (turn : Turn). turn.message) turns

-- what was lost of a text, and what is left of it
divided : (left : Option (List ℕ)) (text bytes : List ℕ) → Consumes (Some text) left bytes → (more : List ℕ) × (left ≡ Some more) × (text ≡ bytes ++ more)
divided None text bytes lost = absurd lost
divided (Some more) text bytes lost = (more, refl, lost)

whole : (left : Option (List ℕ)) (text bytes : List ℕ) → Consumes (Some text) left bytes → IsAtEnd left → text ≡ bytes
whole None text bytes lost end = absurd lost
whole (Some more) text bytes lost end = lost ∙ ap (λ (m : List ℕ). bytes ++ m) end ∙ append-nil bytes

-- all messages that a session answered
answered : (old new : Met) (entries : List Entry) (messages : List Message) (Rest : ℕ → List ℕ → Type 0) (s : Served old new entries Rest) → messages_of s.turns ≡ messages → AllAnswered old new entries messages
answered old new entries messages Rest s are = record { turns = s.turns; bytes = s.taken; are = are; carried = s.carried; replied = s.replied }

-- the messages of a session and what stands behind them are a text
spelled : (old new : Met) (entries : List Entry) (ending : Ending) (Rest : ℕ → List ℕ → Type 0) (s : Served old new entries Rest) → Ends Asks (length s.taken) s.rest ending → Spells (s.taken ++ s.rest) (messages_of s.turns) ending
spelled old new entries ending Rest s ends = record {
  whole = s.taken;
  rest = s.rest;
  parts = refl;
  spelled = s.carried.spelled;
  ends = subst (λ (n : ℕ). Ends Asks n s.rest ending) (omega arith) ends;
}

-- the session took the whole text
to_the_end : (old new : Met) (entries : List Entry) (text : List ℕ) (messages : List Message) (ending other : Ending) (Rest : ℕ → List ℕ → Type 0) (s : Served old new entries Rest)
    → old.left ≡ Some text → Spells text messages ending → Ends Asks (length s.taken) s.rest other → IsAtEnd new.left → AllAnswered old new entries messages × (ending ≡ other)
to_the_end old new entries text messages ending other Rest s is spells ends end =
    let all : text ≡ s.taken ++ s.rest = whole new.left text (s.taken ++ s.rest) (subst (λ (l : Option (List ℕ)). Consumes l new.left (s.taken ++ s.rest)) is s.lost) end in
    let one = reads_one_way Asks 0 text messages (messages_of s.turns) ending other spells (subst (λ (t : List ℕ). Spells t (messages_of s.turns) other) (sym all) (spelled old new entries other Rest s ends)) in
    (answered old new entries messages Rest s (sym one.0), one.1)

-- the session met what ends a text for good
for_good : (old new : Met) (entries : List Entry) (text : List ℕ) (messages : List Message) (ending other : Ending) (Rest : ℕ → List ℕ → Type 0) (s : Served old new entries Rest)
    → old.left ≡ Some text → Spells text messages ending → Ends Asks (length s.taken) s.rest other → IsFinal other → AllAnswered old new entries messages × (ending ≡ other)
for_good old new entries text messages ending other Rest s is spells ends final =
    let d = divided new.left text (s.taken ++ s.rest) (subst (λ (l : Option (List ℕ)). Consumes l new.left (s.taken ++ s.rest)) is s.lost) in
    let so = stays_so Asks 0 (s.taken ++ s.rest) d.0 (messages_of s.turns) other final (spelled old new entries other Rest s ends) in
    let one = reads_one_way Asks 0 text messages (messages_of s.turns) ending other spells (subst (λ (t : List ℕ). Spells t (messages_of s.turns) other) (sym d.2) so) in
    (answered old new entries messages Rest s (sym one.0), one.1)

-- the session was asked for its end
at_shutdown : (old new : Met) (entries : List Entry) (text : List ℕ) (messages : List Message) (ending : Ending) → old.left ≡ Some text → Spells text messages ending → Served old new entries IsShutdown → EndsWith old new entries messages ending ended.Shutdown
at_shutdown old new entries text messages ending is spells s =
    let last = s.behind.0 in
    let before = messages_of s.turns in
    let d = divided new.left text (s.taken ++ s.rest) (subst (λ (l : Option (List ℕ)). Consumes l new.left (s.taken ++ s.rest)) is s.lost) in
    let here : length s.taken ≡ 0 + length s.taken = omega arith in
    let are : AreMessages Asks 0 (before ++ last ∷ []) (s.taken ++ s.rest) = one_more Asks before last 0 s.taken s.rest s.carried.spelled s.behind.1 (subst (λ (n : ℕ). length s.rest ≤ room_at n) here s.behind.3) in
    let cut = cut_anywhere Asks 0 (s.taken ++ s.rest) d.0 (before ++ last ∷ []) messages Boundary ending (ends_at_boundary Asks 0 (before ++ last ∷ []) (s.taken ++ s.rest) are) (subst (λ (t : List ℕ). Spells t messages ending) d.2 spells) in
    (before, last, cut.0, cut.1 ∙ append_assoc before (last ∷ []) cut.0, s.behind.2, answered old new entries before IsShutdown s refl)

-- what was judged ends the text, whatever follows it
bad_ends : (code place at : ℕ) (rest : List ℕ) → IsBad code place at rest → Ends Asks at rest (Bad_at code place)
bad_ends code place at rest h = (rest, [], h.0, sym (append-nil rest), h.1, h.2, h.3)

large_ends : (place at : ℕ) (rest : List ℕ) → IsLarge place at rest → Ends Asks at rest (Large_at place)
large_ends place at rest (inl h) = inl (rest, [], h.0, sym (append-nil rest), h.1, h.2, h.3)
large_ends place at rest (inr h) = inr (h.0, [], h.1, h.2, h.3, h.4, h.5)

pub served : WholeTextsAreServed
served old new entries ended.Done text messages ending is spells s = to_the_end old new entries text messages ending Boundary _ s is spells s.behind.0 s.behind.1
served old new entries ended.Shutdown text messages ending is spells s = at_shutdown old new entries text messages ending is spells s
served old new entries (ended.Truncated place) text messages ending is spells s = to_the_end old new entries text messages ending (Truncated place) _ s is spells s.behind.0 s.behind.1
served old new entries (ended.BadWire code place) text messages ending is spells s = for_good old new entries text messages ending (Bad_at code place) _ s is spells (bad_ends code place (length s.taken) s.rest s.behind) tt
served old new entries (ended.TooLarge place) text messages ending is spells s = for_good old new entries text messages ending (Large_at place) _ s is spells (large_ends place (length s.taken) s.rest s.behind) tt
served old new entries ended.ReadFault text messages ending is spells s = tt
served old new entries ended.WriteFault text messages ending is spells s = tt
served old new entries ended.NoMemory text messages ending is spells s = tt
