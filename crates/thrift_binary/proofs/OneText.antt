-- A text spells one list of messages, and ends in one way, wherever it is cut.
use Rattle.std.proofs.Common.{◌≡◌, ◌≢◌, ℕ, ◌+◌, ◌<◌, ◌≤◌, ◌⊎◌, List, [], ◌∷◌, ◌++◌, length, refl, sym, ap, ◌∙◌, subst, append_assoc, append-nil, length-append, arith, inl, inr}
use Rattle.thrift_binary.specs.Taking.{Stop, Cut, Bad, Large, room_at}
use Rattle.thrift_binary.specs.Messages.{Message, IsMessage, StopsMessage, AreMessages, Ending, Boundary, Truncated, Bad_at, Large_at, Ends, SpellsFrom}
use Rattle.thrift_binary.specs.Laws.{IsFinal, NoMessageBeginsAnother, ReadsOneWay, GoesOn, IsCutAnywhere, StaysSo}
use Rattle.thrift_binary.proofs.Determined.{Agree, regrouped, rest_same, split_length, no_proper_front}
use Rattle.thrift_binary.proofs.Walking.{AreAll, Beyond, Walked, walk}
use Rattle.thrift_binary.proofs.OneMessage.{determined_message, some_message, nothing_wrong}

bad_no_cut : (code q : ℕ) → Bad code q ≡ Cut → ⊥
bad_no_cut code q e = subst is_bad e tt
  where
    is_bad : Stop → Type 0
    is_bad Cut = ⊥
    is_bad (Bad code place) = Unit {0}
    is_bad (Large place) = ⊥

large_no_cut : (q : ℕ) → Large q ≡ Cut → ⊥
large_no_cut q e = subst is_large e tt
  where
    is_large : Stop → Type 0
    is_large Cut = ⊥
    is_large (Bad code place) = ⊥
    is_large (Large place) = Unit {0}

module _ (Kinds : ℕ → Type 0) where
  pub message_begins_no_other : NoMessageBeginsAnother Kinds
  message_begins_no_other m o x more p q = no_proper_front (IsMessage Kinds) (StopsMessage Kinds) (determined_message Kinds) m o x more p q

  -- ---- an end, by its stop

  -- what is told for a stop behind these bytes, with more bytes behind them
  abbrev Told : ℕ → List ℕ → Stop → List ℕ → Ending → Type 0
  Told at front Cut [] end = end ≡ Truncated (at + length front)
  Told at front Cut (byte ∷ more) end = (length front ≡ room_at at) × (end ≡ Large_at (at + length front))
  Told at front (Bad code q) more end = end ≡ Bad_at code (at + q)
  Told at front (Large q) more end = end ≡ Large_at (at + q)

  -- the text stops to spell a message
  record Stands (at : ℕ) (rest : List ℕ) (end : Ending) : Type 0 where
    pub front : List ℕ
    pub more : List ℕ
    pub stop : Stop
    pub parts : rest ≡ front ++ more
    pub stops : StopsMessage Kinds stop front
    pub within : length front ≤ room_at at
    pub told : Told at front stop more end
    pub some : 0 < length rest

  -- where something is wrong, some bytes stand
  wrong_some : (s : Stop) (rest front more : List ℕ) → (s ≡ Cut → ⊥) → StopsMessage Kinds s front → rest ≡ front ++ more → 0 < length rest
  wrong_some s rest [] more wrong stop parts = absurd (wrong (nothing_wrong Kinds s stop))
  wrong_some s rest (byte ∷ front) more wrong stop parts = omega (arith, split_length rest (byte ∷ front) more parts)

  not_empty : (xs : List ℕ) → xs ≢ [] → 0 < length xs
  not_empty [] some = absurd (some refl)
  not_empty (x ∷ xs) some = omega (arith)

  ended : (at : ℕ) (rest : List ℕ) (end : Ending) → Ends Kinds at rest end → ((rest ≡ []) × (end ≡ Boundary)) ⊎ Stands at rest end
  ended at rest Boundary e = inl (e, refl)
  ended at rest (Truncated place) e =
      inr (record { front = rest; more = []; stop = Cut; parts = sym (append-nil rest); stops = e.1; within = e.2; told = ap Truncated e.3; some = not_empty rest e.0 })
  ended at rest (Bad_at code place) e =
      inr (record { front = e.0; more = e.1; stop = Bad code e.2; parts = e.3; stops = e.4; within = e.5; told = ap (Bad_at code) e.6; some = wrong_some (Bad code e.2) rest e.0 e.1 (bad_no_cut code e.2) e.4 e.3 })
  ended at rest (Large_at place) (inl e) =
      inr (record { front = e.0; more = e.1; stop = Large e.2; parts = e.3; stops = e.4; within = e.5; told = ap Large_at e.6; some = wrong_some (Large e.2) rest e.0 e.1 (large_no_cut e.2) e.4 e.3 })
  ended at rest (Large_at place) (inr e) =
      inr (record { front = e.0; more = e.2 ∷ e.1; stop = Cut; parts = e.3; stops = e.4; within = omega (arith, e.5); told = (e.5, ap Large_at e.6); some = omega (arith, split_length rest e.0 (e.2 ∷ e.1) e.3) })

  -- where a message is cut, its bytes reach as far as a message can
  cut_reaches : (at : ℕ) (rest front more : List ℕ) (s : Stop) (end : Ending) → s ≡ Cut → Told at front s more end → rest ≡ front ++ more → (other others : List ℕ) → rest ≡ other ++ others → length other ≤ room_at at → length other ≤ length front
  cut_reaches at rest front [] Cut end is told parts other others as_parts within = omega (arith, split_length rest front [] parts, split_length rest other others as_parts)
  cut_reaches at rest front (byte ∷ more) Cut end is told parts other others as_parts within = omega (arith, told.0, within)
  cut_reaches at rest front more (Bad code q) end is told parts other others as_parts within = absurd (bad_no_cut code q is)
  cut_reaches at rest front more (Large q) end is told parts other others as_parts within = absurd (large_no_cut q is)

  -- no message stands where a text ends
  no_more : (at : ℕ) (rest : List ℕ) (end : Ending) → ((rest ≡ []) × (end ≡ Boundary)) ⊎ Stands at rest end → (m : Message) (front more : List ℕ) → IsMessage Kinds m front → length front ≤ room_at at → rest ≡ front ++ more → ⊥
  no_more at rest end (inl none) m front more p within parts =
      let no_bytes : length rest ≡ 0 = ap length none.0 in
      absurd (omega (arith, no_bytes, split_length rest front more parts, some_message Kinds m front p))
  no_more at rest end (inr w) m front more p within parts =
      let d = determined_message Kinds in
      let short = d.hinders w.stop m w.front front w.more more w.stops p (sym w.parts ∙ parts) in
      absurd (omega (arith, short.1, cut_reaches at rest w.front w.more w.stop end short.0 w.told w.parts front more parts within))

  abbrev end_of : ℕ → Stop → Ending
  end_of at Cut = Boundary
  end_of at (Bad code q) = Bad_at code (at + q)
  end_of at (Large q) = Large_at (at + q)

  cut_same : (at : ℕ) (rest front more front' more' : List ℕ) (end end' : Ending) → rest ≡ front ++ more → rest ≡ front' ++ more' → length front ≡ length front' → Told at front Cut more end → Told at front' Cut more' end' → end ≡ end'
  cut_same at rest front [] front' [] end end' p q len e e' = e ∙ ap (λ n. Truncated (at + n)) len ∙ sym e'
  cut_same at rest front [] front' (b ∷ more') end end' p q len e e' = absurd (omega (arith, len, split_length rest front [] p, split_length rest front' (b ∷ more') q))
  cut_same at rest front (b ∷ more) front' [] end end' p q len e e' = absurd (omega (arith, len, split_length rest front (b ∷ more) p, split_length rest front' [] q))
  cut_same at rest front (b ∷ more) front' (c ∷ more') end end' p q len e e' = e.1 ∙ ap (λ n. Large_at (at + n)) len ∙ sym e'.1

  same_told : (at : ℕ) (rest front more front' more' : List ℕ) (s t : Stop) (end end' : Ending) → s ≡ t → rest ≡ front ++ more → rest ≡ front' ++ more' → length front ≤ room_at at → length front' ≤ room_at at
      → Told at front s more end → Told at front' t more' end' → end ≡ end'
  same_told at rest front more front' more' Cut Cut end end' same p q within within' e e' =
      let one = cut_reaches at rest front more Cut end refl e p front' more' q within' in
      let two = cut_reaches at rest front' more' Cut end' refl e' q front more p within in
      cut_same at rest front more front' more' end end' p q (omega (arith, one, two)) e e'
  same_told at rest front more front' more' Cut (Bad c q) end end' same p p' within within' e e' = absurd (bad_no_cut c q (sym same))
  same_told at rest front more front' more' Cut (Large q) end end' same p p' within within' e e' = absurd (large_no_cut q (sym same))
  same_told at rest front more front' more' (Bad c q) Cut end end' same p p' within within' e e' = absurd (bad_no_cut c q same)
  same_told at rest front more front' more' (Large q) Cut end end' same p p' within within' e e' = absurd (large_no_cut q same)
  same_told at rest front more front' more' (Bad c q) (Bad c' q') end end' same p p' within within' e e' = e ∙ ap (end_of at) same ∙ sym e'
  same_told at rest front more front' more' (Bad c q) (Large q') end end' same p p' within within' e e' = e ∙ ap (end_of at) same ∙ sym e'
  same_told at rest front more front' more' (Large q) (Bad c' q') end end' same p p' within within' e e' = e ∙ ap (end_of at) same ∙ sym e'
  same_told at rest front more front' more' (Large q) (Large q') end end' same p p' within within' e e' = e ∙ ap (end_of at) same ∙ sym e'

  same_stands : (at : ℕ) (rest : List ℕ) (end end' : Ending) (a : Stands at rest end) (b : Stands at rest end') → Agree a.stop b.stop a.front b.front → end ≡ end'
  same_stands at rest end end' a b (inl same) = same_told at rest a.front a.more b.front b.more a.stop b.stop end end' same a.parts b.parts a.within b.within a.told b.told
  same_stands at rest end end' a b (inr (inl short)) = absurd (omega (arith, short.1, cut_reaches at rest a.front a.more a.stop end short.0 a.told a.parts b.front b.more b.parts b.within))
  same_stands at rest end end' a b (inr (inr short)) = absurd (omega (arith, short.1, cut_reaches at rest b.front b.more b.stop end' short.0 b.told b.parts a.front a.more a.parts a.within))

  one_end : (at : ℕ) (rest : List ℕ) (end end' : Ending) → ((rest ≡ []) × (end ≡ Boundary)) ⊎ Stands at rest end → ((rest ≡ []) × (end' ≡ Boundary)) ⊎ Stands at rest end' → end ≡ end'
  one_end at rest end end' (inl a) (inl b) = a.1 ∙ sym b.1
  one_end at rest end end' (inl a) (inr b) = absurd (omega (arith, ap length a.0, b.some))
  one_end at rest end end' (inr a) (inl b) = absurd (omega (arith, ap length b.0, a.some))
  one_end at rest end end' (inr a) (inr b) =
      let d = determined_message Kinds in
      same_stands at rest end end' a b (d.agree a.stop b.stop a.front b.front a.more b.more a.stops b.stops (sym a.parts ∙ b.parts))

  -- ---- whole texts

  abbrev Fits : ℕ → Message → List ℕ → Type 0
  Fits at m x = IsMessage Kinds m x × (length x ≤ room_at at)

  as_row : (start : ℕ) (ms : List Message) (x : List ℕ) → AreMessages Kinds start ms x → AreAll Fits start ms x
  as_row start [] x p = p
  as_row start (m ∷ ms) x p = (p.0, p.1, p.2, (p.3, p.4), as_row (start + length p.0) ms p.1 p.5)

  no_more_beyond : (start : ℕ) (ms os : List Message) (end : Ending) (x rest y v : List ℕ) → Ends Kinds (start + length x) rest end → Beyond Fits start ms os x y rest v → ⊥
  no_more_beyond start ms os end x rest y v ends w =
      no_more (start + length x) rest end (ended (start + length x) rest end ends) w.next w.front (w.rest ++ v) w.holds.0 w.holds.1 w.parts

  one_text : (start : ℕ) (text : List ℕ) (ms os : List Message) (end other : Ending) (p : SpellsFrom Kinds start text ms end) (q : SpellsFrom Kinds start text os other)
      → Walked Fits start ms os p.whole q.whole p.rest q.rest → (ms ≡ os) × (end ≡ other)
  one_text start text ms os end other p q (inl both) =
      let rests = rest_same p.whole q.whole p.rest q.rest both.1 (sym p.parts ∙ q.parts) in
      let here : Ends Kinds (start + length p.whole) q.rest other = subst (λ (t : List ℕ). Ends Kinds (start + length t) q.rest other) (sym both.1) q.ends in
      let ends : Ends Kinds (start + length p.whole) p.rest other = subst (λ (t : List ℕ). Ends Kinds (start + length p.whole) t other) (sym rests) here in
      (both.0, one_end (start + length p.whole) p.rest end other (ended _ p.rest end p.ends) (ended _ p.rest other ends))
  one_text start text ms os end other p q (inr (inl w)) = absurd (no_more_beyond start ms os end p.whole p.rest q.whole q.rest p.ends w)
  one_text start text ms os end other p q (inr (inr w)) = absurd (no_more_beyond start os ms other q.whole q.rest p.whole p.rest q.ends w)

  pub reads_one_way : ReadsOneWay Kinds
  reads_one_way start text ms os end other p q =
      let d = determined_message Kinds in
      one_text start text ms os end other p q
      (walk Fits (λ at a b x y u v f g e. d.one a b x y u v f.0 g.0 e) start ms os p.whole q.whole p.rest q.rest (as_row start ms p.whole p.spelled) (as_row start os q.whole q.spelled) (sym p.parts ∙ q.parts))

  -- ---- messages behind messages

  pub joined : (ms os : List Message) (start : ℕ) (x y : List ℕ) → AreMessages Kinds start ms x → AreMessages Kinds (start + length x) os y → AreMessages Kinds start (ms ++ os) (x ++ y)
  joined [] os start x y p q =
      let here : start + length x ≡ start = omega (arith, ap length p) in
      subst (λ (t : List ℕ). AreMessages Kinds start os (t ++ y)) (sym p) (subst (λ k. AreMessages Kinds k os y) here q)
  joined (m ∷ ms) os start x y p q =
      let here : start + length x ≡ start + length p.0 + length p.1 = omega (arith, split_length x p.0 p.1 p.2) in
      (p.0, p.1 ++ y, ap (λ t. t ++ y) p.2 ∙ append_assoc p.0 p.1 y, p.3, p.4, joined ms os (start + length p.0) p.1 y p.5 (subst (λ k. AreMessages Kinds k os y) here q))

  -- a message behind others is one more
  pub one_more : (ms : List Message) (m : Message) (start : ℕ) (front bytes : List ℕ) → AreMessages Kinds start ms front → IsMessage Kinds m bytes → length bytes ≤ room_at (start + length front) → AreMessages Kinds start (ms ++ m ∷ []) (front ++ bytes)
  one_more ms m start front bytes p q within = joined ms (m ∷ []) start front bytes p (bytes, [], sym (append-nil bytes), q, within, refl)

  pub goes_on : GoesOn Kinds
  goes_on start before after ms os end last cut next =
      let here : start + length cut.whole + length next.whole ≡ start + length (cut.whole ++ next.whole) = omega (arith, length-append cut.whole next.whole) in
      record {
        whole = cut.whole ++ next.whole;
        rest = next.rest;
        parts = ap (λ t. t ++ after) cut.parts ∙ append_assoc cut.whole cut.rest after ∙ ap (λ t. cut.whole ++ t) next.parts ∙ sym (append_assoc cut.whole next.whole next.rest);
        spelled = joined ms os start cut.whole next.whole cut.spelled next.spelled;
        ends = subst (λ k. Ends Kinds k next.rest last) here next.ends;
      }

  -- The messages of a text begin with those of its front.
  record Behind (start : ℕ) (ms all : List Message) (x u y v : List ℕ) : Type 0 where
    pub others : List Message
    pub bytes : List ℕ
    pub is : all ≡ ms ++ others
    pub spelled : AreMessages Kinds (start + length x) others bytes
    pub parts : u ≡ bytes ++ v
    pub long : length y ≡ length x + length bytes

  behind_one : (start : ℕ) (m o : Message) (ms all : List Message) (x x1 x2 u y y1 y2 v : List ℕ) → m ≡ o → x1 ≡ y1 → x ≡ x1 ++ x2 → y ≡ y1 ++ y2 → Behind (start + length x1) ms all x2 u y2 v → Behind start (m ∷ ms) (o ∷ all) x u y v
  behind_one start m o ms all x x1 x2 u y y1 y2 v first same p q b =
      let len_x = split_length x x1 x2 p in
      let here : start + length x1 + length x2 ≡ start + length x = omega (arith, len_x) in
      record {
        others = b.others;
        bytes = b.bytes;
        is = ap (λ os. o ∷ os) b.is ∙ ap (λ (n : Message). n ∷ (ms ++ b.others)) (sym first);
        spelled = subst (λ k. AreMessages Kinds k b.others b.bytes) here b.spelled;
        parts = b.parts;
        long = omega (arith, len_x, split_length y y1 y2 q, ap length same, b.long);
      }

  behind : (start : ℕ) (ms all : List Message) (end : Ending) (x u y v : List ℕ) → AreMessages Kinds start ms x → AreMessages Kinds start all y → Ends Kinds (start + length y) v end → x ++ u ≡ y ++ v → Behind start ms all x u y v
  behind start [] all end x u y v p q ends e =
      let no_bytes : length x ≡ 0 = ap length p in
      let here : start ≡ start + length x = omega (arith, no_bytes) in
      record {
        others = all;
        bytes = y;
        is = refl;
        spelled = subst (λ k. AreMessages Kinds k all y) here q;
        parts = sym (ap (λ t. t ++ u) p) ∙ e;
        long = omega (arith, no_bytes);
      }
  behind start (m ∷ ms) [] end x u y v p q ends e =
      let here : start + length y ≡ start = omega (arith, ap length q) in
      let ends_here : Ends Kinds start v end = subst (λ k. Ends Kinds k v end) here ends in
      let all_of_it : v ≡ p.0 ++ (p.1 ++ u) = sym (sym (append_assoc p.0 p.1 u) ∙ ap (λ t. t ++ u) (sym p.2) ∙ e ∙ ap (λ t. t ++ v) q) in
      absurd (no_more start v end (ended start v end ends_here) m p.0 (p.1 ++ u) p.3 p.4 all_of_it)
  behind start (m ∷ ms) (o ∷ all) end x u y v p q ends e =
      let d = determined_message Kinds in
      let together = regrouped x p.0 p.1 u y q.0 q.1 v p.2 q.2 e in
      let firsts = d.one m o p.0 q.0 (p.1 ++ u) (q.1 ++ v) p.3 q.3 together in
      let others = rest_same p.0 q.0 (p.1 ++ u) (q.1 ++ v) firsts.1 together in
      let fronts : length p.0 ≡ length q.0 = ap length firsts.1 in
      let here : start + length y ≡ start + length p.0 + length q.1 = omega (arith, fronts, split_length y q.0 q.1 q.2) in
      let there : start + length q.0 ≡ start + length p.0 = omega (arith, fronts) in
      behind_one start m o ms all x p.0 p.1 u y q.0 q.1 v firsts.0 firsts.1 p.2 q.2
      (behind (start + length p.0) ms all end p.1 u q.1 v p.5 (subst (λ k. AreMessages Kinds k all q.1) there q.5) (subst (λ k. Ends Kinds k v end) here ends) others)

  pub cut_anywhere : IsCutAnywhere Kinds
  cut_anywhere start before after ms all end last cut text =
      let together = sym (append_assoc cut.whole cut.rest after) ∙ ap (λ t. t ++ after) (sym cut.parts) ∙ text.parts in
      let b = behind start ms all last cut.whole (cut.rest ++ after) text.whole text.rest cut.spelled text.spelled text.ends together in
      let here : start + length text.whole ≡ start + length cut.whole + length b.bytes = omega (arith, b.long) in
      (b.others, b.is, record { whole = b.bytes; rest = text.rest; parts = b.parts; spelled = b.spelled; ends = subst (λ k. Ends Kinds k text.rest last) here text.ends })

  -- ---- an end that more bytes don't change

  ends_stay : (at : ℕ) (rest more : List ℕ) (end : Ending) → IsFinal end → Ends Kinds at rest end → Ends Kinds at (rest ++ more) end
  ends_stay at rest more Boundary final e = absurd final
  ends_stay at rest more (Truncated place) final e = absurd final
  ends_stay at rest more (Bad_at code place) final e = (e.0, e.1 ++ more, e.2, ap (λ t. t ++ more) e.3 ∙ append_assoc e.0 e.1 more, e.4, e.5, e.6)
  ends_stay at rest more (Large_at place) final (inl e) = inl (e.0, e.1 ++ more, e.2, ap (λ t. t ++ more) e.3 ∙ append_assoc e.0 e.1 more, e.4, e.5, e.6)
  ends_stay at rest more (Large_at place) final (inr e) = inr (e.0, e.1 ++ more, e.2, ap (λ t. t ++ more) e.3 ∙ append_assoc e.0 (e.2 ∷ e.1) more, e.4, e.5, e.6)

  pub stays_so : StaysSo Kinds
  stays_so start text more ms end final p =
      record {
        whole = p.whole;
        rest = p.rest ++ more;
        parts = ap (λ t. t ++ more) p.parts ∙ append_assoc p.whole p.rest more;
        spelled = p.spelled;
        ends = ends_stay (start + length p.whole) p.rest more end final p.ends;
      }

  -- ---- what a reader knows when it stops behind whole messages

  pub ends_at_boundary : (start : ℕ) (ms : List Message) (whole : List ℕ) → AreMessages Kinds start ms whole → SpellsFrom Kinds start whole ms Boundary
  ends_at_boundary start ms whole p = record { whole = whole; rest = []; parts = sym (append-nil whole); spelled = p; ends = refl }

  pub ends_truncated : (start : ℕ) (ms : List Message) (whole front : List ℕ) (at : ℕ) → AreMessages Kinds start ms whole → StopsMessage Kinds Cut front → front ≢ [] → length front ≤ room_at (start + length whole) → at ≡ start + length whole + length front
      → SpellsFrom Kinds start (whole ++ front) ms (Truncated at)
  ends_truncated start ms whole front at p stop some within place = record { whole = whole; rest = front; parts = refl; spelled = p; ends = (some, stop, within, place) }

  pub ends_bad : (start : ℕ) (ms : List Message) (whole front more : List ℕ) (code q at : ℕ) → AreMessages Kinds start ms whole → StopsMessage Kinds (Bad code q) front → length front ≤ room_at (start + length whole) → at ≡ start + length whole + q
      → SpellsFrom Kinds start (whole ++ (front ++ more)) ms (Bad_at code at)
  ends_bad start ms whole front more code q at p stop within place = record { whole = whole; rest = front ++ more; parts = refl; spelled = p; ends = (front, more, q, refl, stop, within, place) }

  pub ends_large : (start : ℕ) (ms : List Message) (whole front more : List ℕ) (q at : ℕ) → AreMessages Kinds start ms whole → StopsMessage Kinds (Large q) front → length front ≤ room_at (start + length whole) → at ≡ start + length whole + q
      → SpellsFrom Kinds start (whole ++ (front ++ more)) ms (Large_at at)
  ends_large start ms whole front more q at p stop within place = record { whole = whole; rest = front ++ more; parts = refl; spelled = p; ends = inl (front, more, q, refl, stop, within, place) }

  -- a byte came past the limit
  pub ends_past : (start : ℕ) (ms : List Message) (whole front more : List ℕ) (byte at : ℕ) → AreMessages Kinds start ms whole → StopsMessage Kinds Cut front → length front ≡ room_at (start + length whole) → at ≡ start + length whole + length front
      → SpellsFrom Kinds start (whole ++ (front ++ byte ∷ more)) ms (Large_at at)
  ends_past start ms whole front more byte at p stop full place = record { whole = whole; rest = front ++ byte ∷ more; parts = refl; spelled = p; ends = inr (front, more, byte, refl, stop, full, place) }
