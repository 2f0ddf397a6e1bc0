-- How the steps keep the rule.
use Rattle.std.proofs.Common.{◌≡◌, ◌≢◌, inl, inr, ⊎_elim, ℕ, ◌+◌, ◌<◌, ◌≤◌, ◌%◌, ◌^◌, Bool, List, [], ◌∷◌, ◌++◌, length, refl, sym, ◌∙◌, ap, subst, arith, eq-eqb, ne_eqb}
use Rattle.std.specs.Prelude.{Option, Some, slice_index, slice_set, MatchBool}
use Rattle.std.proofs.lemmas.Bool.{cases_eq}
use Rattle.std.proofs.lemmas.List.{append-nil}
use Rattle.std.proofs.Math.Nat.{mod-add-mod}
use mathlib.Core.Option.{some, none, some-injective, some-ne-none}
use mathlib.Core.Option as Homed
use lib.ListN.{get_elem?}
use Rattle.atomic_table.specs.Table.{State, Me, Act, keeps, takes, gives, step, stepped, Valid, carried_after, homes_after, rest, Allows}
use Rattle.atomic_table.proofs.Lists.{set_again, one_turn}
use Rattle.turn_lock.specs.Lock.{ViewFits, StageFits, Kept, at_home, away, settled, Place, number_of, out_of, live_of, Lies}
use Rattle.turn_lock.specs.Steps.{staged, holding, with_entry, Drew, Took, Looked, Settled, Published, Counted}
use Rattle.turn_lock.proofs.Entries.{other_mine, one_mine, length_more, told_other}
use Rattle.turn_lock.proofs.Views.{tally_set, out_live, live_one, live_number, below, at_draw, at_take, at_settle, at_publish, moves_on}
use Rattle.turn_lock.specs.declared.view.Stage.{Stage}
use Rattle.turn_lock.specs.declared.view.Stage.TheVariants.{Spent, Idle, Waits, Holds, Leaves}
use Rattle.turn_lock.specs.declared.view.View.{View}

module _ {T E S : Type 0} (by : E → ℕ) (stands : Option S → T → List E → Type 0) (start : Option S) where
  -- the numbers out are fewer than the numbers of a word
  near : (s : State (Option T) (View E S)) (k : Kept by stands start s) → k.drawn < length k.log + 2 ^ 64
  near s k = let h = out_live s.views in omega (arith, h, k.out, k.live, k.few)

  -- a number is drawn
  pub draw_moves : (slots id : ℕ) (me : Me (Option T) (View E S)) → me.0.stage ≡ Idle → Allows (Kept by stands start) slots id me 0 (λ n. (n + 1) % 2 ^ 64) (Drew (step slots 0 1 0 none) me)
  draw_moves slots id me idle s k len at small = (w, keeps, tt, kept, (k.drawn, ap (λ (ws : List ℕ). slice_index ws 0) k.words, refl))
    where
      w : View E S
      w = staged me.0 (Waits k.drawn)

      live : live_of me.0.stage ≡ 1
      live = ap live_of idle

      f : ViewFits by start k.log k.drawn k.splits k.place me.0
      f = k.passes.fits id me.0 at live

      now : ViewFits by start k.log (k.drawn + 1) k.splits k.place w
      now = record { start_known = f.start_known; past = f.past; stage = (omega (arith, k.out), omega arith, k.due) }

      fresh : (n : ℕ) → some k.drawn ≡ some n → (i : ℕ) (u : View E S) → get_elem? s.views i ≡ some u → number_of u.stage ≢ some n
      fresh n is i u here same =
          let h = below by k.log k.drawn k.place u.past u.stage n (k.passes.fits i u here (live_number u.stage n same)).stage same in
          let g = some-injective k.drawn n is in
          omega (arith, h, g)

      kept : Kept by stands start (stepped s 0 ((slice_index s.words 0 + 1) % 2 ^ 64) id me.1 w keeps)
      kept = record {
        log = k.log;
        drawn = k.drawn + 1;
        splits = k.splits;
        joined = k.joined;
        place = k.place;
        words = ap (λ (ws : List ℕ). slice_set ws 0 ((slice_index ws 0 + 1) % 2 ^ 64)) k.words ∙ ap (λ (n : ℕ). n ∷ length k.log % 2 ^ 64 ∷ []) (mod-add-mod k.drawn (2 ^ 64) 1);
        lies = k.lies;
        out = let h = tally_set out_of s.views id me.0 w at in let g = ap out_of idle in omega (arith, h, g, k.out);
        due = ⊎_elim (λ t. inl t) (λ t. inr (omega (arith, t))) k.due;
        live = let h = tally_set live_of s.views id me.0 w at in omega (arith, h, live, k.live);
        few = k.few;
        passes = moves_on by start k.log k.log k.drawn (k.drawn + 1) k.splits k.joined k.place k.place s.views k.passes id me.0 w at live refl refl refl now
            (λ i u far here alive g. record { start_known = g.start_known; past = g.past; stage = at_draw by k.log k.drawn k.place u.past u.stage g.stage })
            (λ n is. inr (fresh n is))
            (λ j p here g. g)
            (λ c late g. g);
      }

  -- its number was looked at
  pub look_moves : (slots id : ℕ) (me : Me (Option T) (View E S)) (n : ℕ) → me.0.stage ≡ Waits n → Allows (Kept by stands start) slots id me 1 (λ n. n) (Looked by stands (step slots 1 0 0 none) me)
  look_moves slots id me n waits s k len at small = ⊎_elim up_case not_case (cases_eq (length k.log % 2 ^ 64) (n % 2 ^ 64))
    where
      Goal : Type 0
      Goal = (w : View E S) × (a : Act (Option T)) × Valid s.homes me.1 a × Kept by stands start (stepped s 1 (slice_index s.words 1) id me.1 w a)
          × Looked by stands (step slots 1 0 0 none) me (slice_index s.words 1) (w, carried_after me.1 a)

      live : live_of me.0.stage ≡ 1
      live = ap live_of waits

      f : ViewFits by start k.log k.drawn k.splits k.place me.0
      f = k.passes.fits id me.0 at live

      g : StageFits by k.log k.drawn k.place me.0.past (Waits n)
      g = subst (StageFits by k.log k.drawn k.place me.0.past) waits f.stage

      found : slice_index s.words 1 ≡ length k.log % 2 ^ 64
      found = ap (λ (ws : List ℕ). slice_index ws 1) k.words

      words : slice_set s.words 1 (slice_index s.words 1) ≡ k.drawn % 2 ^ 64 ∷ length k.log % 2 ^ 64 ∷ []
      words = ap (λ (ws : List ℕ). slice_set ws 1 (slice_index ws 1)) k.words

      number_is : (m : ℕ) → me.0.stage ≡ Waits m → n ≡ m
      number_is m is = some-injective n m (ap number_of (sym waits ∙ is))

      not_case : length k.log % 2 ^ 64 ≢ n % 2 ^ 64 → Goal
      not_case differ = (me.0, keeps, tt, kept, told)
        where
          kept : Kept by stands start (stepped s 1 (slice_index s.words 1) id me.1 me.0 keeps)
          kept =
              let P : List (View E S) → Type 0 = λ vs. Kept by stands start (record { words = slice_set s.words 1 (slice_index s.words 1); homes = s.homes; views = vs }) in
              let same : Kept by stands start (record { words = slice_set s.words 1 (slice_index s.words 1); homes = s.homes; views = s.views }) =
              record { log = k.log; drawn = k.drawn; splits = k.splits; joined = k.joined; place = k.place; words = words; lies = k.lies; out = k.out; due = k.due; live = k.live; few = k.few; passes = k.passes } in
              subst P (sym (set_again s.views id me.0 at)) same

          told : Looked by stands (step slots 1 0 0 none) me (slice_index s.words 1) (me.0, me.1)
          told m is =
              let after : Me (Option T) (View E S) = (me.0, me.1) in
              let other : slice_index s.words 1 ≢ m % 2 ^ 64 = λ e. differ (sym found ∙ e ∙ ap (λ (x : ℕ). x % 2 ^ 64) (sym (number_is m is))) in
              subst (λ (b : Bool). MatchBool b (Took by stands m me after) (after ≡ me)) (sym (ne_eqb (slice_index s.words 1) (m % 2 ^ 64) other)) refl

      up_case : length k.log % 2 ^ 64 ≡ n % 2 ^ 64 → Goal
      up_case up = (w, takes 0 (Some lies.0), ap (λ (hs : List (Homed.Option (Option T))). get_elem? hs 0) lies.1, kept, told)
        where
          is : length k.log ≡ n
          is = let h = near s k in one_turn (length k.log) n (2 ^ 64) g.0 (omega (arith, h, g.1)) up

          home : k.place ≡ at_home
          home = ⊎_elim (λ t. t) (λ t. absurd (omega (arith, t, is))) g.2

          lies : Lies (stands start) k.log at_home s.homes
          lies = subst (λ (p : Place E). Lies (stands start) k.log p s.homes) home k.lies

          w : View E S
          w = holding me.0 n k.log

          now : ViewFits by start k.log k.drawn k.splits away w
          now = record {
            start_known = f.start_known;
            past = record { fits = record { begins = ([], sym (append-nil k.log)); calls = f.past.fits.calls; calls_seen = f.past.fits.calls }; known = f.past.known };
            stage = (sym is, g.1, refl, refl);
          }

          others : (i : ℕ) (u : View E S) → i ≢ id → get_elem? s.views i ≡ some u → live_of u.stage ≡ 1 → ViewFits by start k.log k.drawn k.splits k.place u → ViewFits by start k.log k.drawn k.splits away u
          others i u far here alive h =
              let not_mine : number_of u.stage ≢ some (length k.log) = λ e. far (k.passes.numbers i id n u me.0 here at (e ∙ ap some is) (ap number_of waits)) in
              record { start_known = h.start_known; past = h.past; stage = at_take by k.log k.drawn k.place u.past u.stage home not_mine h.stage }

          kept : Kept by stands start (stepped s 1 (slice_index s.words 1) id me.1 w (takes 0 (Some lies.0)))
          kept = record {
            log = k.log;
            drawn = k.drawn;
            splits = k.splits;
            joined = k.joined;
            place = away;
            words = words;
            lies = ap (λ (hs : List (Homed.Option (Option T))). slice_set hs 0 none) lies.1;
            out = let h = tally_set out_of s.views id me.0 w at in let o = ap out_of waits in omega (arith, h, o, k.out);
            due = inr (omega (arith, is, g.1));
            live = let h = tally_set live_of s.views id me.0 w at in omega (arith, h, live, k.live);
            few = k.few;
            passes = moves_on by start k.log k.log k.drawn k.drawn k.splits k.joined k.place away s.views k.passes id me.0 w at live refl refl refl now others
                (λ m e. inl (ap number_of waits ∙ e))
                (λ j p here h. h)
                (λ c late h. h);
          }

          told : Looked by stands (step slots 1 0 0 none) me (slice_index s.words 1) (w, (0, Some lies.0) ∷ me.1)
          told m e =
              let after : Me (Option T) (View E S) = (w, (0, Some lies.0) ∷ me.1) in
              let hit : slice_index s.words 1 ≡ m % 2 ^ 64 = found ∙ up ∙ ap (λ (x : ℕ). x % 2 ^ 64) (number_is m e) in
              subst (λ (b : Bool). MatchBool b (Took by stands m me after) (after ≡ me)) (sym (eq-eqb (slice_index s.words 1) (m % 2 ^ 64) hit))
              (k.log, lies.0, subst (λ (o : Option S). stands o lies.0 k.log) (sym f.start_known) lies.2, f.past.fits.begins, f.past.fits.calls, f.past.fits.calls_seen, ap (λ (x : ℕ). (holding me.0 x k.log, (0, Some lies.0) ∷ me.1)) (number_is m e))

  -- the value comes back, with an entry that is not published yet
  pub settle_moves : (slots id : ℕ) (me : Me (Option T) (View E S)) (x : T) (n : ℕ) (e : E) → me.1 ≡ (0, Some x) ∷ [] → me.0.stage ≡ Holds n → by e ≡ me.0.past.caller → stands me.0.start x (me.0.past.seen ++ e ∷ [])
      → Allows (Kept by stands start) slots id me 1 (λ n. n) (Settled by stands (step slots 1 0 0 none) me)
  settle_moves slots id me x n e has holds mine is s k len at small = (w, gives, tt, kept, (x, n, e, has, holds, mine, is, ap (λ (c : List (ℕ × Option T)). (w, rest c)) has))
    where
      w : View E S
      w = staged me.0 (Leaves n e)

      live : live_of me.0.stage ≡ 1
      live = ap live_of holds

      f : ViewFits by start k.log k.drawn k.splits k.place me.0
      f = k.passes.fits id me.0 at live

      g : StageFits by k.log k.drawn k.place me.0.past (Holds n)
      g = subst (StageFits by k.log k.drawn k.place me.0.past) holds f.stage

      gone : Lies (stands start) k.log away s.homes
      gone = subst (λ (p : Place E). Lies (stands start) k.log p s.homes) g.2 k.lies

      homes : homes_after s.homes me.1 gives ≡ some (Some x) ∷ []
      homes = ap (λ (c : List (ℕ × Option T)). homes_after s.homes c gives) has ∙ ap (λ (hs : List (Homed.Option (Option T))). slice_set hs 0 (some (Some x))) gone

      now : ViewFits by start k.log k.drawn k.splits (settled e) w
      now = record { start_known = f.start_known; past = f.past; stage = (g.0, g.1, refl, g.3, mine) }

      others : (i : ℕ) (u : View E S) → i ≢ id → get_elem? s.views i ≡ some u → live_of u.stage ≡ 1 → ViewFits by start k.log k.drawn k.splits k.place u → ViewFits by start k.log k.drawn k.splits (settled e) u
      others i u far here alive h =
          let not_mine : number_of u.stage ≢ some (length k.log) = λ t. far (k.passes.numbers i id n u me.0 here at (t ∙ ap some (sym g.0)) (ap number_of holds)) in
          record { start_known = h.start_known; past = h.past; stage = at_settle by k.log k.drawn k.place e u.past u.stage g.2 not_mine h.stage }

      kept : Kept by stands start (stepped s 1 (slice_index s.words 1) id me.1 w gives)
      kept = record {
        log = k.log;
        drawn = k.drawn;
        splits = k.splits;
        joined = k.joined;
        place = settled e;
        words = ap (λ (ws : List ℕ). slice_set ws 1 (slice_index ws 1)) k.words;
        lies = (x, homes, subst (λ (o : Option S). stands o x (k.log ++ e ∷ [])) f.start_known (subst (λ (l : List E). stands me.0.start x (l ++ e ∷ [])) g.3 is));
        out = let h = tally_set out_of s.views id me.0 w at in let o = ap out_of holds in omega (arith, h, o, k.out);
        due = inr (omega (arith, g.0, g.1));
        live = let h = tally_set live_of s.views id me.0 w at in omega (arith, h, live, k.live);
        few = k.few;
        passes = moves_on by start k.log k.log k.drawn k.drawn k.splits k.joined k.place (settled e) s.views k.passes id me.0 w at live refl refl refl now others
            (λ m t. inl (ap number_of holds ∙ t))
            (λ j p here h. h)
            (λ c late h. h);
      }

  -- the entry is published
  pub publish_moves : (slots id : ℕ) (me : Me (Option T) (View E S)) (n : ℕ) (e : E) → me.0.stage ≡ Leaves n e → Allows (Kept by stands start) slots id me 1 (λ n. (n + 1) % 2 ^ 64) (Published (step slots 1 1 0 none) me)
  publish_moves slots id me n e leaves s k len at small = (w, keeps, tt, kept, told)
    where
      w : View E S
      w = with_entry me.0 e

      log : List E
      log = k.log ++ e ∷ []

      live : live_of me.0.stage ≡ 1
      live = ap live_of leaves

      f : ViewFits by start k.log k.drawn k.splits k.place me.0
      f = k.passes.fits id me.0 at live

      g : StageFits by k.log k.drawn k.place me.0.past (Leaves n e)
      g = subst (StageFits by k.log k.drawn k.place me.0.past) leaves f.stage

      lies : Lies (stands start) k.log (settled e) s.homes
      lies = subst (λ (p : Place E). Lies (stands start) k.log p s.homes) g.2 k.lies

      more : length log ≡ length k.log + 1
      more = length_more k.log e

      entry_of : Stage E → E
      entry_of (Leaves m d) = d
      entry_of Spent = e
      entry_of Idle = e
      entry_of (Waits m) = e
      entry_of (Holds m) = e

      told : Published (step slots 1 1 0 none) me (slice_index s.words 1) (w, me.1)
      told m d is = ap (λ (st : Stage E). (with_entry me.0 (entry_of st), me.1)) (sym leaves ∙ is)

      now : ViewFits by start log k.drawn k.splits at_home w
      now = record {
        start_known = f.start_known;
        past = record {
          fits = record {
            begins = ([], ap (λ (l : List E). l ++ e ∷ []) (sym g.3) ∙ sym (append-nil (me.0.past.seen ++ e ∷ [])));
            calls = one_mine by me.0.past.caller k.log e g.4 ∙ ap (λ (l : List E). l ++ e ∷ []) f.past.fits.calls;
            calls_seen = one_mine by me.0.past.caller me.0.past.seen e g.4 ∙ ap (λ (l : List E). l ++ e ∷ []) f.past.fits.calls_seen;
          };
          known = f.past.known;
        };
        stage = tt;
      }

      others : (i : ℕ) (u : View E S) → i ≢ id → get_elem? s.views i ≡ some u → live_of u.stage ≡ 1 → ViewFits by start k.log k.drawn k.splits k.place u → ViewFits by start log k.drawn k.splits at_home u
      others i u far here alive h =
          let not_mine : number_of u.stage ≢ some (length k.log) = λ t. far (k.passes.numbers i id n u me.0 here at (t ∙ ap some (sym g.0)) (ap number_of leaves)) in
          let stranger : by e ≢ u.past.caller = λ t. far (k.passes.callers i id u me.0 here at alive live (sym t ∙ g.4)) in
          record { start_known = h.start_known; past = told_other by k.log k.splits u.past e h.past stranger; stage = at_publish by k.log k.drawn k.place e u.past u.stage not_mine h.stage }

      kept : Kept by stands start (stepped s 1 ((slice_index s.words 1 + 1) % 2 ^ 64) id me.1 w keeps)
      kept = record {
        log = log;
        drawn = k.drawn;
        splits = k.splits;
        joined = k.joined;
        place = at_home;
        words = ap (λ (ws : List ℕ). slice_set ws 1 ((slice_index ws 1 + 1) % 2 ^ 64)) k.words
            ∙ ap (λ (n : ℕ). k.drawn % 2 ^ 64 ∷ n ∷ []) (mod-add-mod (length k.log) (2 ^ 64) 1 ∙ ap (λ (n : ℕ). n % 2 ^ 64) (sym more));
        lies = lies;
        out = let h = tally_set out_of s.views id me.0 w at in let o = ap out_of leaves in omega (arith, h, o, k.out, more);
        due = inl refl;
        live = let h = tally_set live_of s.views id me.0 w at in omega (arith, h, live, k.live);
        few = k.few;
        passes = moves_on by start k.log log k.drawn k.drawn k.splits k.joined k.place at_home s.views k.passes id me.0 w at live refl refl refl now others
            (λ m t. absurd (some-ne-none m (sym t)))
            (λ j p here h. told_other by k.log k.splits p e h (λ t. k.passes.strange j id p me.0 here at live (sym t ∙ g.4)))
            (λ c late h. other_mine by c k.log e (λ t. absurd (omega (arith, t, g.4, f.past.known, late))) ∙ h);
      }

  -- no more passes were joined than were split off
  count_on : (slots : ℕ) (me : Me (Option T) (View E S)) → me.0.stage ≡ Idle → Allows (Kept by stands start) slots 0 me 1 (λ n. n) (Counted (step slots 1 0 0 none) me)
  count_on slots me idle s k len at small = (me.0, keeps, tt, kept, (refl, within))
    where
      live : live_of me.0.stage ≡ 1
      live = ap live_of idle

      within : length me.0.joined ≤ me.0.splits
      within =
          let f = k.passes.first me.0 at in
          let j : length me.0.joined ≡ length k.joined = ap length f.1 in
          let one = live_one s.views 0 me.0 at live in
          omega (arith, f.0, j, one, k.live)

      kept : Kept by stands start (stepped s 1 (slice_index s.words 1) 0 me.1 me.0 keeps)
      kept =
          let words : slice_set s.words 1 (slice_index s.words 1) ≡ k.drawn % 2 ^ 64 ∷ length k.log % 2 ^ 64 ∷ [] = ap (λ (ws : List ℕ). slice_set ws 1 (slice_index ws 1)) k.words in
          let P : List (View E S) → Type 0 = λ vs. Kept by stands start (record { words = slice_set s.words 1 (slice_index s.words 1); homes = s.homes; views = vs }) in
          let same : Kept by stands start (record { words = slice_set s.words 1 (slice_index s.words 1); homes = s.homes; views = s.views }) =
          record { log = k.log; drawn = k.drawn; splits = k.splits; joined = k.joined; place = k.place; words = words; lies = k.lies; out = k.out; due = k.due; live = k.live; few = k.few; passes = k.passes } in
          subst P (sym (set_again s.views 0 me.0 at)) same

  pub count_moves : (slots id : ℕ) (me : Me (Option T) (View E S)) → id ≡ 0 → me.0.stage ≡ Idle → Allows (Kept by stands start) slots id me 1 (λ n. n) (Counted (step slots 1 0 0 none) me)
  count_moves slots id me is idle = subst (λ (n : ℕ). Allows (Kept by stands start) slots n me 1 (λ n. n) (Counted (step slots 1 0 0 none) me)) (sym is) (count_on slots me idle)
