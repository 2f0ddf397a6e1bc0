-- A database has one born from its making on, and what the calls did to it since is a source.
use Rattle.std.proofs.Common.{◌≡◌, inl, inr, ℕ, ◌+◌, ◌-◌, ◌≤◌, ◌<◌, Bool, true, false, List, [], ◌∷◌, Option, Some, None, refl, sym, ◌∙◌, ap, subst, arith}
use Rattle.std.specs.Prelude.{◌==◌, ◌&&◌, cond, bytes_eq}
use Rattle.std.proofs.lemmas.Slice.Eq.{bytes_eq-Decides}
use Rattle.std.proofs.lemmas.Bool.Decides.{nat_tests}
use Rattle.std.proofs.lemmas.Bool.{cases_lt}
use Rattle.cat_types.specs.declared.changes.Change.{Change}
use Rattle.cat_types.specs.declared.changes.Op.{Op}
use Rattle.cat_types.specs.declared.changes.Op.TheVariants.{DropDb, DropPart, DropTable, MovePart, MoveTable, PutDb, PutPart, PutTable}
use Rattle.cat_values.specs.declared.records.DbRec.{DbRec}
use Rattle.replicas.specs.Objects.{Name, Objects}
use Rattle.replicas.specs.Operations.{Done, with_record}
use Rattle.replicas.specs.Source.{AllApart, Each, Source, Steps}
use Rattle.replicas.specs.Life.{HasDb, BeginsEmpty, Happened, elsewhere, created, dropped, called, Life, ops_of}
use Rattle.replicas.proofs.Basics.{not_both, one}
use Rattle.replicas.proofs.Invariants.{numbers_up}

db_at : (b : ℕ) (s t : Objects) → t.db ≡ s.db → HasDb b t → HasDb b s
db_at b s t same h = record { held = h.held; is = sym same ∙ h.is; born = h.born }

one_db : {a b : ℕ} {s : Objects} → HasDb a s → HasDb b s → a ≡ b
one_db h k = sym h.born ∙ ap (λ (x : ℕ × DbRec). x.0) (one h.is k.is) ∙ k.born

-- no operation of a call changes the database's born
op_back : (b : ℕ) (op : Op) (s t : Objects) → Done op s t → HasDb b t → HasDb b s
op_back b (PutDb rec) s t d h = by_db s.db refl
  where
    by_db : (o : Option (ℕ × DbRec)) → s.db ≡ o → HasDb b s
    by_db None is = absurd (not_both (d.puts ∙ ap (with_record rec) is) h.is)
    by_db (Some x) is = record { held = x; is = is; born = ap (λ (y : ℕ × DbRec). y.0) (one (d.puts ∙ ap (with_record rec) is) h.is) ∙ h.born }
op_back b DropDb s t d h = db_at b s t d.puts h
op_back b (PutTable n c rec) s t d h = db_at b s t d.puts.0 h
op_back b (DropTable n c) s t d h = db_at b s t d.puts.0 h
op_back b (MoveTable n c to rec) s t d h = db_at b s t d.puts.0 h
op_back b (PutPart n c v rec) s t d h = db_at b s t d.puts.0 h
op_back b (DropPart n c v) s t d h = db_at b s t d.puts.0 h
op_back b (MovePart n c v to rec) s t d h = db_at b s t d.puts.0 h

ops_back : (e b : ℕ) (ops : List Op) (s u : Objects) → Steps e ops s u → HasDb b u → HasDb b s
ops_back e b [] s u same h = db_at b s u same.db h
ops_back e b (op ∷ ops) s u d h = op_back b op s d.0 d.1.done (ops_back e b ops d.0 u d.2 h)

-- a database with a born began empty at that number, and had that born ever since
pub record IsAlive (seen : ℕ → Objects) (base b k : ℕ) : Type 0 where
  pub low : base ≤ b
  pub high : b ≤ k
  pub began : BeginsEmpty b (seen b)
  pub since : (j : ℕ) → b ≤ j → j ≤ k → HasDb b (seen j)

abbrev AreAlive : (ℕ → Objects) → ℕ → ℕ → Objects → Type 0
AreAlive seen base k s = (b : ℕ) → HasDb b s → IsAlive seen base b k

goes_on : (seen : ℕ → Objects) (base b k : ℕ) → IsAlive seen base b k → HasDb b (seen (k + 1)) → IsAlive seen base b (k + 1)
goes_on seen base b k h now = record {
  low = h.low;
  high = let up = h.high in omega (arith, up);
  began = h.began;
  since = λ j low high. elim (cases_lt k j) [
    | inl lt ↦ let same : k + 1 ≡ j = omega (arith, lt, high) in subst (λ (i : ℕ). HasDb b (seen i)) same now
    | inr le ↦ h.since j low le
  ];
}

begins_at : (seen : ℕ → Objects) (base b k : ℕ) → base ≤ k → BeginsEmpty k (seen k) → HasDb b (seen k) → IsAlive seen base b k
begins_at seen base b k low began h =
    let same : k ≡ b = one_db began.db h in
    subst (λ (i : ℕ). IsAlive seen base i k) same (record {
      low = low;
      high = omega arith;
      began = began;
      since = λ j l u. let is : k ≡ j = omega (arith, l, u) in subst (λ (i : ℕ). HasDb k (seen i)) is began.db;
    })

alive_step : (Sound : Op → Type 0) (w : Name) (seen : ℕ → Objects) (c : Change) (base e : ℕ) → base ≤ e → Happened Sound w (e + 1) c (seen e) (seen (e + 1)) → AreAlive seen base e (seen e) → AreAlive seen base (e + 1) (seen (e + 1))
alive_step Sound w seen c base e low (elsewhere other same) h b now = goes_on seen base b e (h b (db_at b (seen e) (seen (e + 1)) same.db now)) now
alive_step Sound w seen c base e low (created gone began) h b now = begins_at seen base b (e + 1) (omega (arith, low)) began now
alive_step Sound w seen c base e low (dropped gone) h b now = absurd (not_both gone now.is)
alive_step Sound w seen c base e low (called is db steps apart sound) h b now = goes_on seen base b e (h b (ops_back (e + 1) b c.ops (seen e) (seen (e + 1)) steps now)) now

module _ (Sound : Op → Type 0) (w : Name) (seen : ℕ → Objects) (changes : ℕ → Change) (base newest : ℕ) (life : Life Sound w seen changes base newest) where
  start_alive : AreAlive seen base base (seen base)
  start_alive b h = elim life.start [
    | inl gone ↦ absurd (not_both gone h.is)
    | inr began ↦ begins_at seen base b base (omega arith) began h
  ]

  pub is_alive : (k : ℕ) → base ≤ k → k ≤ newest → (b : ℕ) → HasDb b (seen k) → IsAlive seen base b k
  is_alive k low high = numbers_up seen (AreAlive seen base) base k low start_alive
      (λ e from lt h. alive_step Sound w seen (changes (e + 1)) base e from (life.happened e from (omega (arith, lt, high))) h)

-- the operations of an event that is of the database, or isn't
ops_here : (w : Name) (b : ℕ) (changes : ℕ → Change) (k : ℕ) → (changes k).db ≡ w → (changes k).db_born ≡ b → ops_of w b changes k ≡ (changes k).ops
ops_here w b changes k db born =
    let p : bytes_eq (changes k).db w ≡ true = (bytes_eq-Decides (changes k).db w).1 db in
    let q : ((changes k).db_born == b) ≡ true = grind (arith, nat_tests) in
    ap (λ (x : Bool). cond (x && ((changes k).db_born == b)) (changes k).ops []) p ∙ ap (λ (x : Bool). cond x (changes k).ops []) q

ops_not : (w : Name) (b : ℕ) (changes : ℕ → Change) (k : ℕ) → ((changes k).db ≡ w → ⊥) → ops_of w b changes k ≡ []
ops_not w b changes k other = by_test (bytes_eq (changes k).db w) refl
  where
    by_test : (x : Bool) → bytes_eq (changes k).db w ≡ x → ops_of w b changes k ≡ []
    by_test true is = absurd (other ((bytes_eq-Decides (changes k).db w).0 is))
    by_test false is = ap (λ (x : Bool). cond (x && ((changes k).db_born == b)) (changes k).ops []) is

-- what one event gives, between two numbers of one life
pub record Gives (Sound : Op → Type 0) (e : ℕ) (ops : List Op) (s u : Objects) : Type 0 where
  pub steps : Steps e ops s u
  pub apart : AllApart ops
  pub sound : Each Sound ops

module _ (Sound : Op → Type 0) (w : Name) (seen : ℕ → Objects) (changes : ℕ → Change) (b : ℕ) where
  gives : (e : ℕ) → HasDb b (seen e) → HasDb b (seen (e + 1)) → Happened Sound w (e + 1) (changes (e + 1)) (seen e) (seen (e + 1)) → Gives Sound (e + 1) (ops_of w b changes (e + 1)) (seen e) (seen (e + 1))
  gives e before now (elsewhere other same) = subst (λ (l : List Op). Gives Sound (e + 1) l (seen e) (seen (e + 1))) (sym (ops_not w b changes (e + 1) other)) (record { steps = same; apart = tt; sound = tt })
  gives e before now (created gone began) = absurd (not_both gone before.is)
  gives e before now (dropped gone) = absurd (not_both gone now.is)
  gives e before now (called is db steps apart sound) = subst (λ (l : List Op). Gives Sound (e + 1) l (seen e) (seen (e + 1))) (sym (ops_here w b changes (e + 1) is (one_db db before))) (record { steps = steps; apart = apart; sound = sound })

pub life_is_source : (Sound : Op → Type 0) (w : Name) (seen : ℕ → Objects) (changes : ℕ → Change) (base newest b end : ℕ) → Life Sound w seen changes base newest → base ≤ end → end ≤ newest → HasDb b (seen end)
    → Source Sound seen (ops_of w b changes) b end
life_is_source Sound w seen changes base newest b end life low high db = record {
  no_tables = alive.began.no_tables;
  no_parts = alive.began.no_parts;
  steps = λ e from to. (at e from to).steps;
  apart = λ e from to. aparts e (e - 1) (omega (arith, from)) from to;
  sound = λ e from to. sounds e (e - 1) (omega (arith, from)) from to;
}
  where
    alive : IsAlive seen base b end
    alive = is_alive Sound w seen changes base newest life end low high b db

    at : (e : ℕ) → b ≤ e → e < end → Gives Sound (e + 1) (ops_of w b changes (e + 1)) (seen e) (seen (e + 1))
    at e from to = gives Sound w seen changes b e (alive.since e from (omega (arith, to))) (alive.since (e + 1) (omega (arith, from)) (omega (arith, to)))
        (life.happened e (let l = alive.low in omega (arith, l, from)) (omega (arith, to, high)))

    aparts : (e k : ℕ) → k + 1 ≡ e → b < e → e ≤ end → AllApart (ops_of w b changes e)
    aparts e k is from to = subst (λ (j : ℕ). AllApart (ops_of w b changes j)) is (at k (omega (arith, is, from)) (omega (arith, is, to))).apart

    sounds : (e k : ℕ) → k + 1 ≡ e → b < e → e ≤ end → Each Sound (ops_of w b changes e)
    sounds e k is from to = subst (λ (j : ℕ). Each Sound (ops_of w b changes j)) is (at k (omega (arith, is, from)) (omega (arith, is, to))).sound
