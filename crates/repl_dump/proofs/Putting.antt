-- Files that are put into a folder, and found there.
use Rattle.std.proofs.Common.{◌≡◌, ℕ, Bool, true, false, cond, List, [], ◌∷◌, ◌++◌, Option, Some, None, refl, sym, ◌∙◌, ap, inl, inr}
use Rattle.std.specs.List.{AllByRecursion}
use Rattle.std.specs.BTreeMap.{insert_entry}
use Rattle.std.specs.Cmp.Lexicographic.{slice_cmp}
use Rattle.std.specs.Ordering.{is_eq, match_ordering, nat_cmp}
use Rattle.std.specs.declared.cmp.Ordering.{Ordering}
use Rattle.std.specs.declared.cmp.Ordering.TheVariants.{Equal, Greater, Less}
use Rattle.std.specs.Str.{bytes_eq}
use Rattle.std.proofs.lemmas.Slice.Eq.{bytes_eq-Decides}
use Rattle.std.proofs.lemmas.Map.Text.{is_eq-slice_cmp}
use Rattle.std.proofs.lemmas.Map.Lookups.{exact_bytes}
use Rattle.hms_outside.specs.Folders.{file}
use Rattle.repl_dump.specs.Files.{Files, Gained, IsAmong, OthersStay}

same_name : (name : List ℕ) → is_eq (slice_cmp nat_cmp name name) ≡ true
same_name name = is_eq-slice_cmp name name ∙ (bytes_eq-Decides name name).1 refl

differ : (a b : List ℕ) (t : Bool) → (t ≡ true → a ≡ b) → (a ≡ b → ⊥) → t ≡ false
differ a b true same unlike = absurd (unlike (same refl))
differ a b false same unlike = refl

other_name : (a b : List ℕ) → (a ≡ b → ⊥) → is_eq (slice_cmp nat_cmp a b) ≡ false
other_name a b unlike = is_eq-slice_cmp a b ∙ differ a b (bytes_eq a b) (bytes_eq-Decides a b).0 unlike

-- a file that was put is found
pub put_found : (files : Files) (name bytes : List ℕ) → file (insert_entry (slice_cmp nat_cmp) files name bytes) name ≡ Some bytes
put_found [] name bytes = ap (λ (b : Bool). cond b (Some bytes) None) (same_name name)
put_found (e ∷ es) name bytes = by (slice_cmp nat_cmp name e.0) refl (put_found es name bytes)
  where
    by : (r : Ordering) → slice_cmp nat_cmp name e.0 ≡ r → file (insert_entry (slice_cmp nat_cmp) es name bytes) name ≡ Some bytes
        → file (match_ordering r ((name, bytes) ∷ e ∷ es) ((e.0, bytes) ∷ es) (e ∷ insert_entry (slice_cmp nat_cmp) es name bytes)) name ≡ Some bytes
    by Less p later = ap (λ (b : Bool). cond b (Some bytes) (file (e ∷ es) name)) (same_name name)
    by Equal p later = ap (λ (r : Ordering). cond (is_eq r) (Some bytes) (file es name)) p
    by Greater p later = ap (λ (r : Ordering). cond (is_eq r) (Some e.1) (file (insert_entry (slice_cmp nat_cmp) es name bytes) name)) p ∙ later

-- all others are found as before
pub put_others : (files : Files) (name bytes other : List ℕ) → (other ≡ name → ⊥) → file (insert_entry (slice_cmp nat_cmp) files name bytes) other ≡ file files other
put_others [] name bytes other unlike = ap (λ (b : Bool). cond b (Some bytes) None) (other_name other name unlike)
put_others (e ∷ es) name bytes other unlike = by (slice_cmp nat_cmp name e.0) refl (put_others es name bytes other unlike)
  where
    by : (r : Ordering) → slice_cmp nat_cmp name e.0 ≡ r → file (insert_entry (slice_cmp nat_cmp) es name bytes) other ≡ file es other
        → file (match_ordering r ((name, bytes) ∷ e ∷ es) ((e.0, bytes) ∷ es) (e ∷ insert_entry (slice_cmp nat_cmp) es name bytes)) other ≡ file (e ∷ es) other
    by Less p later = ap (λ (b : Bool). cond b (Some bytes) (file (e ∷ es) other)) (other_name other name unlike)
    by Equal p later =
        let same : name ≡ e.0 = exact_bytes name e.0 p in
        let other_key : is_eq (slice_cmp nat_cmp other e.0) ≡ false = other_name other e.0 (λ q. unlike (q ∙ sym same)) in
        ap (λ (b : Bool). cond b (Some bytes) (file es other)) other_key ∙ sym (ap (λ (b : Bool). cond b (Some e.1) (file es other)) other_key)
    by Greater p later = ap (λ (o : Option (List ℕ)). cond (is_eq (slice_cmp nat_cmp other e.0)) (Some e.1) o) later

-- one file that was put
pub gained_one : (old new : Files) (name bytes : List ℕ) → new ≡ insert_entry (slice_cmp nat_cmp) old name bytes → Gained ((name, bytes) ∷ []) old new
gained_one old new name bytes is = record {
  each = (ap (λ (f : Files). file f name) is ∙ put_found old name bytes, tt);
  others = λ other unlike. ap (λ (f : Files). file f other) is ∙ put_others old name bytes other (λ q. unlike (inl q));
}

pub gained_none : (old new : Files) → new ≡ old → Gained [] old new
gained_none old new is = record { each = tt; others = λ other unlike. ap (λ (f : Files). file f other) is }

pub among_front : (name : List ℕ) (xs ys : Files) → IsAmong name xs → IsAmong name (xs ++ ys)
among_front name [] ys is = absurd is
among_front name (x ∷ xs) ys (inl here) = inl here
among_front name (x ∷ xs) ys (inr later) = inr (among_front name xs ys later)

pub among_back : (name : List ℕ) (xs ys : Files) → IsAmong name ys → IsAmong name (xs ++ ys)
among_back name [] ys is = is
among_back name (x ∷ xs) ys is = inr (among_back name xs ys is)

-- these files, and then one more of another name
pub gained_more : (texts old mid new : Files) (name bytes : List ℕ) → Gained texts old mid → Gained ((name, bytes) ∷ []) mid new → (IsAmong name texts → ⊥) → Gained (texts ++ (name, bytes) ∷ []) old new
gained_more texts old mid new name bytes before one apart = record {
  each = kept texts apart before.each;
  others = λ other unlike. one.others other (not_one other unlike) ∙ before.others other (λ is. unlike (among_front other texts ((name, bytes) ∷ []) is));
}
  where
    not_one : (other : List ℕ) → (IsAmong other (texts ++ (name, bytes) ∷ []) → ⊥) → IsAmong other ((name, bytes) ∷ []) → ⊥
    not_one other unlike is = unlike (among_back other texts ((name, bytes) ∷ []) is)

    differs : (other : List ℕ) → (name ≡ other → ⊥) → IsAmong other ((name, bytes) ∷ []) → ⊥
    differs other unlike (inl is) = unlike (sym is)
    differs other unlike (inr is) = is

    kept : (ts : Files) → (IsAmong name ts → ⊥) → AllByRecursion (λ entry. file mid entry.0 ≡ Some entry.1) ts → AllByRecursion (λ entry. file new entry.0 ≡ Some entry.1) (ts ++ (name, bytes) ∷ [])
    kept [] unlike all = one.each
    kept (t ∷ ts) unlike all = (one.others t.0 (differs t.0 (λ q. unlike (inl q))) ∙ all.0, kept ts (λ is. unlike (inr is)) all.1)

pub stays_both : (dir : List ℕ) (old mid new : Files) → OthersStay dir old mid → OthersStay dir mid new → OthersStay dir old new
stays_both dir old mid new a b = λ name outside. b name outside ∙ a name outside
