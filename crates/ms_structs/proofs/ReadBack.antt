-- Texts, lists and maps read back as they were written.
use Rattle.std.proofs.Common.{◌≡◌, ◌==◌, ◌||◌, ◌&&◌, if◌then◌else◌, Bool, true, false, ℕ, List, [], ◌∷◌, ◌++◌, Option, Some, None, IfSome, refl, sym, ap, ◌∙◌, subst, append_assoc, append-nil, eq-eqb}
use Rattle.std.specs.Str.{IsUtf8}
use Rattle.std.proofs.lemmas.Str.{is_utf8-from_IsUtf8}
use Rattle.std.specs.Cmp.{IsTotalOrder}
use Rattle.std.specs.Cmp.Lexicographic.{slice_cmp, nat_list_cmp_total}
use Rattle.std.specs.List.{AllByRecursion}
use Rattle.std.specs.List.Sorted.{IsStrictlySortedBy}
use Rattle.std.specs.Map.{keys_of}
use Rattle.std.specs.Ordering.{nat_cmp}
use Rattle.std.specs.declared.cmp.Ordering.{Ordering}
use Rattle.cat_values.proofs.MapLemmas.{insert_last}
use Rattle.thrift_binary.specs.Tree.{Wire, Bytes, Flag, elements_count, entries_count}
use Rattle.thrift_binary.specs.Building.{elements_of, entries_of}
use Rattle.ms_structs.specs.declared.got.Got.{Got}
use Rattle.ms_structs.specs.declared.got.Got.TheVariants.{Nothing, Is}
use Rattle.ms_structs.specs.declared.pairs.PairsSoFar.{PairsSoFar}
use Rattle.ms_structs.specs.Slots.{said_or_bad, typed}
use Rattle.ms_structs.specs.Values.{all_pairs, flag_of, fold_elements, fold_entries, items_of, pairs_of, params_of, text_of, with_item, with_pair}
use Rattle.ms_structs.specs.Written.{items_tree, pairs_tree, params_tree}
use Rattle.ms_structs.specs.Laws.{ArePairs, IsTextOrNone}

pub text_read : (text : List ℕ) → IsUtf8 text → text_of (Bytes text) ≡ Is text
text_read text is = rw (is_utf8-from_IsUtf8 text is) refl

pub maybe_text_read : (text : Option (List ℕ)) → IsTextOrNone text → IfSome text (λ t. text_of (Bytes t) ≡ Is t)
maybe_text_read None is = tt
maybe_text_read (Some t) is = text_read t is

pub maybe_flag_read : (flag : Option Bool) → IfSome flag (λ b. flag_of (Flag b) ≡ Is b)
maybe_flag_read None = tt
maybe_flag_read (Some b) = refl

-- of a type that is the wanted one nobody asks how many values there are
either : {A : Type 0} (b c : Bool) (x y : A) → c ≡ true → (if b || c then x else y) ≡ x
either true c x y is = refl
either false c x y is = rw is refl

typed_tree : {A : Type 0} (code : ℕ) (means : Wire → Got A) (w : Wire) → typed code means code w ≡ means w
typed_tree code means w = rw (eq-eqb code code refl) refl

-- ---- lists

module _ {A : Type 0} (code : ℕ) (means : Wire → Got A) (tree : A → Wire) (P : A → Type 0) (read : (x : A) → P x → means (tree x) ≡ Is x) where
  abbrev item_step : Option (List A) → Wire → Option (List A)
  item_step so w = with_item so (typed code means code w)

  one_item : (done : List A) (x : A) → P x → item_step (Some done) (tree x) ≡ Some (done ++ x ∷ [])
  one_item done x is = ap (λ got. with_item (Some done) got) (typed_tree code means (tree x) ∙ read x is)

  elements_read : (done left : List A) → AllByRecursion P left → fold_elements item_step (Some done) (elements_of tree left) ≡ Some (done ++ left)
  elements_read done [] all = ap Some (sym (append-nil done))
  elements_read done (x ∷ left) all =
      ap (λ so. fold_elements item_step so (elements_of tree left)) (one_item done x all.0)
      ∙ elements_read (done ++ x ∷ []) left all.1
      ∙ ap Some (append_assoc done (x ∷ []) left)

  -- a list of values that read back reads back
  pub items_read : (items : List A) → AllByRecursion P items → items_of code means (items_tree code tree items) ≡ Is items
  items_read items all =
      either (elements_count (elements_of tree items) == 0) (code == code) _ Nothing (eq-eqb code code refl)
      ∙ ap said_or_bad (elements_read [] items all)

pub texts_read : (texts : List (List ℕ)) → AllByRecursion IsUtf8 texts → items_of 11 text_of (items_tree 11 Bytes texts) ≡ Is texts
texts_read = items_read 11 text_of Bytes IsUtf8 text_read

-- ---- maps

abbrev held : {K V : Type 0} → List (K × V) → Option (PairsSoFar K V)
held pairs = Some (record { pairs = pairs; spoiled = [] })

module _ {K V : Type 0} (cmp : K → K → Ordering) (total : IsTotalOrder cmp) (key : ℕ) (key_means : Wire → Got K) (key_tree : K → Wire) (value : ℕ) (value_means : Wire → Got V) (value_tree : V → Wire)
    (P : K × V → Type 0) (read_key : (pair : K × V) → P pair → key_means (key_tree pair.0) ≡ Is pair.0) (read_value : (pair : K × V) → P pair → value_means (value_tree pair.1) ≡ Is pair.1) where
  abbrev pair_step : Option (PairsSoFar K V) → Wire → Wire → Option (PairsSoFar K V)
  pair_step so k w = with_pair cmp so (typed key key_means key k) (typed value value_means value w)

  one_pair : (done left : List (K × V)) (pair : K × V) → P pair → IsStrictlySortedBy cmp (keys_of (done ++ pair ∷ left)) → pair_step (held done) (key_tree pair.0) (value_tree pair.1) ≡ held (done ++ pair ∷ [])
  one_pair done left pair is sorted =
      ap (λ k. with_pair cmp (held done) k (typed value value_means value (value_tree pair.1))) (typed_tree key key_means (key_tree pair.0) ∙ read_key pair is)
      ∙ ap (λ x. with_pair cmp (held done) (Is pair.0) x) (typed_tree value value_means (value_tree pair.1) ∙ read_value pair is)
      ∙ ap held (insert_last cmp total done pair.0 pair.1 left sorted)

  entries_read : (done left : List (K × V)) → AllByRecursion P left → IsStrictlySortedBy cmp (keys_of (done ++ left)) → fold_entries pair_step (held done) (entries_of (λ pair. key_tree pair.0) (λ pair. value_tree pair.1) left) ≡ held (done ++ left)
  entries_read done [] all sorted = ap held (sym (append-nil done))
  entries_read done (pair ∷ left) all sorted =
      let again : (done ++ pair ∷ []) ++ left ≡ done ++ pair ∷ left = append_assoc done (pair ∷ []) left in
      ap (λ so. fold_entries pair_step so (entries_of (λ pair. key_tree pair.0) (λ pair. value_tree pair.1) left)) (one_pair done left pair all.0 sorted)
      ∙ entries_read (done ++ pair ∷ []) left all.1 (subst (λ es. IsStrictlySortedBy cmp (keys_of es)) (sym again) sorted)
      ∙ ap held again

  -- a map of keys and values that read back reads back
  pub map_read : (pairs : List (K × V)) → AllByRecursion P pairs → IsStrictlySortedBy cmp (keys_of pairs) → pairs_of cmp key key_means value value_means (pairs_tree key key_tree value value_tree pairs) ≡ Is pairs
  map_read pairs all sorted =
      either (entries_count (entries_of (λ (pair : K × V). key_tree pair.0) (λ pair. value_tree pair.1) pairs) == 0) ((key == key) && (value == value)) _ Nothing (rw (eq-eqb key key refl, eq-eqb value value refl) refl)
      ∙ ap all_pairs (entries_read [] pairs all sorted)

pub params_read : (params : List (List ℕ × List ℕ)) → ArePairs params → IsStrictlySortedBy (slice_cmp nat_cmp) (keys_of params) → params_of (params_tree params) ≡ Is params
params_read = map_read (slice_cmp nat_cmp) nat_list_cmp_total 11 text_of Bytes 11 text_of Bytes (λ pair. IsUtf8 pair.0 × IsUtf8 pair.1) (λ pair is. text_read pair.0 is.0) (λ pair is. text_read pair.1 is.1)
