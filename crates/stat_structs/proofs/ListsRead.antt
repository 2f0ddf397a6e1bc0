-- Lists whose items are read as another type than they are written from.
use Rattle.std.proofs.Common.{◌≡◌, ◌==◌, ◌||◌, if◌then◌else◌, Bool, true, false, ℕ, List, [], ◌∷◌, ◌++◌, map, Option, Some, refl, sym, ap, ◌∙◌, append_assoc, append-nil, eq-eqb}
use Rattle.std.specs.List.{AllByRecursion}
use Rattle.thrift_binary.specs.Tree.{Wire, elements_count}
use Rattle.thrift_binary.specs.Building.{elements_of}
use Rattle.ms_structs.specs.declared.got.Got.{Got}
use Rattle.ms_structs.specs.declared.got.Got.TheVariants.{Nothing, Is}
use Rattle.ms_structs.specs.Slots.{said_or_bad, typed}
use Rattle.ms_structs.specs.Values.{fold_elements, items_of, with_item}
use Rattle.ms_structs.specs.Written.{items_tree}

-- of a type that is the wanted one nobody asks how many values there are
either : {A : Type 0} (b c : Bool) (x y : A) → c ≡ true → (if b || c then x else y) ≡ x
either true c x y is = refl
either false c x y is = rw is refl

typed_tree : {A : Type 0} (code : ℕ) (means : Wire → Got A) (w : Wire) → typed code means code w ≡ means w
typed_tree code means w = rw (eq-eqb code code refl) refl

module _ {A B : Type 0} (code : ℕ) (means : Wire → Got B) (tree : A → Wire) (seen : A → B) (P : A → Type 0) (read : (x : A) → P x → means (tree x) ≡ Is (seen x)) where
  abbrev item_step : Option (List B) → Wire → Option (List B)
  item_step so w = with_item so (typed code means code w)

  one_item : (done : List B) (x : A) → P x → item_step (Some done) (tree x) ≡ Some (done ++ seen x ∷ [])
  one_item done x is = ap (λ got. with_item (Some done) got) (typed_tree code means (tree x) ∙ read x is)

  elements_read : (done : List B) (left : List A) → AllByRecursion P left → fold_elements item_step (Some done) (elements_of tree left) ≡ Some (done ++ map seen left)
  elements_read done [] all = ap Some (sym (append-nil done))
  elements_read done (x ∷ left) all =
      ap (λ so. fold_elements item_step so (elements_of tree left)) (one_item done x all.0)
      ∙ elements_read (done ++ seen x ∷ []) left all.1
      ∙ ap Some (append_assoc done (seen x ∷ []) (map seen left))

  -- a list reads back item by item
  pub items_read_as : (items : List A) → AllByRecursion P items → items_of code means (items_tree code tree items) ≡ Is (map seen items)
  items_read_as items all =
      either (elements_count (elements_of tree items) == 0) (code == code) _ Nothing (eq-eqb code code refl)
      ∙ ap said_or_bad (elements_read [] items all)
