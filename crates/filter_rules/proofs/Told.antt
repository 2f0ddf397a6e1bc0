-- A text is taken for the tree that it spells, or refused by its fault.
use Rattle.std.proofs.Common.{◌≡◌, ◌≢◌, ℕ, List, Option, refl, ap, ◌∙◌, subst, inl, inr}
use Rattle.std.specs.Prelude.{◌⊎◌}
use Rattle.cat_values.specs.declared.storage.Column.{Column}
use Rattle.filter_expr.proofs.Descending.{read_or_refused}
use Rattle.filter_expr.proofs.OneWay.{not_refused, read_one_way, refused_one_way}
use Rattle.filter_expr.specs.Reading.{IsFault, Reads}
use Rattle.filter_expr.specs.Trees.{Any}
use Rattle.filter_expr.specs.declared.expr.Comparison.{Comparison}
use Rattle.filter_expr.specs.declared.fault.FilterFault.TheVariants.{NoMemory, Syntax, TooDeep, UnknownKey, WrongType}
use Rattle.filter_expr.specs.declared.fault.FilterFault.{FilterFault}
use Rattle.filter_rules.specs.Filters.{bar_of, filter_of, is_refused, refusal_by, spells, taken_for}
use Rattle.rulings.specs.declared.barred.Barred.TheVariants.{Refused}
use Rattle.rulings.specs.declared.refusal.Refusal.{Refusal}

abbrev Told : List ℕ → List Column → Type 0
Told text keys = ((tree : Option (Any Comparison)) × Reads text keys tree) ⊎ ((fault : FilterFault) × (fault ≢ NoMemory) × IsFault text keys fault)

taken_as : (text : List ℕ) (keys : List Column) (tree : Option (Any Comparison)) (told : Told text keys) → Reads text keys tree → taken_for text keys told ≡ spells tree
taken_as text keys tree (inl read) reads = ap spells (read_one_way text keys read.0 tree read.1 reads)
taken_as text keys tree (inr refused) reads = absurd (not_refused text keys tree refused.0 refused.1 reads refused.2)

one_refusal : (fault : FilterFault) (p q : fault ≢ NoMemory) → refusal_by fault p ≡ refusal_by fault q
one_refusal (Syntax place) p q = refl
one_refusal TooDeep p q = refl
one_refusal (UnknownKey key) p q = refl
one_refusal (WrongType key) p q = refl
one_refusal NoMemory p q = absurd (p refl)

same_refusal : (fault other : FilterFault) (p : fault ≢ NoMemory) (q : other ≢ NoMemory) → fault ≡ other → refusal_by fault p ≡ refusal_by other q
same_refusal fault other p q same = subst (λ (f : FilterFault). (r : f ≢ NoMemory) → refusal_by fault p ≡ refusal_by f r) same (λ r. one_refusal fault p r) q

refused_as : (text : List ℕ) (keys : List Column) (fault : FilterFault) (due : fault ≢ NoMemory) (told : Told text keys) → IsFault text keys fault → taken_for text keys told ≡ is_refused (refusal_by fault due)
refused_as text keys fault due (inl read) is = absurd (not_refused text keys read.0 fault due read.1 is)
refused_as text keys fault due (inr refused) is = ap is_refused (same_refusal refused.0 fault refused.1 due (refused_one_way text keys refused.0 fault refused.1 due refused.2 is))

pub filter_spells : (text : List ℕ) (keys : List Column) (tree : Option (Any Comparison)) → Reads text keys tree → filter_of text keys ≡ spells tree
unfolding filter_of
filter_spells text keys tree reads = taken_as text keys tree (read_or_refused text keys) reads

pub filter_refused : (text : List ℕ) (keys : List Column) (fault : FilterFault) (due : fault ≢ NoMemory) → IsFault text keys fault → filter_of text keys ≡ is_refused (refusal_by fault due)
unfolding filter_of
filter_refused text keys fault due is = refused_as text keys fault due (read_or_refused text keys) is

-- a refusal that is told is that of the fault
pub barred_as : (text : List ℕ) (keys : List Column) (fault : FilterFault) (refusal : Refusal) → IsFault text keys fault → bar_of fault ≡ Refused refusal → filter_of text keys ≡ is_refused refusal
barred_as text keys (Syntax place) refusal is told = filter_refused text keys (Syntax place) (λ (e : Syntax place ≡ NoMemory). cc) is ∙ ap is_refused cc
barred_as text keys TooDeep refusal is told = filter_refused text keys TooDeep (λ (e : TooDeep ≡ NoMemory). cc) is ∙ ap is_refused cc
barred_as text keys (UnknownKey key) refusal is told = filter_refused text keys (UnknownKey key) (λ (e : UnknownKey key ≡ NoMemory). cc) is ∙ ap is_refused cc
barred_as text keys (WrongType key) refusal is told = filter_refused text keys (WrongType key) (λ (e : WrongType key ≡ NoMemory). cc) is ∙ ap is_refused cc
barred_as text keys NoMemory refusal is told = absurd cc
