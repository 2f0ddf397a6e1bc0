-- What was written is read again.
use Rattle.std.proofs.Common.{◌≡◌, ℕ, List, [], ◌++◌, length, Result, Ok, sym, ◌∙◌, ap}
use Rattle.std.proofs.lemmas.List.{append-nil}
use Rattle.change_codec.specs.Forms.{Form, Reading}
use Rattle.change_codec.specs.Records.{an_entry}
use Rattle.change_codec.specs.Whole.{IsReadAgain, whole, whole_by}
use Rattle.change_codec.specs.declared.entry.Entry.{Entry}
use Rattle.change_codec.specs.declared.version.Version.TheVariants.{One}
use Rattle.engine.specs.Opening.{said, spelled, written_in}

spelled_again : {T : Type 0} (form : Form T) (value : T) (old new : List ℕ) → IsReadAgain form → form.HasCode value → old ≡ [] → new ≡ old ++ form.code value → whole form new ≡ Ok value
spelled_again {T} form value old new again fits none is =
    ap (λ (l : List ℕ). whole form l) (is ∙ ap (λ (l : List ℕ). l ++ form.code value) none)
    ∙ ap (λ (r : Reading T). whole_by (length (form.code value)) r) (ap (λ (l : List ℕ). form.read l) (sym (append-nil (form.code value))) ∙ again value [] fits)

-- the payload of an entry says what the entry says
pub spelled_entry : (e : Entry) (old new : List ℕ) → IsReadAgain (an_entry One) → (an_entry One).HasCode e → old ≡ [] → new ≡ old ++ (an_entry One).code e → spelled new ≡ written_in e
spelled_entry e old new again fits none is = ap (λ (r : Result Entry ℕ). said r) (spelled_again (an_entry One) e old new again fits none is)
