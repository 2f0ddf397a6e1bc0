-- How the files of answers grow by one answer more.
use Rattle.std.proofs.Common.{◌≡◌, ◌⊎◌, ℕ, suc, ◌+◌, ◌<◌, ◌^◌, List, [], ◌∷◌, ◌++◌, length, codes, refl, sym, ◌∙◌, ap, subst, inl, inr, arith, append_assoc}
use Rattle.std.specs.Prelude.{drop}
use Rattle.std.proofs.lemmas.Fmt.{decimal_injective}
use Rattle.std.proofs.lemmas.List.{append-nil, append_cancel_left, length-append}
use Rattle.cat_types.specs.declared.steps.Answer.{Answer}
use Rattle.dump_texts.specs.Texts.{event_texts, events_text, events_told, files_from, files_told, item_texts, items_text, items_told, name_at, path_in, text_before}
use Rattle.dump_texts.specs.declared.kinds.FileKind.{FileKind}
use Rattle.dump_texts.specs.declared.kinds.FileKind.TheVariants.{EventFile, ItemFile}

-- ---- more answers

before_both : {T : Type 0} (text : List T → List ℕ) (l : List T) (xs ys : List (List ℕ)) → text_before text l (xs ++ ys) ≡ text_before text l xs ++ ys
before_both text [] xs ys = refl
before_both text (x ∷ l) xs ys = refl

pub item_texts_both : (xs ys : List Answer) → item_texts (xs ++ ys) ≡ item_texts xs ++ item_texts ys
item_texts_both [] ys = refl
item_texts_both (x ∷ xs) ys = ap (λ l. text_before items_text (items_told x) l) (item_texts_both xs ys) ∙ before_both items_text (items_told x) (item_texts xs) (item_texts ys)

pub event_texts_both : (xs ys : List Answer) → event_texts (xs ++ ys) ≡ event_texts xs ++ event_texts ys
event_texts_both [] ys = refl
event_texts_both (x ∷ xs) ys = ap (λ l. text_before events_text (events_told x) l) (event_texts_both xs ys) ∙ before_both events_text (events_told x) (event_texts xs) (event_texts ys)

pub files_from_both : (kind : FileKind) (place : ℕ) (xs ys : List (List ℕ)) → files_from kind place (xs ++ ys) ≡ files_from kind place xs ++ files_from kind (place + length xs) ys
files_from_both kind place [] ys =
    let same : place ≡ place + 0 = omega arith in
    ap (λ n. files_from kind n ys) same
files_from_both kind place (x ∷ xs) ys =
    let same : (place + 1) + length xs ≡ place + suc (length xs) = omega arith in
    ap (λ l. (name_at kind place, x) ∷ l) (files_from_both kind (place + 1) xs ys ∙ ap (λ n. files_from kind (place + 1) xs ++ files_from kind n ys) same)

files_from_start : (kind : FileKind) (xs ys : List (List ℕ)) → files_from kind 0 (xs ++ ys) ≡ files_from kind 0 xs ++ files_from kind (length xs) ys
files_from_start kind xs ys =
    let same : 0 + length xs ≡ length xs = omega arith in
    files_from_both kind 0 xs ys ∙ ap (λ n. files_from kind 0 xs ++ files_from kind n ys) same

ordered : {T : Type 0} (a b c d : List T) → (b ≡ []) ⊎ (c ≡ []) → (a ++ b) ++ (c ++ d) ≡ (a ++ c) ++ (b ++ d)
ordered {T} a b c d (inl none) = subst (λ (l : List T). (a ++ l) ++ (c ++ d) ≡ (a ++ c) ++ (l ++ d)) (sym none) (ap (λ (l : List T). l ++ (c ++ d)) (append-nil a) ∙ sym (append_assoc a c d))
ordered {T} a b c d (inr none) = subst (λ (l : List T). (a ++ b) ++ (l ++ d) ≡ (a ++ l) ++ (b ++ d)) (sym none) (append_assoc a b d ∙ sym (ap (λ (l : List T). l ++ (b ++ d)) (append-nil a)))

-- the files of one answer more, where so many were there before
abbrev pub files_at : ℕ → ℕ → Answer → List (List ℕ × List ℕ)
files_at items events given = files_from ItemFile items (item_texts (given ∷ [])) ++ files_from EventFile events (event_texts (given ∷ []))

no_files : (kind : FileKind) (place : ℕ) (texts : List (List ℕ)) → texts ≡ [] → files_from kind place texts ≡ []
no_files kind place texts none = ap (λ l. files_from kind place l) none

-- one answer more, which tells no items, or before which no events were told
pub files_more : (answers : List Answer) (given : Answer) → (item_texts (given ∷ []) ≡ []) ⊎ (event_texts answers ≡ [])
    → files_told (answers ++ given ∷ []) ≡ files_told answers ++ files_at (length (item_texts answers)) (length (event_texts answers)) given
files_more answers given one =
    ap (λ l. files_from ItemFile 0 l ++ files_from EventFile 0 (event_texts (answers ++ given ∷ []))) (item_texts_both answers (given ∷ []))
    ∙ (ap (λ l. files_from ItemFile 0 (item_texts answers ++ item_texts (given ∷ [])) ++ files_from EventFile 0 l) (event_texts_both answers (given ∷ []))
    ∙ (ap (λ l. l ++ files_from EventFile 0 (event_texts answers ++ event_texts (given ∷ []))) (files_from_start ItemFile (item_texts answers) (item_texts (given ∷ [])))
    ∙ (ap (λ l. (files_from ItemFile 0 (item_texts answers) ++ files_from ItemFile (length (item_texts answers)) (item_texts (given ∷ []))) ++ l) (files_from_start EventFile (event_texts answers) (event_texts (given ∷ [])))
    ∙ ordered (files_from ItemFile 0 (item_texts answers)) (files_from ItemFile (length (item_texts answers)) (item_texts (given ∷ []))) (files_from EventFile 0 (event_texts answers)) (files_from EventFile (length (event_texts answers)) (event_texts (given ∷ []))) (which one))))
  where
    which : (item_texts (given ∷ []) ≡ []) ⊎ (event_texts answers ≡ []) → (files_from ItemFile (length (item_texts answers)) (item_texts (given ∷ [])) ≡ []) ⊎ (files_from EventFile 0 (event_texts answers) ≡ [])
    which (inl none) = inl (no_files ItemFile (length (item_texts answers)) (item_texts (given ∷ [])) none)
    which (inr none) = inr (no_files EventFile 0 (event_texts answers) none)

pub items_more : (answers : List Answer) (given : Answer) → length (item_texts (answers ++ given ∷ [])) ≡ length (item_texts answers) + length (item_texts (given ∷ []))
items_more answers given = ap (λ (l : List (List ℕ)). length l) (item_texts_both answers (given ∷ [])) ∙ length-append (item_texts answers) (item_texts (given ∷ []))

pub events_more : (answers : List Answer) (given : Answer) → length (event_texts (answers ++ given ∷ [])) ≡ length (event_texts answers) + length (event_texts (given ∷ []))
events_more answers given = ap (λ (l : List (List ℕ)). length l) (event_texts_both answers (given ∷ [])) ∙ length-append (event_texts answers) (event_texts (given ∷ []))

-- ---- names

pub names_differ : (dir : List ℕ) (kind : FileKind) (n m : ℕ) → n < 2 ^ 64 → m < 2 ^ 64 → path_in dir (name_at kind n) ≡ path_in dir (name_at kind m) → n ≡ m
names_differ dir ItemFile n m fits too same = decimal_injective n m fits too (ap (λ l. drop 2 l) (append_cancel_left dir _ _ same))
names_differ dir EventFile n m fits too same = decimal_injective n m fits too (ap (λ l. drop 2 l) (append_cancel_left dir _ _ same))

abbrev second : List ℕ → ℕ
second (a ∷ (b ∷ l)) = b
second other = 0

pub kinds_differ : (dir : List ℕ) (n m : ℕ) → path_in dir (name_at ItemFile n) ≡ path_in dir (name_at EventFile m) → ⊥
kinds_differ dir n m same =
    let no : 105 ≡ 101 = ap second (append_cancel_left dir (codes "/" ++ name_at ItemFile n) (codes "/" ++ name_at EventFile m) same) in absurd (omega (arith, no))
