-- A file opens one way.
use Rattle.std.proofs.Common.{◌≡◌, inl, inr, ℕ, ◌+◌, ◌<◌, ◌≤◌, ◌^◌, List, [], ◌∷◌, ◌++◌, length, take, drop, refl, sym, ◌∙◌, ap, subst, arith, append_assoc, length-append}
use Rattle.std.specs.Int.{w64, to_be_bytes, from_be_bytes}
use Rattle.std.proofs.lemmas.List.{take_at, drop_at, take-append-le, drop-append-le, append_cancel_left, length-drop}
use Rattle.std.proofs.lemmas.Nat.{from_be_bytes-to_be_bytes_8}
use Rattle.ms_journal.specs.Files.{block, entries, front, AllFit, IsHead, IsFile, IsCut, IsBroken, IsForeign, base_in}
use Rattle.std.specs.Prelude.{Option, None, Some}
use Rattle.hms_outside.specs.Disks.{Lies, IsImage}
use Rattle.ms_journal.specs.Books.{LeavesOpen, OpensTo}
use Rattle.ms_journal.specs.Laws.{IsLog}
use Rattle.ms_journal.proofs.FileForms.{length-word}

-- the payload behind an open gate is known from the bytes
word_first : (p r s : List ℕ) → s ≡ block p ++ r → take 8 s ≡ to_be_bytes w64 (length p)
word_first p r s is = ap (take 8) (is ∙ append_assoc (to_be_bytes w64 (length p)) p r) ∙ take_at (to_be_bytes w64 (length p)) (p ++ r) 8 (length-word (length p))

rest_behind : (p r s : List ℕ) → s ≡ block p ++ r → drop 8 s ≡ p ++ r
rest_behind p r s is = ap (drop 8) (is ∙ append_assoc (to_be_bytes w64 (length p)) p r) ∙ drop_at (to_be_bytes w64 (length p)) (p ++ r) 8 (length-word (length p))

one_block : (p q r t : List ℕ) → length p < 2 ^ 64 → length q < 2 ^ 64 → block p ++ r ≡ block q ++ t → (p ≡ q) × (r ≡ t)
one_block p q r t fp fq is =
    let s = block p ++ r in
    let words : to_be_bytes w64 (length p) ≡ to_be_bytes w64 (length q) = sym (word_first p r s refl) ∙ word_first q t s is in
    let sizes : length p ≡ length q = sym (from_be_bytes-to_be_bytes_8 (length p) fp) ∙ ap (from_be_bytes w64) words ∙ from_be_bytes-to_be_bytes_8 (length q) fq in
    let rests : p ++ r ≡ q ++ t = sym (rest_behind p r s refl) ∙ rest_behind q t s is in (
      sym (take_at p r (length p) refl) ∙ ap (take (length p)) rests ∙ take_at q t (length p) (sym sizes),
      sym (drop_at p r (length p) refl) ∙ ap (drop (length p)) rests ∙ drop_at q t (length p) (sym sizes),
    )

behind_one : (a b : List ℕ) → 1 ∷ a ≡ 1 ∷ b → a ≡ b
behind_one a b is = ap (drop 1) is

one_entries : (ps qs : List (List ℕ)) (g h : ℕ) (r t : List ℕ) → AllFit ps → AllFit qs → (g ≡ 1 → ⊥) → (h ≡ 1 → ⊥) → entries ps ++ g ∷ r ≡ entries qs ++ h ∷ t → ps ≡ qs
one_entries [] [] g h r t fp fq sg sh is = refl
one_entries [] (q ∷ qs) g h r t fp fq sg sh is = let e : g ≡ 1 = cc in absurd (sg e)
one_entries (p ∷ ps) [] g h r t fp fq sg sh is = let e : h ≡ 1 = cc in absurd (sh e)
one_entries (p ∷ ps) (q ∷ qs) g h r t fp fq sg sh is =
    let both = one_block p q (entries ps ++ g ∷ r) (entries qs ++ h ∷ t) fp.0 fq.0
    (sym (append_assoc (block p) (entries ps) (g ∷ r)) ∙ behind_one _ _ is ∙ append_assoc (block q) (entries qs) (h ∷ t)) in
    let first = both.0 in
    let more = one_entries ps qs g h r t fp.1 fq.1 sg sh both.1 in
    cc

whole_not_cut : (p r rest : List ℕ) (g : ℕ) (t : List ℕ) → length p < 2 ^ 64 → rest ≡ block p ++ (r ++ g ∷ t) → IsCut rest → ⊥
whole_not_cut p r rest g t fp is (inl short) =
    omega (arith, short, ap length is, length-append (block p) (r ++ g ∷ t), length-append (to_be_bytes w64 (length p)) p, length-word (length p))
whole_not_cut p r rest g t fp is (inr short) =
    let size : from_be_bytes w64 (take 8 rest) ≡ length p = ap (from_be_bytes w64) (word_first p (r ++ g ∷ t) rest is) ∙ from_be_bytes-to_be_bytes_8 (length p) fp in
    let le : length rest < 9 + length p = subst (λ (n : ℕ). length rest < 9 + n) size short in
    omega (arith, ap length is, length-append (block p) (r ++ g ∷ t), length-append (to_be_bytes w64 (length p)) p, length-word (length p), length-append r (g ∷ t))

not_cut : (ps qs : List (List ℕ)) (g : ℕ) (r rest : List ℕ) → AllFit ps → AllFit qs → (g ≡ 1 → ⊥) → entries ps ++ g ∷ r ≡ entries qs ++ 1 ∷ rest → IsCut rest → ⊥
not_cut [] [] g r rest fp fq sg is cut = let e : g ≡ 1 = cc in sg e
not_cut [] (q ∷ qs) g r rest fp fq sg is cut = let e : g ≡ 1 = cc in sg e
not_cut (p ∷ ps) [] g r rest fp fq sg is cut =
    whole_not_cut p (entries ps) rest g r fp.0 (sym (behind_one _ _ is) ∙ append_assoc (block p) (entries ps) (g ∷ r)) cut
not_cut (p ∷ ps) (q ∷ qs) g r rest fp fq sg is cut =
    let both = one_block p q (entries ps ++ g ∷ r) (entries qs ++ 1 ∷ rest) fp.0 fq.0
    (sym (append_assoc (block p) (entries ps) (g ∷ r)) ∙ behind_one _ _ is ∙ append_assoc (block q) (entries qs) (1 ∷ rest)) in
    not_cut ps qs g r rest fp.1 fq.1 sg both.1 cut

head_first : (head r c : List ℕ) → IsHead head → c ≡ head ++ r → take 40 c ≡ head
head_first head r c h is = ap (take 40) is ∙ take_at head r 40 h.size

same_tails : (head head2 r t : List ℕ) → head ≡ head2 → head ++ r ≡ head2 ++ t → r ≡ t
same_tails head head2 r t same is = append_cancel_left head r t (is ∙ ap (λ (l : List ℕ). l ++ t) (sym same))

pub one_file : (head head2 : List ℕ) (ps qs : List (List ℕ)) (c : List ℕ) → IsFile head ps c → IsFile head2 qs c → (head ≡ head2) × (ps ≡ qs)
one_file head head2 ps qs c a b =
    let ca = a.bytes ∙ append_assoc head (entries ps) (a.gate ∷ a.rest) in
    let cb = b.bytes ∙ append_assoc head2 (entries qs) (b.gate ∷ b.rest) in
    let heads : head ≡ head2 = sym (head_first head _ c a.headed ca) ∙ head_first head2 _ c b.headed cb in
    (heads, one_entries ps qs a.gate b.gate a.rest b.rest a.fit b.fit a.shut b.shut (same_tails head head2 _ _ heads (sym ca ∙ cb)))

not_broken : (head : List ℕ) (ps : List (List ℕ)) (c : List ℕ) (at : ℕ) → IsFile head ps c → IsBroken at c → ⊥
not_broken head ps c at a b =
    let ca = a.bytes ∙ append_assoc head (entries ps) (a.gate ∷ a.rest) in
    let cb = b.bytes ∙ append_assoc b.head (entries b.payloads) (1 ∷ b.rest) in
    let heads : head ≡ b.head = sym (head_first head _ c a.headed ca) ∙ head_first b.head _ c b.headed cb in
    not_cut ps b.payloads a.gate a.rest b.rest a.fit b.fit a.shut (same_tails head b.head _ _ heads (sym ca ∙ cb)) b.cut

-- bytes behind a head and its entries
not_foreign : (head : List ℕ) (ps : List (List ℕ)) (c : List ℕ) (gate : ℕ) (rest : List ℕ) → IsHead head → c ≡ front head ps ++ gate ∷ rest → IsForeign c → ⊥
not_foreign head ps c gate rest headed is (inl short) =
    let long = ap length is ∙ length-append (front head ps) (gate ∷ rest) in
    let size = headed.size in
    omega (arith, length-append head (entries ps))
not_foreign head ps c gate rest headed is (inr (inl other)) =
    let ca = is ∙ append_assoc head (entries ps) (gate ∷ rest) in
    let size = headed.size in
    other (ap (take 8) ca ∙ take-append-le 8 head (entries ps ++ gate ∷ rest) (omega arith) ∙ headed.signed)
not_foreign head ps c gate rest headed is (inr (inr large)) =
    let ca = is ∙ append_assoc head (entries ps) (gate ∷ rest) in
    let tail = entries ps ++ gate ∷ rest in
    let size = headed.size in
    let same : take 8 (drop 32 c) ≡ take 8 (drop 32 head) =
    ap (λ (l : List ℕ). take 8 (drop 32 l)) ca ∙ ap (take 8) (drop-append-le 32 head tail (omega arith)) ∙ take-append-le 8 (drop 32 head) tail (omega (arith, length-drop 32 head)) in
    let lt : base_in c < 2 ^ 63 = subst (λ (l : List ℕ). from_be_bytes w64 l < 2 ^ 63) (sym same) headed.base in
    apart (base_in c) lt large
  where
    apart : (n : ℕ) → n < 2 ^ 63 → 2 ^ 63 ≤ n → ⊥
    apart n lt le = omega arith

one_cut : (ps qs : List (List ℕ)) (r t : List ℕ) → AllFit ps → AllFit qs → entries ps ++ 1 ∷ r ≡ entries qs ++ 1 ∷ t → IsCut r → IsCut t → ps ≡ qs
one_cut [] [] r t fp fq is cut cut2 = refl
one_cut [] (q ∷ qs) r t fp fq is cut cut2 = absurd (whole_not_cut q (entries qs) r 1 t fq.0 (behind_one _ _ is ∙ append_assoc (block q) (entries qs) (1 ∷ t)) cut)
one_cut (p ∷ ps) [] r t fp fq is cut cut2 = absurd (whole_not_cut p (entries ps) t 1 r fp.0 (sym (behind_one _ _ is) ∙ append_assoc (block p) (entries ps) (1 ∷ r)) cut2)
one_cut (p ∷ ps) (q ∷ qs) r t fp fq is cut cut2 =
    let both = one_block p q (entries ps ++ 1 ∷ r) (entries qs ++ 1 ∷ t) fp.0 fq.0
    (sym (append_assoc (block p) (entries ps) (1 ∷ r)) ∙ behind_one _ _ is ∙ append_assoc (block q) (entries qs) (1 ∷ t)) in
    let first = both.0 in
    let more = one_cut ps qs r t fp.1 fq.1 both.1 cut cut2 in
    cc

pub one_place : (at at2 : ℕ) (c : List ℕ) → IsBroken at c → IsBroken at2 c → at ≡ at2
one_place at at2 c a b =
    let ca = a.bytes ∙ append_assoc a.head (entries a.payloads) (1 ∷ a.rest) in
    let cb = b.bytes ∙ append_assoc b.head (entries b.payloads) (1 ∷ b.rest) in
    let heads : a.head ≡ b.head = sym (head_first a.head _ c a.headed ca) ∙ head_first b.head _ c b.headed cb in
    let lists : a.payloads ≡ b.payloads = one_cut a.payloads b.payloads a.rest b.rest a.fit b.fit (same_tails a.head b.head _ _ heads (sym ca ∙ cb)) a.cut b.cut in
    a.place ∙ ap (λ (h : List ℕ). length (front h a.payloads)) heads ∙ ap (λ (l : List (List ℕ)). length (front b.head l)) lists ∙ sym b.place

pub broken_not_foreign : (at : ℕ) (c : List ℕ) → IsBroken at c → IsForeign c → ⊥
broken_not_foreign at c b = not_foreign b.head b.payloads c 1 b.rest b.headed b.bytes

pub file_opens : (head : List ℕ) (ps : List (List ℕ)) (at : ℕ) (c : List ℕ) → IsFile head ps c → (IsForeign c → ⊥) × (IsBroken at c → ⊥)
file_opens head ps at c a = (not_foreign head ps c a.gate a.rest a.headed a.bytes, not_broken head ps c at a)

-- a file of a log, or of it and the one in doubt, opens to nothing else
log_of : (head head2 : List ℕ) (ps qs : List (List ℕ)) (doubt : Option (List ℕ)) (c : List ℕ) → OpensTo head ps doubt c → IsFile head2 qs c → (head2 ≡ head) × IsLog ps doubt qs
log_of head head2 ps qs None c opened file = one_file head2 head qs ps c file opened
log_of head head2 ps qs (Some p) c (inl opened) file = let same = one_file head2 head qs ps c file opened in (same.0, inl same.1)
log_of head head2 ps qs (Some p) c (inr opened) file = let same = one_file head2 head qs (ps ++ p ∷ []) c file opened in (same.0, inr same.1)

pub crash_keeps : (head head2 : List ℕ) (ps qs : List (List ℕ)) (doubt : Option (List ℕ)) (d : Lies) (c : List ℕ) → LeavesOpen head ps doubt d → IsImage d c → IsFile head2 qs c → (head2 ≡ head) × IsLog ps doubt qs
crash_keeps head head2 ps qs doubt d c leaves image = log_of head head2 ps qs doubt c (leaves c image)

log_opens : (head : List ℕ) (ps : List (List ℕ)) (doubt : Option (List ℕ)) (at : ℕ) (c : List ℕ) → OpensTo head ps doubt c → (IsForeign c → ⊥) × (IsBroken at c → ⊥)
log_opens head ps None at c opened = file_opens head ps at c opened
log_opens head ps (Some p) at c (inl opened) = file_opens head ps at c opened
log_opens head ps (Some p) at c (inr opened) = file_opens head (ps ++ p ∷ []) at c opened

pub crash_opens : (head : List ℕ) (ps : List (List ℕ)) (doubt : Option (List ℕ)) (d : Lies) (at : ℕ) (c : List ℕ) → LeavesOpen head ps doubt d → IsImage d c → (IsForeign c → ⊥) × (IsBroken at c → ⊥)
crash_opens head ps doubt d at c leaves image = log_opens head ps doubt at c (leaves c image)
