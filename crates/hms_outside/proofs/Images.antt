-- What a crash may leave, place by place.
use Rattle.std.proofs.Common.{◌≡◌, ◌⊎◌, inl, inr, ℕ, ◌+◌, ◌-◌, ◌<◌, ◌≤◌, max, List, [], ◌∷◌, ◌++◌, length, take, drop, get_or, refl, sym, ◌∙◌, ap, subst, arith, length-append}
use Rattle.std.proofs.lemmas.List.{length-take, length-drop, get_or-take, get_or-drop, get_or_append_left, get_or-append_right, ext_get_or}
use Rattle.hms_outside.specs.Memory.{lies_of}
use Rattle.hms_outside.specs.Disks.{AllFrom, AllOne, Lies, Untouched, reach, IsImage, written, HasWritten, HasSynced}

reach-push : (n : ℕ) (rs : List (ℕ × ℕ)) (r : ℕ × ℕ) → reach n (rs ++ r ∷ []) ≡ max (r.0 + r.1) (reach n rs)
reach-push n [] r = refl
reach-push n (x ∷ rs) r = omega (arith, reach-push n rs r)

pub Untouched-push : (i : ℕ) (rs : List (ℕ × ℕ)) (r : ℕ × ℕ) → Untouched i (rs ++ r ∷ []) → Untouched i rs × ((i < r.0) ⊎ (r.0 + r.1 ≤ i))
Untouched-push i [] r u = (tt, u.0)
Untouched-push i (x ∷ rs) r u = let p = Untouched-push i rs r u.1 in ((u.0, p.0), p.1)

pub length-written : (held : List ℕ) (at : ℕ) (bytes : List ℕ) → at ≤ length held → length (written held at bytes) ≡ max (length held) (at + length bytes)
length-written held at bytes le = omega (arith, length-append (take at held ++ bytes) (drop (at + length bytes) held), length-append (take at held) bytes, length-take at held, length-drop (at + length bytes) held)

pub get_or-written : (held : List ℕ) (at : ℕ) (bytes : List ℕ) (i : ℕ) → at ≤ length held → (i < at) ⊎ (at + length bytes ≤ i) → get_or (written held at bytes) i 0 ≡ get_or held i 0
get_or-written held at bytes i le (inl lt) =
    let l : length (take at held) ≡ at = omega (arith, length-take at held) in
    let l2 : length (take at held ++ bytes) ≡ at + length bytes = omega (arith, length-append (take at held) bytes) in
    get_or_append_left (take at held ++ bytes) (drop (at + length bytes) held) 0 i (omega arith)
    ∙ get_or_append_left (take at held) bytes 0 i (omega arith) ∙ get_or-take at held i 0 lt
get_or-written held at bytes i le (inr ge) =
    let l : length (take at held) ≡ at = omega (arith, length-take at held) in
    let l2 : length (take at held ++ bytes) ≡ at + length bytes = omega (arith, length-append (take at held) bytes) in
    let e : at + length bytes + (i - (at + length bytes)) ≡ i = omega arith in
    get_or-append_right (take at held ++ bytes) (drop (at + length bytes) held) (at + length bytes) i 0 l2 ge
    ∙ get_or-drop (at + length bytes) held (i - (at + length bytes)) 0 ∙ ap (λ (k : ℕ). get_or held k 0) e

-- what a read gives is one of the images, also behind a write
pub written_image : (d e : Lies) (at : ℕ) (bytes : List ℕ) → IsImage d d.held → at ≤ length d.held → HasWritten at (length bytes) bytes d e → IsImage e e.held
written_image d e at bytes image le w =
    let size : length e.held ≡ max (length d.held) (at + length bytes) = ap length w.held ∙ length-written d.held at bytes le in
    let far : reach (length e.synced) e.dirty ≡ max (at + length bytes) (reach (length d.synced) d.dirty) =
    ap (λ (l : List ℕ). reach (length l) e.dirty) w.synced ∙ ap (λ (rs : List (ℕ × ℕ)). reach (length d.synced) rs) w.dirty ∙ reach-push (length d.synced) d.dirty (at, length bytes) in
    let short = image.no_shorter in
    let long = image.no_longer in
    record {
      no_shorter = omega (arith, ap length w.synced);
      no_longer = omega arith;
      stays = λ i lt u.
          let p = Untouched-push i d.dirty (at, length bytes) (subst (Untouched i) w.dirty u) in
          let lt2 : i < length d.synced = omega (arith, ap length w.synced) in
          ap (λ (l : List ℕ). get_or l i 0) w.held ∙ get_or-written d.held at bytes i le p.1 ∙ image.stays i lt2 p.0 ∙ ap (λ (l : List ℕ). get_or l i 0) (sym w.synced);
    }

pub synced_image : (d e : Lies) → HasSynced d e → IsImage e e.held
synced_image d e s = record {
  no_shorter = omega (arith, ap length (s.synced ∙ sym s.held));
  no_longer = let same : reach (length e.synced) e.dirty ≡ length e.synced = ap (reach (length e.synced)) s.dirty in omega (arith, ap length (s.synced ∙ sym s.held));
  stays = λ i lt u. ap (λ (l : List ℕ). get_or l i 0) (s.held ∙ sym s.synced);
}

-- behind a sync there is one image
pub only_image : (d e : Lies) (c : List ℕ) → HasSynced d e → IsImage e c → c ≡ d.held
only_image d e c s image =
    let far : reach (length e.synced) e.dirty ≡ length e.synced = ap (reach (length e.synced)) s.dirty in
    let short = image.no_shorter in
    let long = image.no_longer in
    let size : length c ≡ length e.synced = omega arith in
    ext_get_or 0 c e.synced size (λ i lt. image.stays i (omega arith) (subst (Untouched i) (sym s.dirty) tt)) ∙ s.synced

pub AllFrom-push : (n : ℕ) (rs : List (ℕ × ℕ)) (r : ℕ × ℕ) → n ≤ r.0 → AllFrom n rs → AllFrom n (rs ++ r ∷ [])
AllFrom-push n [] r le all = (le, tt)
AllFrom-push n (x ∷ rs) r le all = (all.0, AllFrom-push n rs r le all.1)

below_all : (n i : ℕ) (rs : List (ℕ × ℕ)) → i < n → AllFrom n rs → Untouched i rs
below_all n i [] lt all = tt
below_all n i (r ∷ rs) lt all = let le = all.0 in (inl (omega arith), below_all n i rs lt all.1)

-- what stands before all ranges stays
pub image_front : (d : Lies) (c : List ℕ) (n : ℕ) → IsImage d c → n ≤ length d.synced → AllFrom n d.dirty → take n c ≡ take n d.synced
image_front d c n image le all =
    let short = image.no_shorter in
    let l1 : length (take n c) ≡ n = omega (arith, length-take n c) in
    let l2 : length (take n d.synced) ≡ n = omega (arith, length-take n d.synced) in
    ext_get_or 0 (take n c) (take n d.synced) (l1 ∙ sym l2)
    (λ i lt. get_or-take n c i 0 (omega arith) ∙ image.stays i (omega arith) (below_all n i d.dirty (omega arith) all) ∙ sym (get_or-take n d.synced i 0 (omega arith)))

pub AllOne-push : (n : ℕ) (rs : List (ℕ × ℕ)) (r : ℕ × ℕ) → r ≡ (n, 1) → AllOne n rs → AllOne n (rs ++ r ∷ [])
AllOne-push n [] r le all = (le, tt)
AllOne-push n (x ∷ rs) r le all = (all.0, AllOne-push n rs r le all.1)

beside_one : (n i : ℕ) (rs : List (ℕ × ℕ)) → n < i → AllOne n rs → Untouched i rs
beside_one n i [] lt all = tt
beside_one n i (r ∷ rs) lt all =
    let a : r.0 ≡ n = ap (λ (p : ℕ × ℕ). p.0) all.0 in
    let b : r.1 ≡ 1 = ap (λ (p : ℕ × ℕ). p.1) all.0 in
    (inr (omega arith), beside_one n i rs lt all.1)

one_from : (n : ℕ) (rs : List (ℕ × ℕ)) → AllOne n rs → AllFrom n rs
one_from n [] all = tt
one_from n (r ∷ rs) all = let a : r.0 ≡ n = ap (λ (p : ℕ × ℕ). p.0) all.0 in (omega arith, one_from n rs all.1)

one_reach : (n m : ℕ) (rs : List (ℕ × ℕ)) → n < m → AllOne n rs → reach m rs ≡ m
one_reach n m [] lt all = refl
one_reach n m (r ∷ rs) lt all =
    let a : r.0 ≡ n = ap (λ (p : ℕ × ℕ). p.0) all.0 in
    let b : r.1 ≡ 1 = ap (λ (p : ℕ × ℕ). p.1) all.0 in
    omega (arith, one_reach n m rs lt all.1)

-- where one byte alone was written, all stands as it stood but for that byte
pub image_one : (d : Lies) (c : List ℕ) (n : ℕ) → IsImage d c → n < length d.synced → AllOne n d.dirty
    → (take n c ≡ take n d.synced) × (drop (n + 1) c ≡ drop (n + 1) d.synced) × (length c ≡ length d.synced)
image_one d c n image lt all =
    let short = image.no_shorter in
    let long = image.no_longer in
    let far = one_reach n (length d.synced) d.dirty lt all in
    let size : length c ≡ length d.synced = omega arith in
    let l1 : length (drop (n + 1) c) ≡ length c - (n + 1) = length-drop (n + 1) c in
    let l2 : length (drop (n + 1) d.synced) ≡ length d.synced - (n + 1) = length-drop (n + 1) d.synced in (
      image_front d c n image (omega arith) (one_from n d.dirty all),
      ext_get_or 0 (drop (n + 1) c) (drop (n + 1) d.synced) (omega arith)
          (λ i lt2. get_or-drop (n + 1) c i 0 ∙ image.stays (n + 1 + i) (omega arith) (beside_one n (n + 1 + i) d.dirty (omega arith) all) ∙ sym (get_or-drop (n + 1) d.synced i 0)),
      size,
    )

reach_least : (n : ℕ) (rs : List (ℕ × ℕ)) → n ≤ reach n rs
reach_least n [] = omega arith
reach_least n (r ∷ rs) = omega (arith, reach_least n rs)

-- what was synced is an image
pub old_image : (d : Lies) → IsImage d d.synced
old_image d = record { no_shorter = omega arith; no_longer = reach_least (length d.synced) d.dirty; stays = λ i lt u. refl }

-- what a read gives, with other bytes in the ranges
pub filled_image : (d : Lies) (c : List ℕ) → IsImage d d.held → length c ≡ length d.held → ((i : ℕ) → Untouched i d.dirty → get_or c i 0 ≡ get_or d.held i 0) → IsImage d c
filled_image d c image size same =
    let short = image.no_shorter in
    let long = image.no_longer in
    record { no_shorter = omega arith; no_longer = omega arith; stays = λ i lt u. same i u ∙ image.stays i lt u }

-- a list that is its own copy on the disk
pub still_image : (held : List ℕ) → IsImage (lies_of held held []) held
still_image held = record { no_shorter = omega arith; no_longer = omega arith; stays = λ i lt u. refl }

untouched_before : (i : ℕ) (rs : List (ℕ × ℕ)) (r : ℕ × ℕ) → Untouched i (rs ++ r ∷ []) → Untouched i rs
untouched_before i rs r u = (Untouched-push i rs r u).0

-- what a crash may leave before a write it may leave after it: so a crash inside the write is one of those after it
pub images_grow : (d e : Lies) (at n : ℕ) (bytes c : List ℕ) → HasWritten at n bytes d e → IsImage d c → IsImage e c
images_grow d e at n bytes c w image =
    let far : reach (length e.synced) e.dirty ≡ max (at + n) (reach (length d.synced) d.dirty) =
    ap (λ (l : List ℕ). reach (length l) e.dirty) w.synced ∙ ap (λ (rs : List (ℕ × ℕ)). reach (length d.synced) rs) w.dirty ∙ reach-push (length d.synced) d.dirty (at, n) in
    let short = image.no_shorter in
    let long = image.no_longer in
    record {
      no_shorter = omega (arith, ap length w.synced);
      no_longer = omega arith;
      stays = λ i lt u.
          let before = untouched_before i d.dirty (at, n) (subst (Untouched i) w.dirty u) in
          let lt2 : i < length d.synced = omega (arith, ap length w.synced) in
          image.stays i lt2 before ∙ ap (λ (l : List ℕ). get_or l i 0) (sym w.synced);
    }
