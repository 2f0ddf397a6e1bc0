-- A manifest is read in one way, and nothing stops it.
use Rattle.std.proofs.Common.{◌≡◌, refl, sym, ap, subst, ◌∙◌, arith, ℕ, zero, suc, ◌≤◌, length, map, drop, List, [], ◌∷◌, ◌++◌, Bool, true, false, slice_index_or, inr}
use Rattle.std.specs.List.{All}
use Rattle.std.proofs.lemmas.List.{append_assoc, append-nil}
use Rattle.std.proofs.lemmas.List.Elements.{All-cons, All-head, All-nil, All-tail}
use Rattle.dump_manifest.specs.declared.manifest.FileLine.{FileLine}
use Rattle.dump_manifest.specs.declared.manifest.Manifest.{Manifest}
use Rattle.dump_manifest.specs.Laws.{ManifestsAreRead, ManifestsDiffer}
use Rattle.dump_manifest.specs.Manifests.{Fits, HasItems, HasNames, IsDigest, IsFile, done_line, dump_line, event_name, file_line, item_name, lines_text, manifest_lines, names_below, origin_lines, source_line, span_lines, with_lf}
use Rattle.dump_manifest.specs.Reading.{IsStuck, MayFollow, MayStand, Place, at_begin, at_born, at_db, at_dump, at_end, at_file, at_kind, at_last, at_source, at_version}
use Rattle.dump_manifest.proofs.Apart.{High, begin_same, born_same, db_same, end_same, event_high, file_done, file_same, item_high, kind_same, next_same, stands_lacks}
use Rattle.dump_manifest.proofs.Pieces.{one_line}
use Rattle.dump_manifest.proofs.Places.{follow_both}
use Rattle.dump_manifest.proofs.Rows.{came_stands, line_is, map_more}

-- ---- the lines of a manifest may follow one another

abbrev first_text : List (List ℕ) → List ℕ
first_text [] = []
first_text (l ∷ ls) = l

abbrev rest_texts : List (List ℕ) → List (List ℕ)
rest_texts [] = []
rest_texts (l ∷ ls) = ls

no_texts : (ls : List (List ℕ)) (l : List ℕ) → ls ++ l ∷ [] ≡ [] → ⊥
no_texts [] l same = let e : 1 ≡ 0 = ap (λ t. length t) same in omega (arith, e)
no_texts (k ∷ ls) l same = let e : suc (length (ls ++ l ∷ [])) ≡ 0 = ap (λ t. length t) same in omega (arith, e)

-- the last file of some files, by their names
split_last : (files : List FileLine) (names : List (List ℕ)) (name : List ℕ) → map (λ f. f.name) files ≡ names ++ name ∷ []
    → (fs : List FileLine) × (f : FileLine) × (files ≡ fs ++ f ∷ []) × (map (λ g. g.name) fs ≡ names) × (f.name ≡ name)
split_last [] names name same = absurd (no_texts names name (sym same))
split_last (f ∷ []) [] name same = ([], f, refl, refl, ap first_text same)
split_last (f ∷ g ∷ files) [] name same = let e : suc (suc (length (map (λ h. h.name) files))) ≡ 1 = ap (λ t. length t) same in absurd (omega (arith, e))
split_last (f ∷ files) (n ∷ names) name same =
    let (fs, g, is, called, last) = split_last files names name (ap rest_texts same) in
    (f ∷ fs, g, ap (λ gs. f ∷ gs) is, ap (λ m. m ∷ map (λ h. h.name) fs) (ap first_text same) ∙ ap (λ ns. n ∷ ns) called, last)

all_front : (fs : List FileLine) (f : FileLine) → All IsFile (fs ++ f ∷ []) → All IsFile fs × IsFile f
all_front [] f all = (All-nil IsFile, All-head IsFile f [] all)
all_front (g ∷ fs) f all =
    let r = all_front fs f (All-tail IsFile g (fs ++ f ∷ []) all) in
    (All-cons IsFile g fs (All-head IsFile g (fs ++ f ∷ []) all) r.0, r.1)

-- one file after others
files_more : (source : List ℕ) (dump : ℕ) (b : Bool) (files fs : List FileLine) (f : FileLine) (place next : Place) → files ≡ fs ++ f ∷ []
    → MayFollow source dump (at_file b 0 0) (map file_line fs) place → MayStand source dump place (file_line f) next → MayFollow source dump (at_file b 0 0) (map file_line files) next
files_more source dump b files fs f place next is before stands =
    subst (λ ls. MayFollow source dump (at_file b 0 0) ls next) (sym (ap (λ gs. map file_line gs) is ∙ map_more file_line fs f))
    (follow_both source dump (at_file b 0 0) place next (map file_line fs) (file_line f ∷ []) before (next, stands, refl))

items_follow : (source : List ℕ) (dump : ℕ) (b : Bool) (items : ℕ) (files : List FileLine) → (1 ≤ items → b ≡ true) → All IsFile files
    → map (λ f. f.name) files ≡ names_below item_name items → MayFollow source dump (at_file b 0 0) (map file_line files) (at_file b items 0)
items_follow source dump b zero [] boot fit named = refl
items_follow source dump b zero (f ∷ files) boot fit named = let e : suc (length (map (λ g. g.name) files)) ≡ 0 = ap (λ t. length t) named in absurd (omega (arith, e))
items_follow source dump b (suc items) files boot fit named =
    let (fs, f, is, called, last) = split_last files (names_below item_name items) (item_name items) named in
    let fits = all_front fs f (subst (λ gs. All IsFile gs) is fit) in
    let true_b = boot (omega arith) in
    files_more source dump b files fs f (at_file b items 0) (at_file b (suc items) 0) is
    (items_follow source dump b items fs (λ some. true_b) fits.0 called)
    (came_stands source dump b items 0 true f (true_b, refl) fits.1 last)

files_follow : (source : List ℕ) (dump : ℕ) (b : Bool) (items events : ℕ) (files : List FileLine) → HasItems b items → (1 ≤ items → b ≡ true) → All IsFile files
    → map (λ f. f.name) files ≡ names_below item_name items ++ names_below event_name events → MayFollow source dump (at_file b 0 0) (map file_line files) (at_file b items events)
files_follow source dump b items zero files has boot fit named = items_follow source dump b items files boot fit (named ∙ append-nil (names_below item_name items))
files_follow source dump b items (suc events) files has boot fit named =
    let (fs, f, is, called, last) = split_last files (names_below item_name items ++ names_below event_name events) (event_name events)
    (named ∙ sym (append_assoc (names_below item_name items) (names_below event_name events) (event_name events ∷ []))) in
    let fits = all_front fs f (subst (λ gs. All IsFile gs) is fit) in
    files_more source dump b files fs f (at_file b items events) (at_file b items (suc events)) is
    (files_follow source dump b items events fs has boot fits.0 called)
    (came_stands source dump b items events false f has fits.1 last)

boots : (b : Bool) (items : ℕ) → HasItems b items → 1 ≤ items → b ≡ true
boots true items has some = refl
boots false items has some = absurd (omega (arith, has, some))

pub manifest_follows : (source : List ℕ) (dump : ℕ) (m : Manifest) → Fits source dump m → MayFollow source dump at_version (manifest_lines m) at_last
manifest_follows source dump m fits =
    let (items, events, has, named) = fits.names in
    let low = fits.range.0 in
    let high = fits.range.1 in
    follow_both source dump at_version at_kind at_last (origin_lines m.source m.db m.dump) (span_lines m.bootstrap m.begin m.end m.born ++ (map file_line m.files ++ done_line ∷ []))
    (at_source, (refl, refl), (at_db, (ap source_line fits.its_source, refl), (at_dump, (m.db, fits.db, refl, refl), (at_kind, (ap dump_line fits.its_dump, refl), refl))))
    (follow_both source dump at_kind (at_file m.bootstrap 0 0) at_last (span_lines m.bootstrap m.begin m.end m.born) (map file_line m.files ++ done_line ∷ []) (
      at_begin m.bootstrap,
      (m.bootstrap, refl, refl),
      (
        at_end m.bootstrap m.begin,
        (m.begin, omega (arith, low, high), refl, refl),
        (at_born m.bootstrap, (m.end, fits.range, refl, refl), (at_file m.bootstrap 0 0, (m.born, fits.born, refl, refl), refl)),
      ),
    )
    (follow_both source dump (at_file m.bootstrap 0 0) (at_file m.bootstrap items events) at_last (map file_line m.files) (done_line ∷ [])
    (files_follow source dump m.bootstrap items events m.files has (boots m.bootstrap items has) fits.files named)
    (at_last, inr (has, refl, refl), refl)))

-- ---- nothing stops them

no_stop : (source : List ℕ) (dump : ℕ) (lines all : List (List ℕ)) (from place : Place) (rest : List ℕ) → IsDigest 16 source → MayFollow source dump from lines place
    → MayFollow source dump from all at_last → lines_text all ≡ lines_text lines ++ rest → IsStuck source dump place rest → ⊥
no_stop source dump [] [] from place rest digest one other same stuck = stuck.not_over (sym one ∙ other) (sym same)
no_stop source dump [] (l ∷ all) from place rest digest one (next, stands, more) same stuck =
    stuck.no_line l (lines_text all) next (subst (λ p. MayStand source dump p l next) one stands) (sym same)
no_stop source dump (k ∷ lines) [] from place rest digest (next, stands, more) other same stuck = subst (λ p. MayStand source dump p k next) other stands
no_stop source dump (k ∷ lines) (l ∷ all) from place rest digest (next, stands, more) (next', stands', more') same stuck =
    let cut = one_line (lines_text (l ∷ all)) l (lines_text all) k (lines_text lines ++ rest)
    (stands_lacks source dump from l next' digest stands') (stands_lacks source dump from k next digest stands) refl (same ∙ append_assoc (with_lf k) (lines_text lines) rest) in
    let led = next_same source dump from k next' next (subst (λ x. MayStand source dump from x next') cut.0 stands') stands in
    no_stop source dump lines all next place rest digest more (subst (λ p. MayFollow source dump p all at_last) led more') cut.1 stuck

pub manifests_read : ManifestsAreRead
manifests_read = λ source dump m at digest fits stops.
    let (rest, (lines, place, split, follow, stuck), long) = stops in
    no_stop source dump lines (manifest_lines m) at_version place rest digest follow (manifest_follows source dump m fits) split stuck

-- ---- one manifest

lines_one : (source : List ℕ) (dump : ℕ) (xs ys : List (List ℕ)) (from : Place) → IsDigest 16 source → MayFollow source dump from xs at_last → MayFollow source dump from ys at_last
    → lines_text xs ≡ lines_text ys → xs ≡ ys
lines_one source dump [] [] from digest one other same = refl
lines_one source dump [] (y ∷ ys) from digest one (next, stands, more) same = absurd (subst (λ p. MayStand source dump p y next) one stands)
lines_one source dump (x ∷ xs) [] from digest (next, stands, more) other same = absurd (subst (λ p. MayStand source dump p x next) other stands)
lines_one source dump (x ∷ xs) (y ∷ ys) from digest (next, stands, more) (next', stands', more') same =
    let cut = one_line (lines_text (x ∷ xs)) x (lines_text xs) y (lines_text ys)
    (stands_lacks source dump from x next digest stands) (stands_lacks source dump from y next' digest stands') refl same in
    let led = next_same source dump from y next' next stands' (subst (λ l. MayStand source dump from l next) cut.0 stands) in
    ap (λ z. z ∷ xs) cut.0 ∙ ap (λ zs. y ∷ zs) (lines_one source dump xs ys next digest more (subst (λ p. MayFollow source dump p ys at_last) led more') cut.1)

abbrev AllHigh : List (List ℕ) → Type 0
AllHigh [] = Unit {0}
AllHigh (n ∷ names) = High n × AllHigh names

high_both : (xs ys : List (List ℕ)) → AllHigh xs → AllHigh ys → AllHigh (xs ++ ys)
high_both [] ys one other = other
high_both (x ∷ xs) ys one other = (one.0, high_both xs ys one.1 other)

below_high : (each : ℕ → List ℕ) → ((n : ℕ) → High (each n)) → (n : ℕ) → AllHigh (names_below each n)
below_high each high zero = tt
below_high each high (suc n) = high_both (names_below each n) (each n ∷ []) (below_high each high n) (high n, tt)

names_high : (b : Bool) (files : List FileLine) → HasNames b files → AllHigh (map (λ f. f.name) files)
names_high b files (items, events, has, named) =
    subst AllHigh (sym named) (high_both (names_below item_name items) (names_below event_name events) (below_high item_name item_high items) (below_high event_name event_high events))

files_one : (fs gs : List FileLine) → AllHigh (map (λ f. f.name) fs) → AllHigh (map (λ f. f.name) gs) → All IsFile fs → All IsFile gs
    → map file_line fs ++ done_line ∷ [] ≡ map file_line gs ++ done_line ∷ [] → fs ≡ gs
files_one [] [] hf hg ff fg same = refl
files_one [] (g ∷ gs) hf hg ff fg same = absurd (file_done g.name g.digest g.length (sym (ap first_text same ∙ line_is g)))
files_one (f ∷ fs) [] hf hg ff fg same = absurd (file_done f.name f.digest f.length (sym (line_is f) ∙ ap first_text same))
files_one (f ∷ fs) (g ∷ gs) hf hg ff fg same =
    let e = file_same f g hf.0 hg.0 (All-head IsFile f fs ff) (All-head IsFile g gs fg) (ap first_text same) in
    ap (λ z. z ∷ fs) e ∙ ap (λ zs. g ∷ zs) (files_one fs gs hf.1 hg.1 (All-tail IsFile f fs ff) (All-tail IsFile g gs fg) (ap rest_texts same))

manifest_path : (m n : Manifest) → m.source ≡ n.source → m.db ≡ n.db → m.dump ≡ n.dump → m.bootstrap ≡ n.bootstrap → m.begin ≡ n.begin → m.end ≡ n.end → m.born ≡ n.born
    → m.files ≡ n.files → m ≡ n
manifest_path m n a b c d e f g h = λ i. record { source = a i; db = b i; dump = c i; bootstrap = d i; begin = e i; end = f i; born = g i; files = h i }

abbrev nth : ℕ → List (List ℕ) → List ℕ
nth n lines = slice_index_or lines n []

pub manifests_one : ManifestsDiffer
manifests_one = λ source dump m n digest fm fn same.
    let lines = lines_one source dump (manifest_lines m) (manifest_lines n) at_version digest (manifest_follows source dump m fm) (manifest_follows source dump n fn) same in
    let lm = fm.range.0 in
    let hm = fm.range.1 in
    let ln = fn.range.0 in
    let hn = fn.range.1 in
    manifest_path m n (fm.its_source ∙ sym fn.its_source) (db_same m.db n.db (ap (nth 2) lines)) (fm.its_dump ∙ sym fn.its_dump)
    (kind_same m.bootstrap n.bootstrap (ap (nth 4) lines))
    (begin_same m.begin n.begin (omega (arith, lm, hm)) (omega (arith, ln, hn)) (ap (nth 5) lines))
    (end_same m.end n.end (omega (arith, hm)) (omega (arith, hn)) (ap (nth 6) lines))
    (born_same m.born n.born fm.born fn.born (ap (nth 7) lines))
    (files_one m.files n.files (names_high m.bootstrap m.files fm.names) (names_high n.bootstrap n.files fn.names) fm.files fn.files (ap (λ ls. drop 8 ls) lines))
