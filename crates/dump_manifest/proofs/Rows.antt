-- The files that were read so far.
use Rattle.std.proofs.Common.{◌≡◌, refl, sym, ap, subst, ◌∙◌, arith, ℕ, suc, ◌+◌, ◌-◌, ◌^◌, ◌<◌, length, map, List, [], ◌∷◌, ◌++◌, Bool, true, false, None, inl, inr}
use Rattle.std.specs.List.{All}
use Rattle.std.proofs.lemmas.List.{append_assoc, append-nil, length-append}
use Rattle.std.proofs.lemmas.List.Elements.{All-nil, All-push}
use Rattle.dump_manifest.specs.declared.manifest.FileLine.{FileLine}
use Rattle.dump_manifest.specs.Manifests.{HasItems, HasNames, IsDigest, IsFile, done_line, event_name, file_line, item_name, lines_text, names_below, with_lf}
use Rattle.dump_manifest.specs.Pieces.{Fronts, MayCome, items_after, line_of, next_name, next_of}
use Rattle.dump_manifest.specs.Reading.{HasStopped, IsStuck, MayFollow, MayStand, Place, at_file, at_last}
use Rattle.dump_manifest.proofs.Places.{follow_both, stopped_behind, stopped_here}
use Rattle.dump_manifest.proofs.Words.{text_more}

pub line_is : (f : FileLine) → file_line f ≡ line_of f.name f.length f.digest
unfolding file_line
line_is f = refl

abbrev pub events_after : Bool → ℕ → ℕ
events_after true events = events
events_after false events = suc events

pub came_stands : (source : List ℕ) (dump : ℕ) (b : Bool) (items events : ℕ) (k : Bool) (f : FileLine) → MayCome b items events k → IsFile f → f.name ≡ next_name k items events
    → MayStand source dump (at_file b items events) (file_line f) (at_file b (items_after k items) (events_after k events))
came_stands source dump b items events true f may fits name = inl (f, fits, refl, inl (may.0, may.1, name, refl))
came_stands source dump b items events false f may fits name = inl (f, fits, refl, inr (may, name, refl))

-- ---- nothing goes on

no_file : (source : List ℕ) (dump : ℕ) (b : Bool) (items events : ℕ) (text line behind : List ℕ) (next : Place) → Fronts (next_of b items events) text None
    → (HasItems b items → (rest : List ℕ) → text ≡ with_lf done_line ++ rest → ⊥)
    → MayStand source dump (at_file b items events) line next → text ≡ with_lf line ++ behind → ⊥
no_file source dump b items events text line behind next none no_done (inl (f, fits, is, inl (boot, first, name, place))) same =
    none (true, (f.length, f.digest)) behind ((boot, first), fits.0, fits.1)
    (same ∙ ap (λ l. with_lf l ++ behind) (is ∙ (line_is f ∙ ap (λ n. line_of n f.length f.digest) name)))
no_file source dump b items events text line behind next none no_done (inl (f, fits, is, inr (has, name, place))) same =
    none (false, (f.length, f.digest)) behind (has, fits.0, fits.1)
    (same ∙ ap (λ l. with_lf l ++ behind) (is ∙ (line_is f ∙ ap (λ n. line_of n f.length f.digest) name)))
no_file source dump b items events text line behind next none no_done (inr (has, is, place)) same = no_done has behind (same ∙ ap (λ l. with_lf l ++ behind) is)

stuck_file : (source : List ℕ) (dump : ℕ) (b : Bool) (items events : ℕ) (text : List ℕ) → Fronts (next_of b items events) text None
    → (HasItems b items → (rest : List ℕ) → text ≡ with_lf done_line ++ rest → ⊥) → IsStuck source dump (at_file b items events) text
stuck_file source dump b items events text none no_done = record {
  no_line = λ line behind next stands same. no_file source dump b items events text line behind next none no_done stands same;
  not_over = λ e. absurd (cc e);
}

-- ---- the files so far, the text after them, and how many of them are of items

pub record SoFar (b : Bool) (text : List ℕ) (files : List FileLine) (items : ℕ) (rest : List ℕ) : Type 0 where
  pub events : ℕ
  pub count : items + events ≡ length files
  pub split : text ≡ lines_text (map file_line files) ++ rest
  pub fit : All IsFile files
  pub names : map (λ f. f.name) files ≡ names_below item_name items ++ names_below event_name events
  pub follow : (source : List ℕ) (dump : ℕ) → MayFollow source dump (at_file b 0 0) (map file_line files) (at_file b items events)

pub so_far_none : (b : Bool) (text : List ℕ) → SoFar b text [] 0 text
so_far_none b text = record { events = 0; count = refl; split = refl; fit = All-nil IsFile; names = refl; follow = λ source dump. refl }

pub map_more : {A B : Type 0} (f : A → B) (xs : List A) (x : A) → map f (xs ++ x ∷ []) ≡ map f xs ++ f x ∷ []
map_more f [] x = refl
map_more f (y ∷ xs) x = ap (λ ys. f y ∷ ys) (map_more f xs x)

names_more : (items events : ℕ) (b k : Bool) (names : List (List ℕ)) → MayCome b items events k → names ≡ names_below item_name items ++ names_below event_name events
    → names ++ next_name k items events ∷ [] ≡ names_below item_name (items_after k items) ++ names_below event_name (events_after k events)
names_more items events b true names may is =
    let none : names_below event_name events ≡ [] = ap (λ n. names_below event_name n) may.1 in
    ap (λ ns. ns ++ item_name items ∷ []) (is ∙ (ap (λ e. names_below item_name items ++ e) none ∙ append-nil (names_below item_name items)))
    ∙ (sym (append-nil (names_below item_name (suc items))) ∙ ap (λ e. names_below item_name (suc items) ++ e) (sym none))
names_more items events b false names may is =
    ap (λ ns. ns ++ event_name events ∷ []) is ∙ append_assoc (names_below item_name items) (names_below event_name events) (event_name events ∷ [])

counted : (k : Bool) (items events : ℕ) → items_after k items + events_after k events ≡ suc (items + events)
counted true items events = omega arith
counted false items events = omega arith

-- one file more
pub so_far_more : (b : Bool) (text : List ℕ) (files files' : List FileLine) (items items' events events' : ℕ) (rest after : List ℕ) (k : Bool) (length_of : ℕ) (digest : List ℕ) (f : FileLine)
    → SoFar b text files items rest → events ≡ length files - items → events' ≡ length files - items
    → (next_of b items events).Fits (k, (length_of, digest)) → rest ≡ with_lf ((next_of b items events).code (k, (length_of, digest))) ++ after
    → f.name ≡ next_name k items events' → f.length ≡ length_of → f.digest ≡ digest
    → files' ≡ files ++ f ∷ [] → items' ≡ items_after k items → SoFar b text files' items' after
so_far_more b text files files' items items' events events' rest after k length_of digest f so is is' fits begins called' long sum all count' =
    let name : f.name ≡ next_name k items events = called' ∙ ap (λ e. next_name k items e) (is' ∙ sym is) in
    let counts = so.count in
    let same : events ≡ so.events = omega (arith, counts, is) in
    let may : MayCome b items so.events k = subst (λ e. MayCome b items e k) same fits.0 in
    let called : f.name ≡ next_name k items so.events = name ∙ ap (λ e. next_name k items e) same in
    let file : IsFile f = (subst (λ n. n < 2 ^ 64) (sym long) fits.1, subst (λ d. IsDigest 32 d) (sym sum) fits.2) in
    let line : line_of (next_name k items events) length_of digest ≡ file_line f =
    sym (line_is f ∙ (ap (λ n. line_of n f.length f.digest) name ∙ (ap (λ n. line_of (next_name k items events) n f.digest) long ∙ ap (λ d. line_of (next_name k items events) length_of d) sum))) in
    let total = counted k items so.events in
    let more = length-append files (f ∷ []) in
    let lines = map_more file_line files f in
    let made : SoFar b text (files ++ f ∷ []) (items_after k items) after = record {
      events = events_after k so.events;
      count = omega (arith, counts, total, more);
      split = so.split ∙ (ap (λ t. lines_text (map file_line files) ++ t) (begins ∙ ap (λ l. with_lf l ++ after) line)
          ∙ (sym (append_assoc (lines_text (map file_line files)) (with_lf (file_line f)) after)
          ∙ ap (λ t. t ++ after) (sym (text_more (map file_line files) (file_line f)) ∙ ap (λ ls. lines_text ls) (sym lines))));
      fit = All-push IsFile files f so.fit file;
      names = map_more (λ g. g.name) files f ∙ (ap (λ n. map (λ g. g.name) files ++ n ∷ []) called ∙ names_more items so.events b k (map (λ g. g.name) files) may so.names);
      follow = λ source dump. subst (λ ls. MayFollow source dump (at_file b 0 0) ls (at_file b (items_after k items) (events_after k so.events))) (sym lines)
          (follow_both source dump (at_file b 0 0) (at_file b items so.events) (at_file b (items_after k items) (events_after k so.events)) (map file_line files) (file_line f ∷ [])
          (so.follow source dump) (at_file b (items_after k items) (events_after k so.events), came_stands source dump b items so.events k f may file called, refl));
    } in
    subst (λ fs. SoFar b text fs items' after) (sym all) (subst (λ n. SoFar b text (files ++ f ∷ []) n after) (sym count') made)

-- nothing goes on after the files so far
pub so_far_stops : (b : Bool) (text : List ℕ) (files : List FileLine) (items events : ℕ) (rest : List ℕ) → SoFar b text files items rest → events ≡ length files - items
    → Fronts (next_of b items events) rest None → (HasItems b items → (after : List ℕ) → rest ≡ with_lf done_line ++ after → ⊥)
    → (source : List ℕ) (dump : ℕ) → HasStopped source dump (at_file b 0 0) text rest
so_far_stops b text files items events rest so is none no_done = λ source dump.
    let counts = so.count in
    let same : events ≡ so.events = omega (arith, counts, is) in
    stopped_behind source dump (at_file b 0 0) (at_file b items so.events) (map file_line files) text rest rest (so.follow source dump) so.split
    (stopped_here source dump (at_file b items so.events) rest (stuck_file source dump b items so.events rest (subst (λ e. Fronts (next_of b items e) rest None) same none) no_done))

-- the last line stands after them
pub so_far_ends : (b : Bool) (text : List ℕ) (files : List FileLine) (items : ℕ) (rest after : List ℕ) → SoFar b text files items rest → HasItems b items
    → rest ≡ with_lf done_line ++ after
    → All IsFile files × HasNames b files × (text ≡ lines_text (map file_line files ++ done_line ∷ []) ++ after)
    × ((source : List ℕ) (dump : ℕ) → MayFollow source dump (at_file b 0 0) (map file_line files ++ done_line ∷ []) at_last)
so_far_ends b text files items rest after so has last = (
  so.fit,
  (items, so.events, has, so.names),
  so.split ∙ (ap (λ t. lines_text (map file_line files) ++ t) last ∙ (sym (append_assoc (lines_text (map file_line files)) (with_lf done_line) after)
      ∙ ap (λ t. t ++ after) (sym (text_more (map file_line files) done_line)))),
  λ source dump. follow_both source dump (at_file b 0 0) (at_file b items so.events) at_last (map file_line files) (done_line ∷ []) (so.follow source dump) (at_last, inr (has, refl, refl), refl),
)

-- a line with its LF is shorter than the text that it begins
pub shorter : (line text after : List ℕ) → text ≡ with_lf line ++ after → length after < length text
shorter line text after same =
    let long = ap (λ t. length t) same ∙ length-append (with_lf line) after in
    let lf = length-append line (10 ∷ []) in
    omega (arith, long, lf)
