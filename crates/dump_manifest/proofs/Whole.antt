-- A manifest put together of what was read, and where its text stops.
use Rattle.std.proofs.Common.{◌≡◌, refl, sym, ap, subst, ◌∙◌, arith, ℕ, ◌+◌, ◌-◌, ◌≤◌, length, map, List, [], ◌∷◌, ◌++◌, Bool}
use Rattle.std.specs.List.{All}
use Rattle.std.proofs.lemmas.List.{append-nil, length-append}
use Rattle.dump_manifest.specs.declared.manifest.FileLine.{FileLine}
use Rattle.dump_manifest.specs.declared.manifest.Manifest.{Manifest}
use Rattle.dump_manifest.specs.declared.manifest.ManifestFault.{ManifestFault}
use Rattle.dump_manifest.specs.declared.manifest.ManifestFault.TheVariants.{Grammar}
use Rattle.dump_manifest.specs.Manifests.{Fits, HasNames, IsFile, IsLowerName, IsWord, done_line, file_line, lines_text, manifest_code, origin_lines, span_lines}
use Rattle.dump_manifest.specs.Reading.{HasStopped, IsFault, MayFollow, at_begin, at_born, at_db, at_dump, at_end, at_file, at_kind, at_last, at_source, at_version}
use Rattle.dump_manifest.proofs.Places.{stopped_behind, text_both}

pub origin_follows : (source : List ℕ) (dump : ℕ) (db : List ℕ) → IsLowerName db → MayFollow source dump at_version (origin_lines source db dump) at_kind
origin_follows source dump db name = (at_source, (refl, refl), (at_db, (refl, refl), (at_dump, (db, name, refl, refl), (at_kind, (refl, refl), refl))))

pub span_follows : (source : List ℕ) (dump : ℕ) (b : Bool) (begin end born : ℕ) → (begin ≤ end) × (end ≤ 9223372036854775807) → IsWord born
    → MayFollow source dump at_kind (span_lines b begin end born) (at_file b 0 0)
span_follows source dump b begin end born range word =
    let low = range.0 in
    let high = range.1 in
    (at_begin b, (b, refl, refl), (at_end b begin, (begin, omega (arith, low, high), refl, refl), (at_born b, (end, range, refl, refl), (at_file b 0 0, (born, word, refl, refl), refl))))

-- ---- the offset of a stop

pub rest_short : (source : List ℕ) (dump : ℕ) (text rest : List ℕ) → HasStopped source dump at_version text rest → length rest ≤ length text
rest_short source dump text rest (lines, place, split, follow, stuck) =
    let long : length text ≡ length (lines_text lines) + length rest = ap (λ t. length t) split ∙ length-append (lines_text lines) rest in
    omega (arith, long)

pub fault_is : (source : List ℕ) (dump : ℕ) (text rest : List ℕ) (fault : ManifestFault) → HasStopped source dump at_version text rest
    → fault ≡ Grammar (length text - length rest) → IsFault source dump text fault
fault_is source dump text rest fault stopped is =
    let short = rest_short source dump text rest stopped in
    subst (λ f. IsFault source dump text f) (sym is) (rest, stopped, omega (arith, short))

-- ---- stops after the first lines

pub stop_span : (source : List ℕ) (dump : ℕ) (db text behind rest : List ℕ) → IsLowerName db → text ≡ lines_text (origin_lines source db dump) ++ behind
    → HasStopped source dump at_kind behind rest → HasStopped source dump at_version text rest
stop_span source dump db text behind rest name split stopped =
    stopped_behind source dump at_version at_kind (origin_lines source db dump) text behind rest (origin_follows source dump db name) split stopped

pub stop_files : (source : List ℕ) (dump : ℕ) (db text behind after rest : List ℕ) (b : Bool) (begin end born : ℕ) → IsLowerName db
    → text ≡ lines_text (origin_lines source db dump) ++ behind → (begin ≤ end) × (end ≤ 9223372036854775807) → IsWord born
    → behind ≡ lines_text (span_lines b begin end born) ++ after → HasStopped source dump (at_file b 0 0) after rest → HasStopped source dump at_version text rest
stop_files source dump db text behind after rest b begin end born name split range word split' stopped =
    stop_span source dump db text behind rest name split
    (stopped_behind source dump at_kind (at_file b 0 0) (span_lines b begin end born) behind after rest (span_follows source dump b begin end born range word) split' stopped)

-- bytes after the last line
pub stop_last : (source : List ℕ) (dump : ℕ) (b : Bool) (files : List FileLine) (text rest : List ℕ)
    → MayFollow source dump (at_file b 0 0) (map file_line files ++ done_line ∷ []) at_last → text ≡ lines_text (map file_line files ++ done_line ∷ []) ++ rest
    → (rest ≡ [] → ⊥) → HasStopped source dump (at_file b 0 0) text rest
stop_last source dump b files text rest follow split some =
    (map file_line files ++ done_line ∷ [], at_last, split, follow, record { no_line = λ line behind next stands same. absurd stands; not_over = λ e same. some same })

-- ---- the whole

pub whole : (source : List ℕ) (dump : ℕ) (db text behind after rest : List ℕ) (b : Bool) (begin end born : ℕ) (files : List FileLine) → IsLowerName db
    → text ≡ lines_text (origin_lines source db dump) ++ behind → (begin ≤ end) × (end ≤ 9223372036854775807) → IsWord born
    → behind ≡ lines_text (span_lines b begin end born) ++ after → All IsFile files → HasNames b files
    → after ≡ lines_text (map file_line files ++ done_line ∷ []) ++ rest → rest ≡ []
    → (m : Manifest) → m.source ≡ source → m.db ≡ db → m.dump ≡ dump → m.bootstrap ≡ b → m.begin ≡ begin → m.end ≡ end → m.born ≡ born → m.files ≡ files
    → (text ≡ manifest_code m) × Fits source dump m
whole source dump db text behind after rest b begin end born files name split range word split' fit names split'' over m p1 p2 p3 p4 p5 p6 p7 p8 =
    let n : Manifest = record { source = source; db = db; dump = dump; bootstrap = b; begin = begin; end = end; born = born; files = files } in
    let is : n ≡ m = λ i. record { source = sym p1 i; db = sym p2 i; dump = sym p3 i; bootstrap = sym p4 i; begin = sym p5 i; end = sym p6 i; born = sym p7 i; files = sym p8 i } in
    let last : after ≡ lines_text (map file_line files ++ done_line ∷ []) =
    split'' ∙ (ap (λ t. lines_text (map file_line files ++ done_line ∷ []) ++ t) over ∙ append-nil (lines_text (map file_line files ++ done_line ∷ []))) in
    let spelled : text ≡ manifest_code n =
    split ∙ (ap (λ t. lines_text (origin_lines source db dump) ++ t) (split' ∙ (ap (λ t. lines_text (span_lines b begin end born) ++ t) last
    ∙ sym (text_both (span_lines b begin end born) (map file_line files ++ done_line ∷ []))))
    ∙ sym (text_both (origin_lines source db dump) (span_lines b begin end born ++ (map file_line files ++ done_line ∷ [])))) in
    let fits : Fits source dump n = record { its_source = refl; its_dump = refl; db = name; range = range; born = word; files = fit; names = names } in
    subst (λ k. (text ≡ manifest_code k) × Fits source dump k) is (spelled, fits)
