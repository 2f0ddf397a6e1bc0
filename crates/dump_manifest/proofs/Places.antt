-- Lines that may stand after one another, and places where nothing goes on.
use Rattle.std.proofs.Common.{◌≡◌, refl, sym, ap, subst, ◌∙◌, arith, ℕ, ◌^◌, ◌<◌, ◌≤◌, List, [], ◌∷◌, ◌++◌, Bool, true, false, None, codes, decimal}
use Rattle.std.proofs.lemmas.Fmt.{decimal_injective}
use Rattle.std.proofs.lemmas.List.{append_assoc}
use Rattle.dump_manifest.specs.Manifests.{dump_line, end_line, kind_line, lines_text, source_line, version_line, with_lf}
use Rattle.dump_manifest.specs.Pieces.{Follows, Fronts, begin_of, born_of, db_of, end_of, kind_of, lacks_lf}
use Rattle.dump_manifest.specs.Reading.{HasStopped, IsStuck, Kind, MayFollow, MayStand, Place, at_begin, at_born, at_db, at_dump, at_end, at_kind, at_last, at_source, at_version, number_line}
use Rattle.dump_manifest.proofs.Pieces.{decimal_lacks, lacks_both, one_line}
use Rattle.dump_manifest.proofs.Words.{behind_same, text_more}

-- ---- stops

pub stopped_here : (source : List ℕ) (dump : ℕ) (place : Place) (text : List ℕ) → IsStuck source dump place text → HasStopped source dump place text text
stopped_here source dump place text stuck = ([], place, refl, refl, stuck)

pub stopped_later : (source : List ℕ) (dump : ℕ) (from mid : Place) (line text behind rest : List ℕ) → MayStand source dump from line mid → text ≡ with_lf line ++ behind
    → HasStopped source dump mid behind rest → HasStopped source dump from text rest
stopped_later source dump from mid line text behind rest stands same (lines, place, split, follow, stuck) =
    (line ∷ lines, place, same ∙ (ap (λ t. with_lf line ++ t) split ∙ sym (append_assoc (with_lf line) (lines_text lines) rest)), (mid, stands, follow), stuck)

-- lines after one another
pub follow_both : (source : List ℕ) (dump : ℕ) (from mid to : Place) (before after : List (List ℕ)) → MayFollow source dump from before mid → MayFollow source dump mid after to
    → MayFollow source dump from (before ++ after) to
follow_both source dump from mid to [] after one other = subst (λ p. MayFollow source dump p after to) (sym one) other
follow_both source dump from mid to (l ∷ before) after one other = (one.0, one.1, follow_both source dump one.0 mid to before after one.2 other)

pub text_both : (before after : List (List ℕ)) → lines_text (before ++ after) ≡ lines_text before ++ lines_text after
text_both [] after = refl
text_both (l ∷ before) after = ap (λ t. with_lf l ++ t) (text_both before after) ∙ sym (append_assoc (with_lf l) (lines_text before) (lines_text after))

pub stopped_behind : (source : List ℕ) (dump : ℕ) (from mid : Place) (before : List (List ℕ)) (text behind rest : List ℕ) → MayFollow source dump from before mid
    → text ≡ lines_text before ++ behind → HasStopped source dump mid behind rest → HasStopped source dump from text rest
stopped_behind source dump from mid before text behind rest follow same (lines, place, split, more, stuck) = (
  before ++ lines,
  place,
  same ∙ (ap (λ t. lines_text before ++ t) split ∙ (sym (append_assoc (lines_text before) (lines_text lines) rest) ∙ ap (λ t. t ++ rest) (sym (text_both before lines)))),
  follow_both source dump from mid place before lines follow more,
  stuck,
)

-- one line after another
pub line_text : (line text behind rest : List ℕ) (lines : List (List ℕ)) → text ≡ with_lf line ++ behind → behind ≡ lines_text lines ++ rest → text ≡ lines_text (line ∷ lines) ++ rest
line_text line text behind rest lines first second = first ∙ (ap (λ t. with_lf line ++ t) second ∙ sym (append_assoc (with_lf line) (lines_text lines) rest))

pub four_lines : (a b c d text ta tb tc rest : List ℕ) → text ≡ with_lf a ++ ta → ta ≡ with_lf b ++ tb → tb ≡ with_lf c ++ tc → tc ≡ with_lf d ++ rest
    → text ≡ lines_text (a ∷ b ∷ c ∷ d ∷ []) ++ rest
four_lines a b c d text ta tb tc rest fa fb fc fd =
    line_text a text ta rest (b ∷ c ∷ d ∷ []) fa (line_text b ta tb rest (c ∷ d ∷ []) fb (line_text c tb tc rest (d ∷ []) fc (line_text d tc rest rest [] fd refl)))

-- ---- places where nothing goes on

stuck_fixed : (source : List ℕ) (dump : ℕ) (place : Place) (expected text : List ℕ) → ((line : List ℕ) (next : Place) → MayStand source dump place line next → line ≡ expected)
    → (place ≡ at_last → ⊥) → Follows (with_lf expected) text None → IsStuck source dump place text
stuck_fixed source dump place expected text is other none = record {
  no_line = λ line behind next stands same. none behind (same ∙ ap (λ l. with_lf l ++ behind) (is line next stands));
  not_over = λ e. absurd (other e);
}

stuck_value : {T : Type 0} (kind : Kind T) (source : List ℕ) (dump : ℕ) (place : Place) (text : List ℕ)
    → ((line : List ℕ) (next : Place) → MayStand source dump place line next → (v : T) × kind.Fits v × (line ≡ kind.code v))
    → (place ≡ at_last → ⊥) → Fronts kind text None → IsStuck source dump place text
stuck_value kind source dump place text is other none = record {
  no_line = λ line behind next stands same. let v = is line next stands in none v.0 behind v.1 (same ∙ ap (λ l. with_lf l ++ behind) v.2);
  not_over = λ e. absurd (other e);
}

pub stuck_version : (source : List ℕ) (dump : ℕ) (text : List ℕ) → Follows (with_lf version_line) text None → IsStuck source dump at_version text
stuck_version source dump text none = stuck_fixed source dump at_version version_line text (λ line next stands. stands.0) (λ e. cc e) none

pub stuck_source : (source : List ℕ) (dump : ℕ) (text : List ℕ) → Follows (with_lf (source_line source)) text None → IsStuck source dump at_source text
stuck_source source dump text none = stuck_fixed source dump at_source (source_line source) text (λ line next stands. stands.0) (λ e. cc e) none

pub stuck_dump : (source : List ℕ) (dump : ℕ) (text : List ℕ) → Follows (with_lf (dump_line dump)) text None → IsStuck source dump at_dump text
stuck_dump source dump text none = stuck_fixed source dump at_dump (dump_line dump) text (λ line next stands. stands.0) (λ e. cc e) none

pub stuck_db : (source : List ℕ) (dump : ℕ) (text : List ℕ) → Fronts db_of text None → IsStuck source dump at_db text
stuck_db source dump text none = stuck_value db_of source dump at_db text (λ line next stands. (stands.0, stands.1, stands.2)) (λ e. cc e) none

pub stuck_kind : (source : List ℕ) (dump : ℕ) (text : List ℕ) → Fronts kind_of text None → IsStuck source dump at_kind text
stuck_kind source dump text none = stuck_value kind_of source dump at_kind text (λ line next stands. (stands.0, tt, stands.1)) (λ e. cc e) none

pub stuck_begin : (source : List ℕ) (dump : ℕ) (b : Bool) (text : List ℕ) → Fronts begin_of text None → IsStuck source dump (at_begin b) text
stuck_begin source dump b text none = stuck_value begin_of source dump (at_begin b) text (λ line next stands. (stands.0, stands.1, stands.2)) (λ e. cc e) none

pub stuck_end : (source : List ℕ) (dump : ℕ) (b : Bool) (begin : ℕ) (text : List ℕ) → Fronts (end_of begin) text None → IsStuck source dump (at_end b begin) text
stuck_end source dump b begin text none = stuck_value (end_of begin) source dump (at_end b begin) text (λ line next stands. (stands.0, stands.1, stands.2)) (λ e. cc e) none

pub stuck_born : (source : List ℕ) (dump : ℕ) (b : Bool) (text : List ℕ) → Fronts born_of text None → IsStuck source dump (at_born b) text
stuck_born source dump b text none = stuck_value born_of source dump (at_born b) text (λ line next stands. (stands.0, stands.1, stands.2)) (λ e. cc e) none

-- ---- the kind, and the numbers

pub kind_none : (text : List ℕ) → Follows (with_lf (codes "kind bootstrap")) text None → Follows (with_lf (codes "kind incremental")) text None → Fronts kind_of text None
unfolding kind_line
kind_none text one other = λ b rest fits same. by b rest same
  where
    by : (b : Bool) (rest : List ℕ) → text ≡ with_lf (kind_line b) ++ rest → ⊥
    by true rest same = one rest same
    by false rest same = other rest same

-- a line tells one number
pub one_number : (word text x y : List ℕ) (m n : ℕ) → lacks_lf word ≡ true → m < 2 ^ 64 → n < 2 ^ 64 → text ≡ with_lf (word ++ decimal m) ++ x → text ≡ with_lf (word ++ decimal n) ++ y → m ≡ n
one_number word text x y m n plain sm sn first second =
    decimal_injective m n sm sn (behind_same word (decimal m) (decimal n)
    (one_line text (word ++ decimal m) x (word ++ decimal n) y (lacks_both word (decimal m) plain (decimal_lacks m sm)) (lacks_both word (decimal n) plain (decimal_lacks n sn)) first second).0)

pub end_none : (begin : ℕ) (text : List ℕ) → Fronts (number_line (codes "end ")) text None → Fronts (end_of begin) text None
unfolding end_line
end_none begin text none = λ n rest fits same. let below = fits.1 in none n rest (omega (arith, below)) same

pub end_outside : (begin end : ℕ) (text rest : List ℕ) → end < 2 ^ 64 → text ≡ with_lf (codes "end " ++ decimal end) ++ rest
    → ((begin ≤ end) × (end ≤ 9223372036854775807) → ⊥) → Fronts (end_of begin) text None
unfolding end_line
end_outside begin end text rest small told outside = λ n behind fits same.
    let top = fits.1 in
    let is : n ≡ end = one_number (codes "end ") text behind rest n end refl (omega (arith, top)) small same told in
    outside (subst (λ e. (begin ≤ e) × (e ≤ 9223372036854775807)) is fits)

pub end_some : (end : ℕ) (text rest : List ℕ) → text ≡ with_lf (codes "end " ++ decimal end) ++ rest → text ≡ with_lf (end_line end) ++ rest
unfolding end_line
end_some end text rest same = same

-- ---- writing

pub written : (lines : List (List ℕ)) (line old new : List ℕ) → old ≡ lines_text lines → new ≡ old ++ with_lf line → new ≡ lines_text (lines ++ line ∷ [])
written lines line old new so_far more = more ∙ (ap (λ t. t ++ with_lf line) so_far ∙ sym (text_more lines line))

pub written_all : (lines shown more : List (List ℕ)) (old new : List ℕ) → old ≡ lines_text lines → new ≡ old ++ lines_text shown → shown ≡ more → new ≡ lines_text (lines ++ more)
written_all lines shown more old new so_far same is = same ∙ (ap (λ ls. old ++ lines_text ls) is ∙ (ap (λ t. t ++ lines_text more) so_far ∙ sym (text_both lines more)))
