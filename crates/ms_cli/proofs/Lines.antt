-- Lines that are told, where there is memory for them.
use Rattle.std.proofs.Common.{◌≡◌, ℕ, List, [], string_bytes, Option, Some, None, Result, Ok, Err, IfOk, OnErr, String, Global, sym, ap, ◌∙◌, subst}
use Rattle.std.specs.declared.alloc.AllocError.{AllocError}
use Rattle.std.proofs.lemmas.List.{append-nil}
use Rattle.hms_outside.specs.Told.{Goes, Grew, Held, Same}
use Rattle.ms_cli.specs.Telling.{TellsLine, TellsNothing}

-- nothing was written
same_grew : (a b : Option Held) → Goes Same a b → Goes (Grew []) a b
same_grew None b goes = tt
same_grew (Some x) None goes = absurd goes
same_grew (Some x) (Some y) goes = record { bytes_grew = ap (λ h. h.bytes) goes ∙ sym (append-nil x.bytes); flushes_stay = ap (λ h. h.flushes) goes }

-- a line was told where there was memory for it, and else nothing
pub told_line : {T E : Type 0} (a b : Option Held) (text : Result (String Global) AllocError) (result : Result T E) (line : List ℕ)
    → IfOk text (λ t. string_bytes t ≡ line) → IfOk text (λ t. TellsLine (string_bytes t) result a b) → OnErr text (TellsNothing result a b) → TellsLine line result a b
told_line a b (Ok text) result line is wrote nothing = subst (λ (l : List ℕ). TellsLine l result a b) is wrote
told_line a b (Err e) (Ok x) line is wrote nothing = absurd nothing
told_line a b (Err e) (Err f) line is wrote nothing = (0, same_grew a b nothing)
