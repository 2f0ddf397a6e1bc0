-- Each dump that a folder failed is counted there.
use Rattle.std.proofs.Common.{◌≡◌, ◌≤◌, ℕ, ◌+◌, ◌-◌, ◌^◌, Bool, true, false, List, [], ◌∷◌, length, refl, sym, ap, ◌∙◌, subst, arith, inl, inr}
use Rattle.std.specs.Prelude.{◌⊎◌, ◌&&◌, cond, min}
use Rattle.std.specs.List.{AllByRecursion}
use Rattle.std.proofs.lemmas.Bool.{false≢true}
use Rattle.hms_outside.specs.Causes.{Rose}
use Rattle.cat_types.specs.declared.replies.Reply.{Reply}
use Rattle.cat_types.specs.declared.steps.DumpRefusal.{DumpRefusal}
use Rattle.cat_types.specs.declared.steps.DumpRefusal.TheVariants.{BadRange, DatabaseGone, IsReplica, MissingEvents, NoSuchDb, UsedUp}
use Rattle.desk.specs.History.{Entry}
use Rattle.ms_calls.specs.Refusals.{out_of_memory}
use Rattle.ms_calls.specs.declared.request.Asked.{Asked}
use Rattle.ms_calls.specs.declared.request.Asked.TheVariants as ask
use Rattle.repl_dump.specs.declared.dumping.DumpAnswer.{DumpAnswer}
use Rattle.repl_dump.specs.declared.dumping.DumpAnswer.TheVariants as dumped
use Rattle.ms_session.specs.DumpLaws.{FolderFaultsAreCounted, asks_dump, folder_faults, tells_folder_fault}
use Rattle.ms_session.specs.DumpReplies.{dump_reply, told_refusal}
use Rattle.ms_session.specs.Requests.{asks}
use Rattle.ms_session.specs.Turns.{Due, IsTurn, Shelf, ShelfPasses, Turn}

-- ---- counts

abbrev Counts : ℕ → ℕ → ℕ → Type 0
Counts from times to = min (from + times) (2 ^ 64 - 1) ≤ to

count_later : (a b c n : ℕ) → a ≤ b → Counts b n c → Counts a n c
count_later a b c n later counts = omega (arith, later, counts)

count_more : (a b c n : ℕ) → Rose a b → Counts b n c → Counts a (n + 1) c
count_more a b c n rose counts = omega (arith, rose, counts)

count_none : (a b : ℕ) → b ≡ a → Counts a 0 b
count_none a b is = omega (arith, is)

-- ---- replies

other_refusal : (refusal : DumpRefusal) → tells_folder_fault (told_refusal refusal) ≡ false
other_refusal NoSuchDb = refl
other_refusal IsReplica = refl
other_refusal BadRange = refl
other_refusal (DatabaseGone born) = refl
other_refusal (MissingEvents first) = refl
other_refusal UsedUp = refl

-- a dump is answered so only where the folder failed
for_folder : (given : DumpAnswer) → tells_folder_fault (dump_reply given) ≡ true → given ≡ dumped.FolderFault
for_folder (dumped.Done dir last) tells = absurd (false≢true tells)
for_folder (dumped.Refused refusal) tells = absurd (false≢true (sym (other_refusal refusal) ∙ tells))
for_folder dumped.FolderFault tells = refl
for_folder dumped.StoreFault tells = absurd (false≢true tells)
for_folder dumped.NoMemory tells = absurd (false≢true tells)

replied_so : (given : DumpAnswer) (due reply : Reply) → due ≡ dump_reply given → (reply ≡ due) ⊎ (reply ≡ out_of_memory) → tells_folder_fault reply ≡ true → given ≡ dumped.FolderFault
replied_so given due reply is (inl same) tells = for_folder given (ap tells_folder_fault (sym (same ∙ is)) ∙ tells)
replied_so given due reply is (inr none) tells = absurd (false≢true (ap tells_folder_fault (sym none) ∙ tells))

-- ---- messages

-- what a message did to the count of faults
record Kept (asked : Asked) (before after : Shelf) (reply : Reply) : Type 0 where
  pub later : before.faults ≤ after.faults
  pub rose : (asks_dump asked && tells_folder_fault reply) ≡ true → Rose before.faults after.faults

stayed : (asked : Asked) (before after : Shelf) (reply : Reply) → after ≡ before → asks_dump asked ≡ false → Kept asked before after reply
stayed asked before after reply same free = record {
  later = omega (arith, ap (λ (s : Shelf). s.faults) same);
  rose = λ tells. absurd (false≢true (ap (λ (b : Bool). b && tells_folder_fault reply) (sym free) ∙ tells));
}

one_message : (asked : Asked) (entries : List Entry) (before after : Shelf) (due reply : Reply) → Due asked entries before after due → (reply ≡ due) ⊎ (reply ≡ out_of_memory) → Kept asked before after reply
one_message (ask.Client call) entries before after due reply d which = stayed (ask.Client call) before after reply d.5 refl
one_message (ask.Dump db from to limit) entries before after due reply d which = record { later = d.1.later; rose = λ tells. d.1.cause (replied_so d.0 due reply d.2 which tells) }
one_message (ask.Trim upto) entries before after due reply d which = stayed (ask.Trim upto) before after reply d.4 refl
one_message (ask.Plain told) entries before after due reply d which = stayed (ask.Plain told) before after reply d.2 refl
one_message ask.Unknown entries before after due reply d which = stayed ask.Unknown before after reply d.2 refl
one_message (ask.BadArgument id) entries before after due reply d which = stayed (ask.BadArgument id) before after reply d.2 refl
one_message ask.Shutdown entries before after due reply d which = absurd d

-- one message before others
before_others : (b : Bool) (asked : Asked) (turn : Turn) (others : List Turn) (before after : Shelf) (reply : Reply) (to : ℕ) → (asks_dump asked && tells_folder_fault reply) ≡ b → Kept asked before after reply → Counts after.faults (length others) to
    → Counts before.faults (length (cond b (turn ∷ others) others)) to
before_others true asked turn others before after reply to is kept counts =
    let one : length (turn ∷ others) ≡ length others + 1 = omega arith in
    subst (λ (n : ℕ). Counts before.faults n to) (sym one) (count_more before.faults after.faults to (length others) (kept.rose is) counts)
before_others false asked turn others before after reply to is kept counts = count_later before.faults after.faults to (length others) kept.later counts

all_messages : (turns : List Turn) (shelf shelf' : Shelf) → AllByRecursion IsTurn turns → ShelfPasses turns shelf shelf' → Counts shelf.faults (length (folder_faults turns)) shelf'.faults
all_messages [] shelf shelf' each passes = count_none shelf.faults shelf'.faults (ap (λ (s : Shelf). s.faults) passes)
all_messages (t ∷ ts) shelf shelf' each passes =
    let kept = one_message (asks t.message) t.entries t.before t.after each.0.0 t.reply each.0.1 each.0.2 in
    subst (λ (s : Shelf). Counts s.faults (length (folder_faults (t ∷ ts))) shelf'.faults) passes.0
    (before_others (asks_dump (asks t.message) && tells_folder_fault t.reply) (asks t.message) t (folder_faults ts) t.before t.after t.reply shelf'.faults refl kept (all_messages ts t.after shelf' each.1 passes.1))

pub counted : FolderFaultsAreCounted
counted turns bytes clock clock' shelf shelf' entries carried = all_messages turns shelf shelf' carried.each carried.passed
