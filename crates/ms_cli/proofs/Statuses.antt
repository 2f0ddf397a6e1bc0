-- What each status says of what was done.
use Rattle.std.proofs.Common.{inl, inr, ◌≡◌, ◌≢◌, ℕ, ℤ, ◌≤◌, ◌<◌, length, List, [], ◌∷◌, Option, Some, None, refl, sym, subst, ap, ◌∙◌, arith}
use Rattle.std.specs.Prelude.{◌⊎◌, IfSome}
use Rattle.cat_types.specs.declared.steps.Answer.{Answer}
use Rattle.cat_types.specs.declared.steps.Answer.TheVariants as answer
use Rattle.cat_types.specs.declared.steps.DumpRefusal.{DumpRefusal}
use Rattle.desk.specs.History.{Entry, Legal, NoneAbove, Start}
use Rattle.desk.specs.State.{MayAnswer}
use Rattle.desk.specs.Walks.{Wanted}
use Rattle.engine.specs.Stores.{fault_number}
use Rattle.hms_outside.specs.Causes.{Rose}
use Rattle.hms_outside.specs.Disks.{Lies}
use Rattle.hms_outside.specs.Told.{Held}
use Rattle.ms_cli.specs.Dumping.{MakesDump, TellsDump, WasRefused, wanted_of}
use Rattle.ms_cli.specs.Keeping.{RefusesBytes, RefusesStore}
use Rattle.ms_cli.specs.Local.{Did}
use Rattle.ms_cli.specs.Opened.{NoStore, Opened, Outside, fault_of}
use Rattle.ms_cli.specs.Telling.{Errors, Lines, refusal_status, refused_dump_line, status_of}
use Rattle.ms_cli.specs.Trimming.{TellsTrim, Trims}
use Rattle.ms_cli.specs.declared.words.Command.{Command}
use Rattle.ms_cli.specs.declared.words.Command.TheVariants.{Pipe, Init, Dump, Trim, Wrong}
use Rattle.ms_cli.proofs.Refusing.{store_6}
use Rattle.ms_journal.specs.Faults.{IsMakingFault}
use Rattle.ms_journal.specs.declared.fault.OpenFault.{OpenFault}
use Rattle.ms_journal.specs.declared.fault.OpenFault.TheVariants as opening
use Rattle.ms_session.specs.Turns.{Shelf}
use Rattle.ms_session.specs.declared.end.End.{End}
use Rattle.ms_session.specs.declared.end.End.TheVariants as ended
use Rattle.repl_dump.specs.Dumps.{Dumps, FirstTold, SomeTold}
use Rattle.repl_dump.specs.declared.dumping.DumpAnswer.{DumpAnswer}
use Rattle.repl_dump.specs.declared.dumping.DumpAnswer.TheVariants as dumped

-- ---- numbers that are no status

-- no end has another status
no_end : (end : End) (n : ℕ) → n ≢ 0 → n ≢ 3 → n ≢ 4 → n ≢ 7 → n ≢ 10 → status_of end ≡ n → ⊥
no_end ended.Done n zero three four seven ten is = zero (sym is)
no_end ended.Shutdown n zero three four seven ten is = zero (sym is)
no_end (ended.Truncated place) n zero three four seven ten is = seven (sym is)
no_end (ended.BadWire code place) n zero three four seven ten is = seven (sym is)
no_end (ended.TooLarge place) n zero three four seven ten is = seven (sym is)
no_end ended.ReadFault n zero three four seven ten is = three (sym is)
no_end ended.WriteFault n zero three four seven ten is = four (sym is)
no_end ended.NoMemory n zero three four seven ten is = ten (sym is)

-- no refusal of a store has another status
no_refusal : (fault : OpenFault) (n : ℕ) → n ≢ 5 → n ≢ 6 → n ≢ 10 → refusal_status fault ≡ n → ⊥
no_refusal opening.NotEmpty n five six ten is = six (sym is)
no_refusal opening.Foreign n five six ten is = six (sym is)
no_refusal (opening.Broken at) n five six ten is = six (sym is)
no_refusal opening.DiskFault n five six ten is = five (sym is)
no_refusal opening.NoMemory n five six ten is = ten (sym is)

ne : (a b : ℕ) → (a < b) ⊎ (b < a) → a ≢ b
ne a b (inl less) = λ is. omega (arith, less, is)
ne a b (inr more) = λ is. omega (arith, more, is)

no_end_5 : (end : End) → status_of end ≡ 5 → ⊥
no_end_5 end is = no_end end 5 (ne 5 0 (inr (omega arith))) (ne 5 3 (inr (omega arith))) (ne 5 4 (inr (omega arith))) (ne 5 7 (inl (omega arith))) (ne 5 10 (inl (omega arith))) is

no_end_6 : (end : End) → status_of end ≡ 6 → ⊥
no_end_6 end is = no_end end 6 (ne 6 0 (inr (omega arith))) (ne 6 3 (inr (omega arith))) (ne 6 4 (inr (omega arith))) (ne 6 7 (inl (omega arith))) (ne 6 10 (inl (omega arith))) is

no_end_9 : (end : End) → status_of end ≡ 9 → ⊥
no_end_9 end is = no_end end 9 (ne 9 0 (inr (omega arith))) (ne 9 3 (inr (omega arith))) (ne 9 4 (inr (omega arith))) (ne 9 7 (inr (omega arith))) (ne 9 10 (inl (omega arith))) is

no_end_11 : (end : End) → status_of end ≡ 11 → ⊥
no_end_11 end is = no_end end 11 (ne 11 0 (inr (omega arith))) (ne 11 3 (inr (omega arith))) (ne 11 4 (inr (omega arith))) (ne 11 7 (inr (omega arith))) (ne 11 10 (inr (omega arith))) is

no_refusal_9 : (fault : OpenFault) → refusal_status fault ≡ 9 → ⊥
no_refusal_9 fault is = no_refusal fault 9 (ne 9 5 (inr (omega arith))) (ne 9 6 (inr (omega arith))) (ne 9 10 (inl (omega arith))) is

no_refusal_11 : (fault : OpenFault) → refusal_status fault ≡ 11 → ⊥
no_refusal_11 fault is = no_refusal fault 11 (ne 11 5 (inr (omega arith))) (ne 11 6 (inr (omega arith))) (ne 11 10 (inr (omega arith))) is

-- a refusal with status 5 is a disk's fault
disk_5 : (fault : OpenFault) → refusal_status fault ≡ 5 → fault ≡ opening.DiskFault
disk_5 opening.NotEmpty is = absurd (omega (arith, is))
disk_5 opening.Foreign is = absurd (omega (arith, is))
disk_5 (opening.Broken at) is = absurd (omega (arith, is))
disk_5 opening.DiskFault is = refl
disk_5 opening.NoMemory is = absurd (omega (arith, is))

-- ---- how a dump or a trim was answered

-- status 5 tells a fault of the store
dump_5 : (given : DumpAnswer) (old new : Option Held) (e e' : Errors) (status : ℕ) → TellsDump given old new e e' status → status ≡ 5 → given ≡ dumped.StoreFault
dump_5 (dumped.Done dir last) old new e e' status told is = absurd (no_end_5 told.0 (sym told.3 ∙ is))
dump_5 (dumped.Refused refusal) old new e e' status told is = absurd (omega (arith, told.2, is))
dump_5 dumped.FolderFault old new e e' status told is = absurd (omega (arith, told.2, is))
dump_5 dumped.StoreFault old new e e' status told is = refl
dump_5 dumped.NoMemory old new e e' status told is = absurd (omega (arith, told.2, is))

-- none tells status 6
dump_6 : (given : DumpAnswer) (old new : Option Held) (e e' : Errors) (status : ℕ) → TellsDump given old new e e' status → status ≡ 6 → ⊥
dump_6 (dumped.Done dir last) old new e e' status told is = no_end_6 told.0 (sym told.3 ∙ is)
dump_6 (dumped.Refused refusal) old new e e' status told is = omega (arith, told.2, is)
dump_6 dumped.FolderFault old new e e' status told is = omega (arith, told.2, is)
dump_6 dumped.StoreFault old new e e' status told is = omega (arith, told.2, is)
dump_6 dumped.NoMemory old new e e' status told is = omega (arith, told.2, is)

-- status 9 tells a refusal, by its line
dump_9 : (given : DumpAnswer) (old new : Option Held) (e e' : Errors) (status : ℕ) → TellsDump given old new e e' status → status ≡ 9 → (refusal : DumpRefusal) × (given ≡ dumped.Refused refusal) × Lines (refused_dump_line refusal) e e'
dump_9 (dumped.Done dir last) old new e e' status told is = absurd (no_end_9 told.0 (sym told.3 ∙ is))
dump_9 (dumped.Refused refusal) old new e e' status told is = (refusal, refl, told.1)
dump_9 dumped.FolderFault old new e e' status told is = absurd (omega (arith, told.2, is))
dump_9 dumped.StoreFault old new e e' status told is = absurd (omega (arith, told.2, is))
dump_9 dumped.NoMemory old new e e' status told is = absurd (omega (arith, told.2, is))

-- status 11 tells a fault of the folder
dump_11 : (given : DumpAnswer) (old new : Option Held) (e e' : Errors) (status : ℕ) → TellsDump given old new e e' status → status ≡ 11 → given ≡ dumped.FolderFault
dump_11 (dumped.Done dir last) old new e e' status told is = absurd (no_end_11 told.0 (sym told.3 ∙ is))
dump_11 (dumped.Refused refusal) old new e e' status told is = absurd (omega (arith, told.2, is))
dump_11 dumped.FolderFault old new e e' status told is = refl
dump_11 dumped.StoreFault old new e e' status told is = absurd (omega (arith, told.2, is))
dump_11 dumped.NoMemory old new e e' status told is = absurd (omega (arith, told.2, is))

-- where no end has the status, a trim was answered by a fault of the store, or by want of memory
trim_told : (given : Answer) (old new : Option Held) (e e' : Errors) (status : ℕ) → TellsTrim given old new e e' status → ((end : End) → status_of end ≡ status → ⊥) → ((given ≡ answer.StoreFault) × (status ≡ 5)) ⊎ (status ≡ 10)
trim_told (answer.Kept first) old new e e' status told none = absurd (none told.0 (sym told.3))
trim_told answer.StoreFault old new e e' status told none = inl (refl, told.2)
trim_told answer.NoMemory old new e e' status told none = inr told.2
trim_told (answer.Reply reply) old new e e' status told none = absurd told
trim_told (answer.Began dump source born begin last first) old new e e' status told none = absurd told
trim_told (answer.Table item) old new e e' status told none = absurd told
trim_told answer.NoTable old new e e' status told none = absurd told
trim_told (answer.Parts items more) old new e e' status told none = absurd told
trim_told (answer.Sealed number) old new e e' status told none = absurd told
trim_told (answer.Events found more) old new e e' status told none = absurd told
trim_told answer.Ended old new e e' status told none = absurd told
trim_told (answer.DumpRefused refusal) old new e e' status told none = absurd told
trim_told answer.NotOpen old new e e' status told none = absurd told

trim_5 : (given : Answer) (status : ℕ) → status ≡ 5 → ((given ≡ answer.StoreFault) × (status ≡ 5)) ⊎ (status ≡ 10) → given ≡ answer.StoreFault
trim_5 given status is (inl (fault, five)) = fault
trim_5 given status is (inr ten) = absurd (omega (arith, is, ten))

trim_other : (given : Answer) (status : ℕ) → status ≢ 5 → status ≢ 10 → ((given ≡ answer.StoreFault) × (status ≡ 5)) ⊎ (status ≡ 10) → ⊥
trim_other given status five ten (inl (fault, is)) = five is
trim_other given status five ten (inr is) = ten is

trims_other : (upto : ℤ) (old new : Outside) (status : ℕ) (es : List Entry) → Trims upto old new status es → ((end : End) → status_of end ≡ status → ⊥) → status ≢ 5 → status ≢ 10 → ⊥
trims_other upto old new status es h none five ten = trim_other h.entry.1.answer status five ten (trim_told h.entry.1.answer old.met.held new.met.held old.errors new.errors status h.told none)

-- ---- counts of faults

rose_number : (a b c d : ℕ) → d ≡ b → Rose a c → Rose (fault_number a b) (fault_number c d)
rose_number a b c d same rose = omega (arith, same, rose)

rose_later : (a b c : ℕ) → a ≤ b → Rose b c → Rose a c
rose_later a b c later rose = omega (arith, later, rose)

-- where the first step was answered by a fault of the store, the fault number rose
first_fault : (s : Start) (es : List Entry) (n : ℕ) → Legal s es → NoneAbove n es → FirstTold answer.StoreFault es → Rose s.fault n
first_fault s [] n legal none told = absurd told
first_fault s (e ∷ es) n legal none told =
    let may : MayAnswer s.state s.fault e.0.caller e.0.step answer.StoreFault e.1.fault = subst (λ (a : Answer). MayAnswer s.state s.fault e.0.caller e.0.step a e.1.fault) told legal.0.1 in
    omega (arith, may.1, none.0)

fault_counted : (Does : List Entry → Type 0) (old new : Outside) (o : Opened Does old new) → FirstTold answer.StoreFault o.worked.entries → Rose (fault_of old) (fault_of new)
fault_counted Does old new o told = rose_later (fault_of old) o.start.fault (fault_of new) o.later (first_fault o.start o.worked.entries (fault_of new) o.worked.closed.legal o.worked.closed.none_above told)

no_store_5 : (fault : OpenFault) (old new : Outside) (status : ℕ) → NoStore fault old new status → status ≡ 5 → Rose (fault_of old) (fault_of new)
no_store_5 fault old new status h is =
    rose_number old.disk_a.faults old.disk_b.faults new.disk_a.faults new.disk_b.faults (ap (λ d. d.faults) h.disk_b_stays) (h.cause (disk_5 fault (sym h.status_is ∙ is)))

-- ---- what was done

-- only a fault of the store is told where a dump's answer is that
dump_fault : (wanted : Wanted) (given : DumpAnswer) (es : List Entry) (before after : Shelf) → given ≡ dumped.StoreFault → Dumps wanted given before.files after.files es → FirstTold answer.StoreFault es
dump_fault wanted given es before after is did = (subst (λ (d : DumpAnswer). Dumps wanted d before.files after.files es) is did).1

trim_fault : (e : Entry) (es : List Entry) → es ≡ e ∷ [] → e.1.answer ≡ answer.StoreFault → FirstTold answer.StoreFault es
trim_fault e es is told = subst (λ (l : List Entry). FirstTold answer.StoreFault l) (sym is) told

pub did_5 : (command : Command) (old new : Outside) (status : ℕ) → Did command old new status → status ≡ 5 → Rose (fault_of old) (fault_of new)
did_5 Pipe old new status (inl o) is = absurd (no_end_5 o.worked.does.ended (sym o.worked.does.status_is ∙ is))
did_5 Pipe old new status (inr u) is = no_store_5 u.fault old new status u.none is
did_5 (Init id) old new status (inl m) is = absurd (no_end_5 m.ended (sym m.status_is ∙ is))
did_5 (Init id) old new status (inr u) is = no_store_5 u.fault old new status u.none is
did_5 (Dump db range) old new status (inl o) is =
    let h = o.worked.does in
    fault_counted (MakesDump (wanted_of db.now range) old new status) old new o
    (dump_fault (wanted_of db.now range) h.given o.worked.entries old.met.shelf new.met.shelf (dump_5 h.given old.met.held new.met.held old.errors new.errors status h.told is) h.dumped.dumps)
did_5 (Dump db range) old new status (inr u) is = no_store_5 u.fault old new status u.none is
did_5 (Trim upto) old new status (inl o) is =
    let h = o.worked.does in
    fault_counted (Trims upto old new status) old new o
    (trim_fault h.entry o.worked.entries h.is (trim_5 h.entry.1.answer status is (trim_told h.entry.1.answer old.met.held new.met.held old.errors new.errors status h.told (λ end same. no_end_5 end (same ∙ is)))))
did_5 (Trim upto) old new status (inr u) is = no_store_5 u.fault old new status u.none is
did_5 (Wrong usage) old new status h is = absurd (omega (arith, h.status_is, is))

-- a store isn't made where there are bytes
making_6 : (fault : OpenFault) (c : List ℕ) → IsMakingFault fault → refusal_status fault ≡ 6 → RefusesBytes fault c → 0 < length c
making_6 opening.NotEmpty c kind is due = due
making_6 opening.Foreign c kind is due = absurd kind
making_6 (opening.Broken at) c kind is due = absurd kind
making_6 opening.DiskFault c kind is due = absurd (omega (arith, is))
making_6 opening.NoMemory c kind is due = absurd (omega (arith, is))

made_6 : (fault : OpenFault) (lies : Option Lies) → IsMakingFault fault → refusal_status fault ≡ 6 → IfSome lies (λ d. RefusesBytes fault d.held) → IfSome lies (λ d. 0 < length d.held)
made_6 fault None kind is due = tt
made_6 fault (Some d) kind is due = making_6 fault d.held kind is due

pub did_6 : (command : Command) (old new : Outside) (status : ℕ) → Did command old new status → status ≡ 6 → IfSome old.disk_a.lies (λ d. RefusesStore command d.held)
did_6 Pipe old new status (inl o) is = absurd (no_end_6 o.worked.does.ended (sym o.worked.does.status_is ∙ is))
did_6 Pipe old new status (inr u) is = store_6 u.fault old.disk_a.lies u.kind (sym u.none.status_is ∙ is) u.none.bytes
did_6 (Init id) old new status (inl m) is = absurd (no_end_6 m.ended (sym m.status_is ∙ is))
did_6 (Init id) old new status (inr u) is = made_6 u.fault old.disk_a.lies u.kind (sym u.none.status_is ∙ is) u.none.bytes
did_6 (Dump db range) old new status (inl o) is = absurd (dump_6 o.worked.does.given old.met.held new.met.held old.errors new.errors status o.worked.does.told is)
did_6 (Dump db range) old new status (inr u) is = store_6 u.fault old.disk_a.lies u.kind (sym u.none.status_is ∙ is) u.none.bytes
did_6 (Trim upto) old new status (inl o) is = absurd (trims_other upto old new status o.worked.entries o.worked.does (λ end same. no_end_6 end (same ∙ is)) (λ five. omega (arith, is, five)) (λ ten. omega (arith, is, ten)))
did_6 (Trim upto) old new status (inr u) is = store_6 u.fault old.disk_a.lies u.kind (sym u.none.status_is ∙ is) u.none.bytes
did_6 (Wrong usage) old new status h is = absurd (omega (arith, h.status_is, is))

-- the same store with another fact on its entries
opened_weaker : (P Q : List Entry → Type 0) (old new : Outside) (o : Opened P old new) → Q o.worked.entries → Opened Q old new
opened_weaker P Q old new o does = record { start = o.start; opens = o.opens; later = o.later; worked = record { entries = o.worked.entries; closed = o.worked.closed; does = does }; kept = o.kept }

dump_refused : (wanted : Wanted) (given : DumpAnswer) (refusal : DumpRefusal) (es : List Entry) (before after : Shelf) → given ≡ dumped.Refused refusal → Dumps wanted given before.files after.files es → SomeTold (answer.DumpRefused refusal) es
dump_refused wanted given refusal es before after is did = (subst (λ (d : DumpAnswer). Dumps wanted d before.files after.files es) is did).1

pub did_9 : (command : Command) (old new : Outside) (status : ℕ) → Did command old new status → status ≡ 9 → WasRefused old new
did_9 Pipe old new status (inl o) is = absurd (no_end_9 o.worked.does.ended (sym o.worked.does.status_is ∙ is))
did_9 Pipe old new status (inr u) is = absurd (no_refusal_9 u.fault (sym u.none.status_is ∙ is))
did_9 (Init id) old new status (inl m) is = absurd (no_end_9 m.ended (sym m.status_is ∙ is))
did_9 (Init id) old new status (inr u) is = absurd (no_refusal_9 u.fault (sym u.none.status_is ∙ is))
did_9 (Dump db range) old new status (inl o) is =
    let h = o.worked.does in
    let d = dump_9 h.given old.met.held new.met.held old.errors new.errors status h.told is in
    record {
      refusal = d.0;
      opened = opened_weaker (MakesDump (wanted_of db.now range) old new status) (SomeTold (answer.DumpRefused d.0)) old new o (dump_refused (wanted_of db.now range) h.given d.0 o.worked.entries old.met.shelf new.met.shelf d.1 h.dumped.dumps);
      told = d.2;
    }
did_9 (Dump db range) old new status (inr u) is = absurd (no_refusal_9 u.fault (sym u.none.status_is ∙ is))
did_9 (Trim upto) old new status (inl o) is = absurd (trims_other upto old new status o.worked.entries o.worked.does (λ end same. no_end_9 end (same ∙ is)) (λ five. omega (arith, is, five)) (λ ten. omega (arith, is, ten)))
did_9 (Trim upto) old new status (inr u) is = absurd (no_refusal_9 u.fault (sym u.none.status_is ∙ is))
did_9 (Wrong usage) old new status h is = absurd (omega (arith, h.status_is, is))

pub did_11 : (command : Command) (old new : Outside) (status : ℕ) → Did command old new status → status ≡ 11 → Rose old.met.shelf.faults new.met.shelf.faults
did_11 Pipe old new status (inl o) is = absurd (no_end_11 o.worked.does.ended (sym o.worked.does.status_is ∙ is))
did_11 Pipe old new status (inr u) is = absurd (no_refusal_11 u.fault (sym u.none.status_is ∙ is))
did_11 (Init id) old new status (inl m) is = absurd (no_end_11 m.ended (sym m.status_is ∙ is))
did_11 (Init id) old new status (inr u) is = absurd (no_refusal_11 u.fault (sym u.none.status_is ∙ is))
did_11 (Dump db range) old new status (inl o) is = o.worked.does.dumped.cause (dump_11 o.worked.does.given old.met.held new.met.held old.errors new.errors status o.worked.does.told is)
did_11 (Dump db range) old new status (inr u) is = absurd (no_refusal_11 u.fault (sym u.none.status_is ∙ is))
did_11 (Trim upto) old new status (inl o) is = absurd (trims_other upto old new status o.worked.entries o.worked.does (λ end same. no_end_11 end (same ∙ is)) (λ five. omega (arith, is, five)) (λ ten. omega (arith, is, ten)))
did_11 (Trim upto) old new status (inr u) is = absurd (no_refusal_11 u.fault (sym u.none.status_is ∙ is))
did_11 (Wrong usage) old new status h is = absurd (omega (arith, h.status_is, is))
