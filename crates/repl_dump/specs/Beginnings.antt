-- How a dump begins.
use Rattle.std.specs.Prelude.{◌≡◌, ℕ, List, is_some}
use Rattle.cat_types.specs.declared.steps.Answer.{Answer}
use Rattle.cat_types.specs.declared.steps.Answer.TheVariants as answer
use Rattle.desk.specs.Walks.{Began}
use Rattle.dump_manifest.specs.declared.manifest.Manifest.{Manifest}
use Rattle.repl_dump.specs.declared.beginning.Beginning.{Beginning}
use Rattle.repl_dump.specs.declared.dumping.DumpAnswer.{DumpAnswer}
use Rattle.repl_dump.specs.declared.dumping.DumpAnswer.TheVariants as dumped
use Rattle.repl_dump.specs.declared.writer.Writer.{Writer}

-- an answer is one that the step that begins a dump may get: the beginning, a refusal, a fault of the store, or want of memory
abbrev pub AnswersBegin : Answer → Type 0
AnswersBegin (answer.Began dump source born begin end first) = Unit {0}
AnswersBegin (answer.DumpRefused refusal) = Unit {0}
AnswersBegin answer.StoreFault = Unit {0}
AnswersBegin answer.NoMemory = Unit {0}
AnswersBegin other = ⊥

-- what was begun, as walks know it
abbrev pub began_of : Beginning → Began
began_of beginning = record { dump = beginning.dump; source = beginning.source; born = beginning.born; begin = beginning.begin; end = beginning.end; first = beginning.first }

-- an answer begins no dump, and this tells why
abbrev pub Unbegins : DumpAnswer → Answer → Type 0
Unbegins (dumped.Done dir last) given = ⊥
Unbegins (dumped.Refused refusal) given = given ≡ answer.DumpRefused refusal
Unbegins dumped.FolderFault given = ⊥
Unbegins dumped.StoreFault given = given ≡ answer.StoreFault
Unbegins dumped.NoMemory given = given ≡ answer.NoMemory

-- the manifest of a dump of this database that began so, where this was written
abbrev pub manifest_of : List ℕ → Beginning → Writer → Manifest
manifest_of db beginning writer = record {
  source = beginning.source;
  db = db;
  dump = beginning.dump;
  bootstrap = is_some beginning.first;
  begin = beginning.begin;
  end = writer.end;
  born = beginning.born;
  files = writer.files;
}
