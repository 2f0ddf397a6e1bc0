-- What the calls that change databases change can be taken.
use Rattle.std.proofs.Common.{◌≡◌, ◌==◌, ℕ, Bool, true, not, List, None, nat_le, refl, ap, eq-eqb}
use Rattle.cat_types.specs.declared.arguments.DbArg.{DbArg}
use Rattle.cat_types.specs.declared.changes.EventKind.TheVariants as kind
use Rattle.cat_types.specs.declared.changes.Op.TheVariants.{DropDb, PutDb}
use Rattle.cat_values.specs.Names.{is_object_name}
use Rattle.cat_objects.specs.Catalogue.{Catalogue, database, has_database}
use Rattle.cat_objects.specs.Changes.{takes_call}
use Rattle.rulings.specs.Changes.{born_of}
use Rattle.rulings.specs.Names.{kept_name}
use Rattle.rulings.specs.Rules.{first_broken}
use Rattle.rulings.specs.declared.bars.Bars.{Bars}
use Rattle.rulings.proofs.Rules.{both, born_there, call_taken, fits_there, kept_named, unbroken}
use Rattle.table_rules.specs.Databases.{alter_database_rules, create_database_rules, database_altered, database_created, database_dropped, drop_database_rules, kept_record}

-- what an accepted creation of a database changes can be taken
pub create_database_taken : (cat : Catalogue) (db : DbArg) (next : ℕ) → first_broken (create_database_rules cat db) ≡ None → nat_le next 9223372036854775807 ≡ true → takes_call cat next (database_created db next) ≡ true
create_database_taken cat db next none room =
    let tests = unbroken (create_database_rules cat db) none in
    call_taken cat kind.CreateDatabase (kept_name db.name) next (PutDb (kept_record db.rec)) next room
    (both (is_object_name (kept_name db.name)) _ (kept_named db.name tests.0) (both (not (has_database cat (kept_name db.name))) _ (ap not tests.1.0) (both (next == next) true (eq-eqb next next refl) refl)))

-- what an accepted dropping of a database changes can be taken
pub drop_database_taken : (cat : Catalogue) (bars : Bars) (name : List ℕ) (cascade : Bool) (next : ℕ) → first_broken (drop_database_rules cat bars name cascade) ≡ None → nat_le next 9223372036854775807 ≡ true → takes_call cat next (database_dropped cat name) ≡ true
drop_database_taken cat bars name cascade next none room =
    let tests = unbroken (drop_database_rules cat bars name cascade) none in
    call_taken cat kind.DropDatabase name (born_of (database cat name)) DropDb next room (both _ true (born_there (database cat name) tests.0) refl)

-- what an accepted altering of a database changes can be taken
pub alter_database_taken : (cat : Catalogue) (bars : Bars) (name : List ℕ) (db : DbArg) (next : ℕ) → first_broken (alter_database_rules cat bars name db) ≡ None → nat_le next 9223372036854775807 ≡ true → takes_call cat next (database_altered cat name db) ≡ true
alter_database_taken cat bars name db next none room =
    let tests = unbroken (alter_database_rules cat bars name db) none in
    call_taken cat kind.AlterDatabase name (born_of (database cat name)) (PutDb (kept_record db.rec)) next room (fits_there cat kind.AlterDatabase name (PutDb (kept_record db.rec)) tests.0 refl)
