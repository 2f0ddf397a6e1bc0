use Rattle.std.proofs.Common.{sym}
use Rattle.dump_manifest.specs.Pieces.{db_of}
use Rattle.dump_manifest.proofs.Names.{db_lacks}
use Rattle.dump_manifest.proofs.Pieces.{front_some, front_uncut, front_unread}
use Rattle.dump_manifest.proofs.heads.take_db.Goals as goal

pub returns-in-None : goal.returns-in-None
returns-in-None c = front_uncut db_of c.args.text.now db_lacks (sym c.in-None.ensures)

pub returns-in-None-read_db : goal.returns-in-None-read_db
returns-in-None-read_db c = front_unread db_of c.args.text.now _ _ db_lacks (sym c.in-Some.ensures) c.in-None-read_db.ensures

pub returns-in-Some-read_db : goal.returns-in-Some-read_db
returns-in-Some-read_db c = front_some db_of c.args.text.now _ _ c.in-Some-read_db.name.now (sym c.in-Some.ensures) c.in-Some-read_db.ensures
