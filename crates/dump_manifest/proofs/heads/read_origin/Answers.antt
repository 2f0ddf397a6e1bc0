use Rattle.std.proofs.Common.{refl}
use Rattle.dump_manifest.specs.Manifests.{db_line, source_line, version_line}
use Rattle.dump_manifest.specs.Reading.{at_db, at_dump, at_source, at_version}
use Rattle.dump_manifest.proofs.Places.{stopped_here, stopped_later, stuck_db, stuck_dump, stuck_source}
use Rattle.dump_manifest.proofs.heads.read_origin.Goals as goal

pub returns-in_default-take_source : goal.returns-in_default-take_source
returns-in_default-take_source c =
    let s = c.args.source.now in
    let d = c.args.dump in
    let a = c.in-Some.after_version.now in
    stopped_later s d at_version at_source version_line c.args.text.now a a (refl, refl) c.in-Some.ensures
    (stopped_here s d at_source a (stuck_source s d a c.in_default-take_source.ensures))

pub returns-in_default-take_db : goal.returns-in_default-take_db
returns-in_default-take_db c =
    let s = c.args.source.now in
    let d = c.args.dump in
    let a = c.in-Some.after_version.now in
    let b = c.in-Some-take_source.after_source.now in
    stopped_later s d at_version at_source version_line c.args.text.now a b (refl, refl) c.in-Some.ensures
    (stopped_later s d at_source at_db (source_line s) a b b (refl, refl) c.in-Some-take_source.ensures
    (stopped_here s d at_db b (stuck_db s d b c.in_default-take_db.ensures)))

pub returns-in_default-take_dump : goal.returns-in_default-take_dump
returns-in_default-take_dump c =
    let s = c.args.source.now in
    let d = c.args.dump in
    let a = c.in-Some.after_version.now in
    let b = c.in-Some-take_source.after_source.now in
    let e = c.in-Some-take_db.after_db.now in
    stopped_later s d at_version at_source version_line c.args.text.now a e (refl, refl) c.in-Some.ensures
    (stopped_later s d at_source at_db (source_line s) a b e (refl, refl) c.in-Some-take_source.ensures
    (stopped_later s d at_db at_dump (db_line c.in-Some-take_db.db.now) b e e (c.in-Some-take_db.db.now, c.in-Some-take_db.ensures.0, refl, refl) c.in-Some-take_db.ensures.1
    (stopped_here s d at_dump e (stuck_dump s d e c.in_default-take_dump.ensures))))
