use Rattle.std.proofs.Common.{map, [], ◌∷◌, ◌++◌, ap}
use Rattle.dump_manifest.specs.Manifests.{begin_line, born_line, db_line, done_line, dump_line, end_line, file_line, kind_line, origin_lines, source_line, span_lines, version_line}
use Rattle.dump_manifest.proofs.Places.{written, written_all}
use Rattle.dump_manifest.proofs.writing.manifest_text.Goals as goal

pub returns : goal.returns
returns c =
    let m = c.args.m.now in
    let a = written [] version_line _ _ c.new-out.ensures c.in_ok-put_version.ensures in
    let b = written (version_line ∷ []) (source_line m.source) _ _ a c.in_ok-put_source.ensures in
    let d = written (version_line ∷ source_line m.source ∷ []) (db_line m.db) _ _ b c.in_ok-put_db.ensures in
    let e = written (version_line ∷ source_line m.source ∷ db_line m.db ∷ []) (dump_line m.dump) _ _ d c.in_ok-put_dump.ensures in
    let first = origin_lines m.source m.db m.dump in
    let f = written first (kind_line m.bootstrap) _ _ e c.in_ok-put_kind.ensures in
    let h = written (first ++ kind_line m.bootstrap ∷ []) (begin_line m.begin) _ _ f c.in_ok-put_begin.ensures in
    let i = written (first ++ kind_line m.bootstrap ∷ begin_line m.begin ∷ []) (end_line m.end) _ _ h c.in_ok-put_end.ensures in
    let j = written (first ++ kind_line m.bootstrap ∷ begin_line m.begin ∷ end_line m.end ∷ []) (born_line m.born) _ _ i c.in_ok-put_born.ensures in
    let head = first ++ span_lines m.bootstrap m.begin m.end m.born in
    let k = written_all head (map file_line c.as_slice.result.now) (map file_line m.files) _ _ j c.in_ok-put_files.ensures (ap (λ fs. map file_line fs) c.as_slice.ensures.items) in
    written (head ++ map file_line m.files) done_line _ _ k c.in_ok-put_done.ensures
