use Rattle.std.proofs.Common.{◌∙◌}
use Rattle.dump_manifest.specs.Manifests.{manifest_code}
use Rattle.repl_dump.specs.Beginnings.{manifest_of}
use Rattle.repl_dump.proofs.Ending.{code_is, manifest_put, manifest_stays}
use Rattle.repl_dump.proofs.begun_dump.write_manifest.Goals as goal

pub returns-in-Ok-put-clause-put : goal.returns-in-Ok-put-clause-put
returns-in-Ok-put-clause-put g c =
    manifest_put c.args.writer.dir (manifest_code (manifest_of c.args.db.now c.args.beginning.now c.args.writer)) _ _ _ _ (c.as_str.ensures.bytes ∙ c.in-Ok-Ok.ensures')
    (c.as_slice.ensures.items ∙ (c.in-Ok-Ok.ensures ∙ code_is c.args.db.now c.in-Ok.db c.is_some.result c.args.beginning.now c.args.writer c.in-Ok.ensures c.is_some.ensures)) c.in-Ok-put.ensures.files

pub returns-in-Err-clause-stays : goal.returns-in-Err-clause-stays
returns-in-Err-clause-stays g c = manifest_stays c.put.result c.in-Err.outage c.failure_of.result c.args.writer.dir _ _ _ _ (c.as_str.ensures.bytes ∙ c.in-Ok-Ok.ensures') c.failure_of.ensures.own c.failure_of.ensures.failed c.failure_of.ensures.memory c.in-Err.is c.put.ensures.files
