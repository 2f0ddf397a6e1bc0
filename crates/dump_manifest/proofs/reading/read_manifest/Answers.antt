use Rattle.std.proofs.Common.{refl}
use Rattle.dump_manifest.specs.declared.manifest.Manifest.{Manifest}
use Rattle.dump_manifest.proofs.Whole.{fault_is, rest_short, stop_files, stop_last, stop_span, whole}
use Rattle.dump_manifest.proofs.reading.read_manifest.Goals as goal

pub fault_at-requires-in-Err-read_span : goal.fault_at-requires-in-Err-read_span
fault_at-requires-in-Err-read_span c =
    let s = c.args.source.now in
    let d = c.args.dump in
    let rest = c.in-Err-read_span.rest.now in
    rest_short s d c.args.text.now rest
    (stop_span s d c.in-Ok.found.0.now c.args.text.now c.in-Ok.found.1.now rest c.in-Ok.ensures.0 c.in-Ok.ensures.1 (c.in-Err-read_span.ensures s d))

pub returns-in-Err-read_span : goal.returns-in-Err-read_span
returns-in-Err-read_span c =
    let s = c.args.source.now in
    let d = c.args.dump in
    let rest = c.in-Err-read_span.rest.now in
    fault_is s d c.args.text.now rest c.fault_at-in-Err-read_span.result
    (stop_span s d c.in-Ok.found.0.now c.args.text.now c.in-Ok.found.1.now rest c.in-Ok.ensures.0 c.in-Ok.ensures.1 (c.in-Err-read_span.ensures s d))
    c.fault_at-in-Err-read_span.ensures

pub fault_at-requires-in-Err-2 : goal.fault_at-requires-in-Err-2
fault_at-requires-in-Err-2 c =
    let s = c.args.source.now in
    let d = c.args.dump in
    let span = c.in-Ok-read_span.found.0 in
    let told = c.in-Ok-read_span.ensures in
    let halted = rw c.in-Err-2.is at c.in_ok-found.ensures in
    rest_short s d c.args.text.now c.in-Err-2.rest.now
    (stop_files s d c.in-Ok.found.0.now c.args.text.now c.in-Ok.found.1.now c.in-Ok-read_span.found.1.now c.in-Err-2.rest.now span.bootstrap span.begin span.end span.born
    c.in-Ok.ensures.0 c.in-Ok.ensures.1 (told.1, told.2) told.0 told.3 (halted s d))

pub returns-in-Err-2 : goal.returns-in-Err-2
returns-in-Err-2 c =
    let s = c.args.source.now in
    let d = c.args.dump in
    let span = c.in-Ok-read_span.found.0 in
    let told = c.in-Ok-read_span.ensures in
    let halted = rw c.in-Err-2.is at c.in_ok-found.ensures in
    fault_is s d c.args.text.now c.in-Err-2.rest.now c.fault_at-in-Err-2.result
    (stop_files s d c.in-Ok.found.0.now c.args.text.now c.in-Ok.found.1.now c.in-Ok-read_span.found.1.now c.in-Err-2.rest.now span.bootstrap span.begin span.end span.born
    c.in-Ok.ensures.0 c.in-Ok.ensures.1 (told.1, told.2) told.0 told.3 (halted s d))
    c.fault_at-in-Err-2.ensures

pub fault_at-requires-then-has_more : goal.fault_at-requires-then-has_more
fault_at-requires-then-has_more c =
    let s = c.args.source.now in
    let d = c.args.dump in
    let span = c.in-Ok-read_span.found.0 in
    let told = c.in-Ok-read_span.ensures in
    let read = rw c.in-Ok-2.is at c.in_ok-found.ensures in
    let rest = c.in-Ok-2.found.1.now in
    rest_short s d c.args.text.now rest
    (stop_files s d c.in-Ok.found.0.now c.args.text.now c.in-Ok.found.1.now c.in-Ok-read_span.found.1.now rest span.bootstrap span.begin span.end span.born
    c.in-Ok.ensures.0 c.in-Ok.ensures.1 (told.1, told.2) told.0 told.3
    (stop_last s d span.bootstrap c.in-Ok-2.found.0 c.in-Ok-read_span.found.1.now rest (read.3 s d) read.2 (c.has_more.ensures.some c.if-has_more.true)))

pub returns-then-has_more : goal.returns-then-has_more
returns-then-has_more c =
    let s = c.args.source.now in
    let d = c.args.dump in
    let span = c.in-Ok-read_span.found.0 in
    let told = c.in-Ok-read_span.ensures in
    let read = rw c.in-Ok-2.is at c.in_ok-found.ensures in
    let rest = c.in-Ok-2.found.1.now in
    fault_is s d c.args.text.now rest c.fault_at-then-has_more.result
    (stop_files s d c.in-Ok.found.0.now c.args.text.now c.in-Ok.found.1.now c.in-Ok-read_span.found.1.now rest span.bootstrap span.begin span.end span.born
    c.in-Ok.ensures.0 c.in-Ok.ensures.1 (told.1, told.2) told.0 told.3
    (stop_last s d span.bootstrap c.in-Ok-2.found.0 c.in-Ok-read_span.found.1.now rest (read.3 s d) read.2 (c.has_more.ensures.some c.if-has_more.true)))
    c.fault_at-then-has_more.ensures

pub returns : goal.returns
returns c =
    let s = c.args.source.now in
    let d = c.args.dump in
    let span = c.in-Ok-read_span.found.0 in
    let told = c.in-Ok-read_span.ensures in
    let read = rw c.in-Ok-2.is at c.in_ok-found.ensures in
    let rest = c.in-Ok-2.found.1.now in
    let m : Manifest = record {
      source = s;
      db = c.in_ok-name_text.field-0;
      dump = d;
      bootstrap = span.bootstrap;
      begin = span.begin;
      end = span.end;
      born = span.born;
      files = c.in-Ok-2.found.0;
    } in
    whole s d c.in-Ok.found.0.now c.args.text.now c.in-Ok.found.1.now c.in-Ok-read_span.found.1.now rest span.bootstrap span.begin span.end span.born c.in-Ok-2.found.0
    c.in-Ok.ensures.0 c.in-Ok.ensures.1 (told.1, told.2) told.0 told.3 read.0 read.1 read.2 (c.has_more.ensures.none c.if-has_more.false)
    m refl c.in_ok-name_text.ensures refl refl refl refl refl refl
