use Rattle.std.proofs.Common.{rules, inl, inr, ◌∙◌, ap, sym, arith}
use Rattle.ms_cli.specs.Keeping.{seen}
use Rattle.ms_cli.proofs.Refusing.{opening_store}
use Rattle.ms_server.specs.Visits.{around}
use Rattle.server_cli.specs.Server.{both_seen}
use Rattle.server_cli.proofs.Stores.{disks_seen, no_end, opened, unopened}
use Rattle.server_cli.proofs.Workers.{served_ends, served_folders, served_kind, served_listener, served_listeners}
use Rattle.server_cli.proofs.server.run_server.Goals as goal

pub returns-in_default-clause-serves : goal.returns-in_default-clause-serves
returns-in_default-clause-serves g c =
    inl (record {
      nothing = c.read_serving.ensures.none (search rules);
      idle = record {
        no_ends = ap (λ v. v.items) c.end_with.ensures.ends ∙ c.idle.ensures.none.0;
        no_steps = c.end_with.ensures.steps;
        no_calls = ap (λ v. v.items) c.end_with.ensures.calls ∙ c.idle.ensures.none.1;
        listeners_stay = ap (λ v. v.items) (c.end_with.ensures.listeners ∙ c.idle.ensures.listeners);
        folders_stay = ap (λ v. v.items) (c.end_with.ensures.folders ∙ c.idle.ensures.folders);
      };
      disks_stay = disks_seen g.D.Disk.lies g.D.Disk.past g.D.Disk.faults _ _ _ _ c.end_with.ensures.disk_a c.end_with.ensures.disk_b;
      status_is = c.end_with.ensures.status;
    })

pub returns-in_default-clause-usage : goal.returns-in_default-clause-usage
returns-in_default-clause-usage g c = λ _. c.read_serving.ensures.none (search rules)

pub returns-in-Ok-clause-serves : goal.returns-in-Ok-clause-serves
returns-in-Ok-clause-serves g c =
    inr (
      c.in-Some.serving,
      c.in-Some.ensures.asked,
      inl (opened (around g.L.Listener.inputs g.L.Listener.returned g.L.Listener.faults g.F.Folder.files g.F.Folder.faults g.C.Clock.moments) c.in-Some.serving.sessions _ _ _
          (both_seen g.D.Disk.lies g.D.Disk.past g.D.Disk.faults c.in-Ok.engine.disk_a c.in-Ok.engine.disk_b) _ c.in-Ok.engine.start
          c.in-Ok.ensures.opens c.in-Ok.ensures.fault c.in-Ok.ensures.later (ap (seen g.D.Disk.lies g.D.Disk.past g.D.Disk.faults) c.in-Ok.ensures.disk_b) c.in-Ok.ensures.past c.in-Ok.ensures.reopened c.in-Ok.ensures.went c.serve.ensures),
    )

pub returns-in-Ok-clause-usage : goal.returns-in-Ok-clause-usage
returns-in-Ok-clause-usage g c = λ is.
    absurd (no_end _ 2 (served_kind (around g.L.Listener.inputs g.L.Listener.returned g.L.Listener.faults g.F.Folder.files g.F.Folder.faults g.C.Clock.moments) c.in-Some.serving.sessions c.in-Ok.engine.start _ _ _ c.serve.ensures) is (λ e. absurd (omega (arith, e))) (λ e. absurd (omega (arith, e))) (λ e. absurd (omega (arith, e))))

pub returns-in-Ok-clause-disk : goal.returns-in-Ok-clause-disk
returns-in-Ok-clause-disk g c = λ is.
    absurd (no_end _ 5 (served_kind (around g.L.Listener.inputs g.L.Listener.returned g.L.Listener.faults g.F.Folder.files g.F.Folder.faults g.C.Clock.moments) c.in-Some.serving.sessions c.in-Ok.engine.start _ _ _ c.serve.ensures) is (λ e. absurd (omega (arith, e))) (λ e. absurd (omega (arith, e))) (λ e. absurd (omega (arith, e))))

pub returns-in-Ok-clause-store : goal.returns-in-Ok-clause-store
returns-in-Ok-clause-store g c = λ is.
    absurd (no_end _ 6 (served_kind (around g.L.Listener.inputs g.L.Listener.returned g.L.Listener.faults g.F.Folder.files g.F.Folder.faults g.C.Clock.moments) c.in-Some.serving.sessions c.in-Ok.engine.start _ _ _ c.serve.ensures) is (λ e. absurd (omega (arith, e))) (λ e. absurd (omega (arith, e))) (λ e. absurd (omega (arith, e))))

pub returns-in-Ok-clause-disk_a : goal.returns-in-Ok-clause-disk_a
returns-in-Ok-clause-disk_a g c = λ is.
    absurd (no_end _ 2 (served_kind (around g.L.Listener.inputs g.L.Listener.returned g.L.Listener.faults g.F.Folder.files g.F.Folder.faults g.C.Clock.moments) c.in-Some.serving.sessions c.in-Ok.engine.start _ _ _ c.serve.ensures) is (λ e. absurd (omega (arith, e))) (λ e. absurd (omega (arith, e))) (λ e. absurd (omega (arith, e))))

pub returns-in-Ok-clause-disk_b : goal.returns-in-Ok-clause-disk_b
returns-in-Ok-clause-disk_b g c = λ is.
    absurd (no_end _ 2 (served_kind (around g.L.Listener.inputs g.L.Listener.returned g.L.Listener.faults g.F.Folder.files g.F.Folder.faults g.C.Clock.moments) c.in-Some.serving.sessions c.in-Ok.engine.start _ _ _ c.serve.ensures) is (λ e. absurd (omega (arith, e))) (λ e. absurd (omega (arith, e))) (λ e. absurd (omega (arith, e))))

pub returns-in-Ok-clause-listener : goal.returns-in-Ok-clause-listener
returns-in-Ok-clause-listener g c =
    served_listener g.L.Listener.inputs g.L.Listener.returned g.L.Listener.faults g.F.Folder.files g.F.Folder.faults g.C.Clock.moments c.in-Some.serving.sessions c.in-Ok.engine.start _ _ _ c.serve.ensures
    (sym c.args.folders.ok.0 ∙ c.requires.folders ∙ c.args.listeners.ok.0) (sym c.args.clocks.ok.0 ∙ c.requires.clocks ∙ c.args.listeners.ok.0)

pub returns-in-Ok-clause-ends : goal.returns-in-Ok-clause-ends
returns-in-Ok-clause-ends g c =
    served_ends g.L.Listener.inputs g.L.Listener.returned g.L.Listener.faults g.F.Folder.files g.F.Folder.faults g.C.Clock.moments c.in-Some.serving.sessions c.in-Ok.engine.start _ _ _ c.serve.ensures
    (sym c.args.folders.ok.0 ∙ c.requires.folders ∙ c.args.listeners.ok.0) (sym c.args.clocks.ok.0 ∙ c.requires.clocks ∙ c.args.listeners.ok.0)

pub returns-in-Ok-clause-listeners : goal.returns-in-Ok-clause-listeners
returns-in-Ok-clause-listeners g c =
    c.serve.result.listeners.ok.0 ∙ served_listeners g.L.Listener.inputs g.L.Listener.returned g.L.Listener.faults g.F.Folder.files g.F.Folder.faults g.C.Clock.moments c.in-Some.serving.sessions c.in-Ok.engine.start _ _ _ c.serve.ensures
    (sym c.args.folders.ok.0 ∙ c.requires.folders ∙ c.args.listeners.ok.0) (sym c.args.clocks.ok.0 ∙ c.requires.clocks ∙ c.args.listeners.ok.0) ∙ sym c.args.listeners.ok.0

pub returns-in-Ok-clause-folders : goal.returns-in-Ok-clause-folders
returns-in-Ok-clause-folders g c =
    c.serve.result.folders.ok.0 ∙ served_folders g.L.Listener.inputs g.L.Listener.returned g.L.Listener.faults g.F.Folder.files g.F.Folder.faults g.C.Clock.moments c.in-Some.serving.sessions c.in-Ok.engine.start _ _ _ c.serve.ensures
    (sym c.args.folders.ok.0 ∙ c.requires.folders ∙ c.args.listeners.ok.0) (sym c.args.clocks.ok.0 ∙ c.requires.clocks ∙ c.args.listeners.ok.0) ∙ sym c.args.folders.ok.0

pub returns-in-Err-clause-serves : goal.returns-in-Err-clause-serves
returns-in-Err-clause-serves g c =
    inr (
      c.in-Some.serving,
      c.in-Some.ensures.asked,
      inr (record {
        fault = c.in-Err.fault;
        unopened = unopened c.in-Err.fault _ _ (both_seen g.D.Disk.lies g.D.Disk.past g.D.Disk.faults c.in-Err.disk_a c.in-Err.disk_b)
            (disks_seen g.D.Disk.lies g.D.Disk.past g.D.Disk.faults _ _ _ _ c.end_with-in-Err.ensures.disk_a c.end_with-in-Err.ensures.disk_b)
            c.in-Err.ensures.kind c.in-Err.ensures.foreign c.in-Err.ensures.broken c.in-Err.ensures.cause c.in-Err.ensures.outage c.in-Err.ensures.held c.in-Err.ensures.went (ap (seen g.D.Disk.lies g.D.Disk.past g.D.Disk.faults) c.in-Err.ensures.disk_b);
        idle = record {
          no_ends = ap (λ v. v.items) c.end_with-in-Err.ensures.ends ∙ c.idle-in-Err.ensures.none.0;
          no_steps = c.end_with-in-Err.ensures.steps;
          no_calls = ap (λ v. v.items) c.end_with-in-Err.ensures.calls ∙ c.idle-in-Err.ensures.none.1;
          listeners_stay = ap (λ v. v.items) (c.end_with-in-Err.ensures.listeners ∙ c.idle-in-Err.ensures.listeners);
          folders_stay = ap (λ v. v.items) (c.end_with-in-Err.ensures.folders ∙ c.idle-in-Err.ensures.folders);
        };
        status_is = c.end_with-in-Err.ensures.status ∙ c.refused_status.ensures;
      }),
    )

pub returns-in-Err-clause-store : goal.returns-in-Err-clause-store
returns-in-Err-clause-store g c = opening_store c.in-Err.fault _ _ c.in-Err.ensures.kind c.in-Err.ensures.foreign c.in-Err.ensures.broken (c.end_with-in-Err.ensures.status ∙ c.refused_status.ensures)
