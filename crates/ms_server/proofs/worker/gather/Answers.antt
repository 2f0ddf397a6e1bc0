use Rattle.std.proofs.Common.{rules, ◌≡◌, ◌∙◌, ap, subst, sym, arith, take, vec_len, length}
use Rattle.turn_lock.specs.Passes.{caller_of, seen_of, joined_of}
use Rattle.ms_server.specs.Crews.{AllJoined, Ran}
use Rattle.ms_server.specs.Visits.{around}
use Rattle.ms_server.proofs.Joining.{joined_more, joined_none, steps_more, steps_none}
use Rattle.ms_server.proofs.Placing.{PlacedFrom, placed_behind, placed_from, placed_head}
use Rattle.ms_server.proofs.worker.gather.Goals as goal

pub loop-worker-init : goal.loop-worker-init
loop-worker-init g c =
    let ar = around g.L.Listener.inputs g.L.Listener.returned g.L.Listener.faults g.F.Folder.files g.F.Folder.faults g.K.Clock.moments in
    let posts = c.args._posts.now.value.items in
    let crew = c.args.crew.now in
    let none : vec_len crew.done ≡ 0 = crew.done.ok.0 ∙ ap (λ l. length l) c.requires.none.0 in
    record {
      same = search rules;
      past = search rules;
      inside = search rules;
      room = search rules;
      splits = search rules;
      joins = search rules;
      len = omega (arith, none, c.requires.len);
      ran = subst (λ n. PlacedFrom n (λ k w. Ran ar c.args._sessions posts k (caller_of w.desk.pass) w.post w.status (seen_of w.desk.pass)) c.args.workers.items) (sym none) (placed_from (λ k w. Ran ar c.args._sessions posts k (caller_of w.desk.pass) w.post w.status (seen_of w.desk.pass)) c.args.workers.items c.requires.ran);
      joined = joined_none ar c.args._sessions posts (vec_len crew.done) (joined_of c.args.first.now) crew.done.items none c.requires.none.2 c.requires.none.0;
      steps = steps_none crew.steps (joined_of c.args.first.now) c.requires.none.1 c.requires.none.2;
    }

pub loop-worker-preserved : goal.loop-worker-preserved
loop-worker-preserved g c =
    let ar = around g.L.Listener.inputs g.L.Listener.returned g.L.Listener.faults g.F.Folder.files g.F.Folder.faults g.K.Clock.moments in
    let posts = c.args._posts.now.value.items in
    let i = c.loop-worker.invariant in
    let workers = c.loop-worker.workers in
    let rest = c.pop_front.new.self in
    let worker = c.in-Some.worker in
    let done = c.loop-worker.crew.done in
    let e = c.end-done.ensures in
    let here = placed_head (vec_len done) (λ k w. Ran ar c.args._sessions posts k (caller_of w.desk.pass) w.post w.status (seen_of w.desk.pass)) workers.items rest.items worker i.ran c.in-Some.ensures.items in
    record {
      same = search rules;
      past = search rules;
      inside = search rules;
      room = search rules;
      splits = search rules;
      joins = search rules;
      len = search rules;
      ran = subst (λ n. PlacedFrom n (λ k w. Ran ar c.args._sessions posts k (caller_of w.desk.pass) w.post w.status (seen_of w.desk.pass)) rest.items) (sym c.push_reserved.ensures.len)
          (placed_behind (vec_len done) (λ k w. Ran ar c.args._sessions posts k (caller_of w.desk.pass) w.post w.status (seen_of w.desk.pass)) workers.items rest.items worker i.ran c.in-Some.ensures.items);
      joined = subst (λ n. AllJoined ar c.args._sessions 1 (take n posts) (joined_of c.end-done.new.first) c.push_reserved.new.self.items) (sym c.push_reserved.ensures.len)
          (joined_more ar c.args._sessions posts (vec_len done) (caller_of worker.desk.pass) worker.status c.end-done.result.1 worker.post (seen_of worker.desk.pass) (joined_of c.loop-worker.first) (joined_of c.end-done.new.first) done.items c.push_reserved.new.self.items c.end-done.result.0
          (omega (arith, i.len, c.in-Some.ensures.len)) done.ok.0 i.joined e.joined here e.caller e.calls e.status e.post c.push_reserved.ensures.items);
      steps = steps_more c.loop-worker.crew.steps (caller_of worker.desk.pass) c.end-done.result.1 (seen_of worker.desk.pass) (joined_of c.loop-worker.first) (joined_of c.end-done.new.first) e.joined i.steps;
    }
