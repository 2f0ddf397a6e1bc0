use Rattle.std.proofs.Common.{rules, ◌≡◌, ◌+◌, ◌∙◌, ap, subst, sym, vec_len}
use Rattle.std.specs.Prelude.{slice_index_or}
use Rattle.turn_lock.specs.Passes.{caller_of, seen_of}
use Rattle.ms_server.specs.Crews.{Ready}
use Rattle.ms_server.proofs.Placing.{Taken, next_at, placed_pushed, taken_one}
use Rattle.ms_server.proofs.crew.line_up.Goals as goal

pub loop-post-preserved : goal.loop-post-preserved
loop-post-preserved g c =
    let i = c.loop-post.invariant in
    let posts = c.args._posts.now.value.items in
    let workers = c.loop-post.workers in
    let made = c.split-pass.ensures.newcomer in
    record {
      same = search rules;
      inside = search rules;
      past = search rules;
      splits = search rules;
      joins = search rules;
      joined = search rules;
      place = search rules;
      len = search rules;
      room = search rules;
      taken = subst (λ n. Taken posts c.pop_front.new.self.items n) (sym c.push_reserved.ensures.len) (taken_one posts c.loop-post.posts.items c.pop_front.new.self.items c.in-Some.post (vec_len workers) i.taken c.in-Some.ensures.items);
      ready = placed_pushed (λ k w. Ready posts k (caller_of w.desk.pass) w.post (seen_of w.desk.pass)) workers.items c.push_reserved.new.self.items _ c.push_reserved.ensures.items i.ready
          (record {
            caller_is = ap (λ p. caller_of p) c.new.ensures.pass ∙ made.caller_is ∙ ap (λ n. n + 1) (i.splits ∙ workers.ok.0);
            seen_none = ap (λ p. seen_of p) c.new.ensures.pass ∙ ap (λ p. p.seen) (made.past_is) ∙ ap (λ p. p.seen) i.past ∙ c.requires.fresh.0;
            post_is = λ d. subst (λ n. c.in-Some.post ≡ slice_index_or posts n d) workers.ok.0 (next_at posts c.loop-post.posts.items c.pop_front.new.self.items c.in-Some.post (vec_len workers) i.taken c.in-Some.ensures.items d);
          });
    }
