use Rattle.std.proofs.Common.{◌≡◌, ℕ, [], Some, length, sym, ap, ◌∙◌, subst, arith, vec_len}
use Rattle.std.proofs.lemmas.List.{length-map}
use Rattle.std.specs.List.{filter_map}
use Rattle.rate_io.specs.Causes.{Rose}
use Rattle.rate_io.specs.Listeners.{accepted_count, number_back}
use Rattle.http_serve.proofs.Events.{accepts_count, accepts_back}
use Rattle.serve_tasks.specs.Links.{standing}
use Rattle.serve_tasks.proofs.Calls.{grown, grew_more}
use Rattle.serve_tasks.proofs.Standings.{none_stand}
use Rattle.serve_tasks.proofs.Ends.{each_served, tasks_served, from_none, rounds_done, rounds_all, rounds_failed, handled_all}
use Rattle.serve_tasks.proofs.serving.serve_tasks.Goals as goal

pub filled-requires : goal.filled-requires
filled-requires g c =
    let Q = g.Q.PollListen in
    let l = c.serve_rounds.new.links in
    let e = c.in_ok-is_all.ensures in
    let none = c.no_links-links.ensures in
    let r = from_none g.K.Checks.answers c.args.checks.now c.serve_rounds.new.checks (standing c.no_links-links.result) (standing l) e.runs none.0 none.1 in
    let done = rounds_done c.args.connections (vec_len l.tasks) l.live (Q.history c.args.polls.now) (Q.history c.serve_rounds.new.polls)
    (Q.faults c.args.polls.now, Q.faults c.serve_rounds.new.polls) c.in_ok-is_all.is_all e.ends in
    each_served r.0 l.tasks.items l.served.items (r.2 [] none_stand) (sym l.counted ∙ done.0)

pub give_back-requires-clause-accepted : goal.give_back-requires-clause-accepted
give_back-requires-clause-accepted g c =
    let Q = g.Q.PollListen in
    let l = c.serve_rounds.new.links in
    let old = Q.history c.args.polls.now in
    let done = rounds_done c.args.connections (vec_len l.tasks) l.live old (Q.history c.serve_rounds.new.polls)
    (Q.faults c.args.polls.now, Q.faults c.serve_rounds.new.polls) c.in_ok-is_all.is_all c.in_ok-is_all.ensures.ends in
    let few = accepts_count old (vec_len l.tasks) c.in_ok-is_all.is_all in
    let same = ap accepted_count done.1 in
    let many = ap length c.in_ok-served.ensures in
    omega (arith, few, same, many, length-map c.in_ok-served.served.items Some, c.in_ok-served.served.ok.0, l.served.ok.0, l.as_many)

pub give_back-requires-clause-none_back : goal.give_back-requires-clause-none_back
give_back-requires-clause-none_back g c =
    let Q = g.Q.PollListen in
    let l = c.serve_rounds.new.links in
    let old = Q.history c.args.polls.now in
    let done = rounds_done c.args.connections (vec_len l.tasks) l.live old (Q.history c.serve_rounds.new.polls)
    (Q.faults c.args.polls.now, Q.faults c.serve_rounds.new.polls) c.in_ok-is_all.is_all c.in_ok-is_all.ensures.ends in
    ap (filter_map number_back) done.1 ∙ accepts_back old (vec_len l.tasks) c.in_ok-is_all.is_all c.requires.unused.none_back

pub give_back-requires-clause-numbered : goal.give_back-requires-clause-numbered
give_back-requires-clause-numbered g c =
    let Q = g.Q.PollListen in
    let l = c.serve_rounds.new.links in
    let e = c.in_ok-is_all.ensures in
    let none = c.no_links-links.ensures in
    let r = from_none g.K.Checks.answers c.args.checks.now c.serve_rounds.new.checks (standing c.no_links-links.result) (standing l) e.runs none.0 none.1 in
    let done = rounds_done c.args.connections (vec_len l.tasks) l.live (Q.history c.args.polls.now) (Q.history c.serve_rounds.new.polls)
    (Q.faults c.args.polls.now, Q.faults c.serve_rounds.new.polls) c.in_ok-is_all.is_all e.ends in
    (tasks_served g.K.Checks.answers c.args.checks.now c.serve_rounds.new.checks l.tasks.items l.served.items c.in_ok-served.served.items r (sym l.counted ∙ done.0)
    c.in_ok-served.ensures).0

pub returns-in_default : goal.returns-in_default
returns-in_default g c =
    let Q = g.Q.PollListen in
    let l = c.serve_rounds.new.links in
    let old = Q.history c.args.polls.now in
    let mid = Q.history c.serve_rounds.new.polls in
    let done = rounds_done c.args.connections (vec_len l.tasks) l.live old mid
    (Q.faults c.args.polls.now, Q.faults c.serve_rounds.new.polls) c.in_ok-is_all.is_all c.in_ok-is_all.ensures.ends in
    grew_more old mid (Q.history c.give_back.new.polls) (grown old mid _ done.1) c.give_back.ensures.grew

pub returns : goal.returns
returns g c =
    let Q = g.Q.PollListen in
    let l = c.serve_rounds.new.links in
    let ss = c.in_ok-served.served.items in
    let old = Q.history c.args.polls.now in
    let mid = Q.history c.serve_rounds.new.polls in
    let is_all = c.in_ok-is_all.is_all in
    let e = c.in_ok-is_all.ensures in
    let none = c.no_links-links.ensures in
    let r = from_none g.K.Checks.answers c.args.checks.now c.serve_rounds.new.checks (standing c.no_links-links.result) (standing l) e.runs none.0 none.1 in
    let faults : ℕ × ℕ = (Q.faults c.args.polls.now, Q.faults c.serve_rounds.new.polls) in
    let done = rounds_done c.args.connections (vec_len l.tasks) l.live old mid faults is_all e.ends in
    let many : vec_len l.tasks ≡ length ss =
    omega (arith, ap length c.in_ok-served.ensures, length-map ss Some, l.served.ok.0, l.as_many) in
    let t = tasks_served g.K.Checks.answers c.args.checks.now c.serve_rounds.new.checks l.tasks.items l.served.items ss r (sym l.counted ∙ done.0)
    c.in_ok-served.ensures in record {
      services = ss;
      each = record { numbered = t.0; served = t.1; handled = handled_all old mid (Q.history c.give_back.new.polls) (vec_len l.tasks) is_all ss done.1 c.in-Ok.ensures.events many };
      ends_are = c.in-Ok.ensures.ends;
      all = λ e'. sym many ∙ rounds_all c.args.connections (vec_len l.tasks) l.live old mid faults is_all e.ends e';
      failed = λ e'.
          let f = rounds_failed c.args.connections (vec_len l.tasks) l.live old mid faults is_all e.ends e' in
          (omega (arith, many, f.0), subst (λ (n : ℕ). Rose (Q.faults c.args.polls.now) n) (sym c.in-Ok.ensures.faults) f.1);
    }
