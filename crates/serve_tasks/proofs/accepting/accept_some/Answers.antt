use Rattle.std.proofs.Common.{refl}
use Rattle.serve_tasks.specs.Links.{standing}
use Rattle.serve_tasks.proofs.Calls.{stayed, grew_more}
use Rattle.serve_tasks.proofs.Standings.{runs_none, runs_more}
use Rattle.serve_tasks.proofs.accepting.accept_some.Goals as goal

pub links-init : goal.links-init
links-init g c = record {
  runs = runs_none g.K.Checks.answers c.args.checks.now (standing c.args.links.now);
  accepts = λ start before x. x;
  within = c.requires.within;
  grew = stayed (g.Q.PollListen.history c.args.polls.now) (g.Q.PollListen.history c.args.polls.now) refl;
}

pub links-preserved : goal.links-preserved
links-preserved g c =
    let i = c.links.invariant in
    let o = c.in_ok-other.ensures in
    record {
      runs = runs_more g.K.Checks.answers c.args.checks.now c.links.checks c.accept_one.new.checks (standing c.args.links.now) (standing c.links.links)
          (standing c.accept_one.new.links) i.runs o.runs;
      accepts = λ start before x. (rw c.in-More.is at o.accepts) start before (i.accepts start before x);
      within = o.within;
      grew = grew_more (g.Q.PollListen.history c.args.polls.now) (g.Q.PollListen.history c.links.polls) (g.Q.PollListen.history c.accept_one.new.polls) i.grew o.grew;
    }

pub returns-in_default : goal.returns-in_default
returns-in_default g c =
    let i = c.links.invariant in
    let o = c.in_ok-other.ensures in
    record {
      runs = runs_more g.K.Checks.answers c.args.checks.now c.links.checks c.accept_one.new.checks (standing c.args.links.now) (standing c.links.links)
          (standing c.accept_one.new.links) i.runs o.runs;
      accepts = λ start before x. o.accepts start before (i.accepts start before x);
      within = o.within;
      grew = grew_more (g.Q.PollListen.history c.args.polls.now) (g.Q.PollListen.history c.links.polls) (g.Q.PollListen.history c.accept_one.new.polls) i.grew o.grew;
    }
