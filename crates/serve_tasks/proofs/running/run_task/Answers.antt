use Rattle.std.proofs.Common.{◌≤◌, ◌∷◌, ◌++◌, [], List, refl, sym, ap, ◌∙◌, subst, append-nil, append_assoc, le_trans, arith}
use Rattle.http_endpoint.specs.Answers.{Asked}
use Rattle.http_endpoint.proofs.ReadLemmas.{rose_earlier}
use Rattle.http_endpoint.proofs.TurnLemmas.{lead_more}
use Rattle.conn_tasks.specs.Polls.{PollState}
use Rattle.conn_tasks.specs.Tasks.{IsOn, is_live}
use Rattle.serve_tasks.proofs.running.run_task.Goals as goal

pub turns-init : goal.turns-init
turns-init g c = record {
  runs = ([], refl, λ first asked on. subst (λ (qs : List Asked). IsOn first qs c.args.task) (sym (append-nil asked)) on);
  live = c.requires.live;
  waits = omega arith;
  room = λ reading. c.requires.room;
}

pub poll_turn-requires : goal.poll_turn-requires
poll_turn-requires g c =
    let x = c.turns.invariant.runs in
    let r = c.requires.going in
    record { live = c.turns.invariant.live; going = (r.0, r.1 ++ x.0, r.2, x.2 r.0 r.1 r.3); room = c.turns.invariant.room }

pub returns-in-Pending : goal.returns-in-Pending
returns-in-Pending g c =
    let x = c.turns.invariant.runs in
    let r = c.requires.going in
    let t = c.in-Pending.ensures in (
      x.0,
      x.1,
      (
        t.mode,
        le_trans c.turns.invariant.waits t.waits,
        rose_earlier c.args.task.link.waits c.turns.task.link.waits c.poll_turn.new.self.link.waits c.turns.invariant.waits
            (t.turns r.0 (r.1 ++ x.0) (x.2 r.0 r.1 r.3)).1,
        λ first asked on. (t.turns first (asked ++ x.0) (x.2 first asked on)).0,
      ),
    )

pub turns-preserved-in-Check : goal.turns-preserved-in-Check
turns-preserved-in-Check g c =
    let x = c.turns.invariant.runs in
    let m = c.make_check.ensures.made in
    record {
      runs = (
        x.0 ++ m.0 ∷ [],
        lead_more g.K.Checks.answers c.args.checks.now c.turns.checks c.make_check.new.checks x.0 (m.0 ∷ []) x.1 m.1,
        λ first asked on.
            let y = c.in-Check.ensures.turns first (asked ++ x.0) (x.2 first asked on) in
            subst (λ (qs : List Asked). IsOn first qs c.make_check.new.task) (append_assoc asked x.0 (m.0 ∷ [])) (m.2 first (asked ++ x.0) y.1),
      );
      live = ap is_live c.make_check.ensures.mode;
      waits = le_trans c.turns.invariant.waits (subst (λ n. c.turns.task.link.waits ≤ n)
          (sym (ap (λ (l : PollState). l.waits) c.make_check.ensures.link)) c.in-Check.ensures.waits);
      room = λ reading. let writing = c.make_check.ensures.mode in absurd (cc);
    }

pub turns-preserved : goal.turns-preserved
turns-preserved g c =
    let x = c.turns.invariant.runs in
    let m = c.tell_stats.ensures.told in
    record {
      runs = (
        x.0 ++ m.0,
        lead_more g.K.Checks.answers c.args.checks.now c.turns.checks c.tell_stats.new.checks x.0 m.0 x.1 m.1,
        λ first asked on.
            let y = c.in-Stats.ensures.turns first (asked ++ x.0) (x.2 first asked on) in
            subst (λ (qs : List Asked). IsOn first qs c.tell_stats.new.task) (append_assoc asked x.0 m.0) (m.2 first (asked ++ x.0) y.1),
      );
      live = ap is_live c.tell_stats.ensures.mode;
      waits = le_trans c.turns.invariant.waits (subst (λ n. c.turns.task.link.waits ≤ n)
          (sym (ap (λ (l : PollState). l.waits) c.tell_stats.ensures.link)) c.in-Stats.ensures.waits);
      room = λ reading. let writing = c.tell_stats.ensures.mode in absurd (cc);
    }

pub returns-in-End : goal.returns-in-End
returns-in-End g c =
    let x = c.turns.invariant.runs in (
      x.0,
      x.1,
      (
        refl,
        λ first asked new on. record {
          old = first;
          new = c.poll_turn.new.self.link.link;
          unused = new;
          serves = (c.in-End.ensures.turns first (asked ++ x.0) (x.2 first asked on)).1;
          calls = c.shut.ensures.link.history ∙ ap (λ (l : PollState). l.link.history) c.into_link-link.ensures;
        },
      ),
    )
