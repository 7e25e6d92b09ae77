use Rattle.std.proofs.Common.{◌≡◌, ⊎_elim, ℕ, None, get_or, refl, ◌∙◌, subst, arith}
use Rattle.conn_tasks.specs.declared.woke.Woke.TheVariants.{Listener, Link}
use Rattle.serve_tasks.specs.Links.{standing}
use Rattle.serve_tasks.proofs.Runs.{follows_same, follows_more, run_before, run_behind, told_of}
use Rattle.serve_tasks.proofs.Made.{same_or}
use Rattle.serve_tasks.proofs.Standings.{runs_none, runs_more, stand_again}
use Rattle.serve_tasks.proofs.rounds.run_woken.Goals as goal

pub things-init : goal.things-init
things-init g c = record {
  runs = runs_none g.K.Checks.answers c.args.checks.now (standing c.args.links.now);
  as_many = refl;
  others = λ k. follows_same (get_or c.args.links.now.tasks.items k None);
  run = λ i place is_closed less told. absurd (omega (arith, less));
}

pub run_one-requires : goal.run_one-requires
run_one-requires g c = record {
  stand = stand_again g.K.Checks.answers c.args.checks.now c.things.checks (standing c.args.links.now) (standing c.things.links) c.requires.stand
      c.things.invariant.runs;
}

pub things-preserved : goal.things-preserved
things-preserved g c =
    let told = g.Q.PollListen.told c.args.polls.now in
    let old = c.args.links.now.tasks.items in
    let mid = c.things.links.tasks.items in
    let new = c.run_one.new.links.tasks.items in
    let i = c.things.invariant in
    let o = c.run_one.ensures in
    record {
      runs = runs_more g.K.Checks.answers c.args.checks.now c.things.checks c.run_one.new.checks (standing c.args.links.now) (standing c.things.links)
          (standing c.run_one.new.links) i.runs o.runs;
      as_many = o.as_many ∙ i.as_many;
      others = λ k. follows_more (get_or old k None) (get_or mid k None) (get_or new k None) (i.others k) (o.others k);
      run = λ n place is_closed less at.
          ⊎_elim
          (λ (e : n ≡ c.things.index). run_behind (get_or old place None) (get_or mid place None) (get_or new place None) (i.others place)
          (c.in_ok-is_listener.ensures.run place (told_of told c.things.index place is_closed c.woke.result c.woke.ensures
          (omega (arith, c.things-test.true, c.requires.all)) (subst (λ (m : ℕ). get_or told m Listener ≡ Link place is_closed) e at))))
          (λ (other : n ≡ c.things.index → ⊥). run_before (get_or old place None) (get_or mid place None) (get_or new place None)
          (i.run n place is_closed (omega (arith, less, other)) at) (o.others place))
          (same_or n c.things.index);
    }

pub returns-clause-run : goal.returns-clause-run
returns-clause-run g c = λ place t. c.things.invariant.run t.0 place t.1 (omega (arith, t.2, c.requires.all, c.things-test.false)) t.3
