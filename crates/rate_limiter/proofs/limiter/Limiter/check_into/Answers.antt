use Rattle.std.proofs.Common.{◌∙◌, List, [], refl, sym, subst, ap, arith}
use Rattle.config_versions.specs.Passes.{pass_state, versions_of}
use Rattle.counter_cells.specs.declared.view.CellView.{CellView}
use Rattle.counter_directory.specs.Passes.{DirectoryPassView}
use Rattle.rule_lookup.specs.declared.found.Found.{Found}
use Rattle.rate_limiter.specs.Asked.{founds}
use Rattle.rate_limiter.specs.Counted.{HasAnswered}
use Rattle.rate_limiter.specs.Counters.{CountersView, pass_with}
use Rattle.rate_limiter.specs.Names.{names_under, name_keys}
use Rattle.rate_limiter.specs.Passes.{LimiterId, PassView, bounds_of}
use Rattle.rate_limiter.specs.Used.{HasUsed}
use Rattle.rate_limiter.proofs.FirstUses.{planned_uses, refused_uses, early_uses}
use Rattle.rate_limiter.proofs.Planned.{IsPlanned, planned_of, planned_limiter}
use Rattle.rate_limiter.proofs.Results.{not_both}
use Rattle.rate_limiter.proofs.Resting.{planned_turn, planned_pin, no_turn_at_all, no_pin_at_all}
use Rattle.rate_limiter.proofs.Stepping.{Still, early, refused_early, refused_of, step_of, answered_still}
use Rattle.rate_limiter.proofs.Using.{uses_then}
use Rattle.rate_limiter.proofs.limiter.Limiter.check_into.Given.{Over}
use Rattle.rate_limiter.proofs.limiter.Limiter.check_into.Goals as goal

pub returns-in_err-renew-clause-step : goal.returns-in_err-renew-clause-step
returns-in_err-renew-clause-step g c =
    let limiter = c.args.self.now in
    let request = c.args.request.now in
    let p = c.args.pass.now in
    let q = c.renew.new.pass in
    let s = c.in_err-renew.ensures.stayed in
    let v = s.version in
    early (bounds_of g.N.CellNaming.setup.cells limiter) limiter request c.args.now p q c.from_residual.result c.args.reply.now c.from_residual.ensures
    (refused_early limiter request c.args.now p c.tick.new.pass q q c.tick.ensures.offered c.tick.ensures.rest c.renew.ensures.rest
    refl c.renew.ensures.bare (omega (arith, v)) s.knows s.own)

pub returns-in_err-renew-clause-turns : goal.returns-in_err-renew-clause-turns
returns-in_err-renew-clause-turns g c =
    no_turn_at_all c.args.request.now c.tick.result c.args.now c.args.pass.now c.tick.new.pass c.renew.new.pass c.renew.new.pass c.tick.ensures.ticked c.tick.ensures.rest
    c.renew.ensures.rest refl

pub returns-in_err-renew-clause-pins : goal.returns-in_err-renew-clause-pins
returns-in_err-renew-clause-pins g c =
    no_pin_at_all c.args.request.now c.tick.result c.args.now c.args.pass.now c.tick.new.pass c.renew.new.pass c.renew.new.pass c.tick.ensures.ticked c.tick.ensures.rest
    c.renew.ensures.rest refl refl

pub returns-in_err-renew-clause-known : goal.returns-in_err-renew-clause-known
returns-in_err-renew-clause-known g c =
    early_uses c.args.request.now c.args.pass.now c.renew.new.pass c.from_residual.result c.args.reply.now c.from_residual.ensures
    (ap (λ (y : PassView). y.known) c.renew.ensures.rest ∙ ap (λ (y : PassView). y.known) c.tick.ensures.rest)

pub hold-requires-clause-pass : goal.hold-requires-clause-pass
hold-requires-clause-pass g c =
    ap (λ (u : CountersView). u.claims.list_id) c.plan.ensures.rest ∙ ap (λ (x : PassView). x.limiter.claims) c.pass.view_is
    ∙ ap (λ (x : PassView). x.limiter.claims) c.renew.ensures.rest ∙ ap (λ (x : PassView). x.limiter.claims) c.tick.ensures.rest ∙ ap (λ (l : LimiterId). l.claims) c.requires.pass

-- where the counters are held
module _ (g : Over) (c : goal.After-pass-in-Ok-1 g) where
  abbrev fs : List Found
  fs = founds c.plan.new.scratch.asked.items

  planned : IsPlanned c.args.request.now c.args.now c.args.pass.now (versions_of c.pass.inside.version) (pass_state c.pass.inside.version) c.pass.inside.counters
      c.plan.new.counters c.pass.inside.refused fs
  planned =
      planned_of c.args.request.now c.args.now c.args.pass.now c.tick.new.pass c.renew.new.pass (versions_of c.pass.inside.version) (pass_state c.pass.inside.version)
      c.pass.inside.counters c.plan.new.counters c.pass.inside.refused fs c.pass.view_is c.tick.result c.tick.ensures.ticked c.tick.ensures.offered c.tick.ensures.rest
      c.in_ok-renew.ensures.renewed c.renew.ensures.rest c.plan.ensures.rest c.plan.ensures.same c.index-index.result.now c.index-index.ensures.same c.plan.ensures.founds

  answered : HasAnswered c.args.self.now c.version.result c.args.request.now fs c.answer.new.reply c.hold.new.counters c.answer.new.counters
  answered =
      subst (λ (l : List Found). HasAnswered c.args.self.now c.version.result c.args.request.now l c.answer.new.reply c.hold.new.counters c.answer.new.counters)
      (ap founds c.as_slice.ensures.value ∙ c.in-Ok.ensures.held.founds_are) c.answer.ensures

  still : Still c.hold.new.counters.cells c.answer.new.counters.cells
  still = answered_still c.args.self.now c.args.request.now fs c.answer.new.reply c.version.result c.hold.new.counters c.answer.new.counters answered

pub returns-in-Ok-clause-step : goal.returns-in-Ok-clause-step
returns-in-Ok-clause-step g c =
    let id = planned_limiter c.args.request.now c.args.now c.args.pass.now (versions_of c.pass.inside.version) (pass_state c.pass.inside.version) c.pass.inside.counters
    c.plan.new.counters c.pass.inside.refused (fs g c) (planned g c) ∙ c.requires.pass in
    step_of c.args.self.now c.args.request.now (fs g c) c.answer.new.reply c.version.result c.hold.new.counters c.answer.new.counters (answered g c) c.args.now c.args.pass.now
    (versions_of c.pass.inside.version) (pass_state c.pass.inside.version) c.pass.inside.counters c.plan.new.counters c.pass.inside.refused (planned g c)
    g.N.CellNaming.setup.cells c.hold.new.scratch.asked.items c.hold.new.scratch.acquired.spots.items c.in-Ok.ensures.held c.version.ensures
    (c.hold.ensures.pass ∙ sym (ap (λ (l : LimiterId). l.claims) id))

pub returns-in-Ok-clause-turns : goal.returns-in-Ok-clause-turns
returns-in-Ok-clause-turns g c =
    let waited = c.in-Ok.ensures.held.waited.ticked in
    planned_turn c.args.request.now c.args.now c.args.pass.now (versions_of c.pass.inside.version) (pass_state c.pass.inside.version) c.pass.inside.counters c.plan.new.counters
    c.pass.inside.refused (fs g c) (planned g c) c.answer.new.counters c.pass.inside.refused waited.added ((still g c).ticks ∙ waited.ticks)
    (λ knows others. ap (λ (t : DirectoryPassView). t.claims) (answered g c).claims ∙ c.hold.ensures.turns knows (sym (still g c).others ∙ others))

pub returns-in-Ok-clause-pins : goal.returns-in-Ok-clause-pins
returns-in-Ok-clause-pins g c =
    let waited = c.in-Ok.ensures.held.waited.ticked in
    planned_pin c.args.request.now c.args.now c.args.pass.now (versions_of c.pass.inside.version) (pass_state c.pass.inside.version) c.pass.inside.counters c.plan.new.counters
    c.pass.inside.refused (fs g c) (planned g c) c.answer.new.counters c.pass.inside.refused waited.added ((still g c).ticks ∙ waited.ticks)
    (λ over.
    let none = (c.hold.ensures.over over).1 in
    ((still g c).pins ∙ ap (λ (y : CellView). y.pairs) none, (still g c).others ∙ ap (λ (y : CellView). y.others) none))

pub returns-in-Ok-clause-known : goal.returns-in-Ok-clause-known
returns-in-Ok-clause-known g c =
    let request = c.args.request.now in
    let waited = c.in-Ok.ensures.held.waited.ticked in
    let v = c.plan.new.counters in
    let w = c.hold.new.counters in
    let x = c.answer.new.counters in
    let names = names_under request request.descriptors (fs g c) in
    let moment = sym (still g c).moment in
    planned_uses request c.args.now c.args.pass.now (versions_of c.pass.inside.version) (pass_state c.pass.inside.version) c.pass.inside.counters v c.pass.inside.refused (fs g c)
    (planned g c) x c.pass.inside.refused waited.added ((still g c).ticks ∙ waited.ticks) c.plan.ensures.order
    (uses_then (name_keys x.cells.moment names) v.known w.known x.known (subst (λ m. HasUsed [] (name_keys m names) v.known w.known) moment c.hold.ensures.uses)
    (subst (λ m. HasUsed [] (name_keys m names) w.known x.known) moment (answered g c).uses))

-- where they aren't
module _ (g : Over) (c : goal.After-refuse g) where
  abbrev rules : List Found
  rules = founds c.plan.new.scratch.asked.items

  refused_plan : IsPlanned c.args.request.now c.args.now c.args.pass.now (versions_of c.pass.inside.version) (pass_state c.pass.inside.version) c.pass.inside.counters
      c.plan.new.counters c.pass.inside.refused rules
  refused_plan =
      planned_of c.args.request.now c.args.now c.args.pass.now c.tick.new.pass c.renew.new.pass (versions_of c.pass.inside.version) (pass_state c.pass.inside.version)
      c.pass.inside.counters c.plan.new.counters c.pass.inside.refused rules c.pass.view_is c.tick.result c.tick.ensures.ticked c.tick.ensures.offered c.tick.ensures.rest
      c.in_ok-renew.ensures.renewed c.renew.ensures.rest c.plan.ensures.rest c.plan.ensures.same c.index-index.result.now c.index-index.ensures.same c.plan.ensures.founds

pub returns-in-Err-clause-step : goal.returns-in-Err-clause-step
returns-in-Err-clause-step g c =
    let id = planned_limiter c.args.request.now c.args.now c.args.pass.now (versions_of c.pass.inside.version) (pass_state c.pass.inside.version) c.pass.inside.counters
    c.plan.new.counters c.pass.inside.refused (rules g c) (refused_plan g c) ∙ c.requires.pass in
    refused_of c.args.self.now c.args.request.now c.args.now c.args.pass.now (versions_of c.pass.inside.version) (pass_state c.pass.inside.version) c.pass.inside.counters
    c.plan.new.counters c.pass.inside.refused (rules g c) (refused_plan g c) (bounds_of g.N.CellNaming.setup.cells c.args.self.now) c.hold.new.counters c.in-Err.fault
    c.refuse.new.refused c.refuse.result c.in-Err.ensures.refused (c.hold.ensures.pass ∙ sym (ap (λ (l : LimiterId). l.claims) id)) c.refuse.ensures.refused
    c.refuse.ensures.fault

pub returns-in-Err-clause-turns : goal.returns-in-Err-clause-turns
returns-in-Err-clause-turns g c =
    let waited = c.in-Err.ensures.refused.waited.ticked in
    planned_turn c.args.request.now c.args.now c.args.pass.now (versions_of c.pass.inside.version) (pass_state c.pass.inside.version) c.pass.inside.counters c.plan.new.counters
    c.pass.inside.refused (rules g c) (refused_plan g c) c.hold.new.counters c.refuse.new.refused waited.added waited.ticks c.hold.ensures.turns

pub returns-in-Err-clause-pins : goal.returns-in-Err-clause-pins
returns-in-Err-clause-pins g c =
    let waited = c.in-Err.ensures.refused.waited.ticked in
    planned_pin c.args.request.now c.args.now c.args.pass.now (versions_of c.pass.inside.version) (pass_state c.pass.inside.version) c.pass.inside.counters c.plan.new.counters
    c.pass.inside.refused (rules g c) (refused_plan g c) c.hold.new.counters c.refuse.new.refused waited.added waited.ticks
    (λ over. absurd (not_both c.hold.result c.in-Err.fault c.in-Err.is (c.hold.ensures.over over).0))

pub returns-in-Err-clause-known : goal.returns-in-Err-clause-known
returns-in-Err-clause-known g c =
    let request = c.args.request.now in
    let versions = versions_of c.pass.inside.version in
    let version = pass_state c.pass.inside.version in
    let waited = c.in-Err.ensures.refused.waited.ticked in
    let w = c.hold.new.counters in
    refused_uses request c.args.pass.now (pass_with versions version w c.refuse.new.refused) c.in-Err.fault c.refuse.result c.refuse.ensures.fault
    (planned_uses request c.args.now c.args.pass.now versions version c.pass.inside.counters c.plan.new.counters c.pass.inside.refused (rules g c) (refused_plan g c) w
    c.refuse.new.refused waited.added waited.ticks c.plan.ensures.order c.hold.ensures.uses)
