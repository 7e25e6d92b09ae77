use Rattle.std.proofs.Common.{◌≡◌, ◌∙◌, List, [], length, map, false, refl, sym, subst, ap}
use Rattle.std.specs.Prelude.{Err}
use Rattle.std.specs.List.{list_any}
use Rattle.std.proofs.lemmas.List.{append-nil}
use Rattle.config_versions.specs.Passes.{pass_state, versions_of}
use Rattle.counter_cells.specs.declared.view.CellView.{CellView}
use Rattle.counter_directory.specs.Passes.{DirectoryPassView}
use Rattle.rls_core.specs.Reply.{found_for}
use Rattle.rule_lookup.specs.declared.found.Found.{Found}
use Rattle.rate_limiter.specs.Asked.{AreAsked, AreHeld, AreThere, IsNotHeld, NoneMissing, is_to_count, founds}
use Rattle.rate_limiter.specs.Counted.{HasAnswered}
use Rattle.rate_limiter.specs.Counters.{CountersView, pass_with}
use Rattle.rate_limiter.specs.Known.{SameSpots}
use Rattle.rate_limiter.specs.Opens.{Opens}
use Rattle.rate_limiter.specs.PassStep.{IsPassStep}
use Rattle.rate_limiter.specs.Pinned.{SameButPins}
use Rattle.rate_limiter.specs.Sought.{KnowsUnder, HasMissCause}
use Rattle.rate_limiter.specs.declared.asked.Asked.{Asked}
use Rattle.rate_limiter.specs.declared.not_open.NotOpen.{NotOpen}
use Rattle.rate_limiter.proofs.AskedCounters.{there_of, knows_of, cause_of, over_known, over_none}
use Rattle.rate_limiter.specs.Names.{names_under, name_keys}
use Rattle.rate_limiter.specs.Used.{HasUsed}
use Rattle.rate_limiter.proofs.FirstUses.{planned_uses, never_used}
use Rattle.rate_limiter.proofs.HeldCounters.{held_known}
use Rattle.rate_limiter.proofs.Knowing.{spots_same}
use Rattle.rate_limiter.proofs.Noting.{knows_still}
use Rattle.rate_limiter.proofs.Opening.{offered_so, ticks_so, planned_open, stayed_open, knows_first, opens_not, cause_since}
use Rattle.rate_limiter.proofs.Planned.{IsPlanned}
use Rattle.rate_limiter.proofs.Resting.{planned_pin}
use Rattle.rate_limiter.proofs.Seeking.{spots_then}
use Rattle.rate_limiter.proofs.Stepping.{step_of, answered_still}
use Rattle.rate_limiter.proofs.Using.{uses_none, uses_then}
use Rattle.rate_limiter.proofs.limiter.Limiter.check_open_into.Given.{Over}
use Rattle.rate_limiter.proofs.limiter.Limiter.check_open_into.Goals as goal

pub hold_known-requires-clause-there : goal.hold_known-requires-clause-there
hold_known-requires-clause-there g c =
    let cells = g.N.CellNaming.setup.cells in
    let v = c.plan.new.counters in
    subst (λ (l : List Asked). AreThere cells v.cells.pairs l) (sym c.as_slice.ensures.value)
    (there_of cells c.args.request.now v c.plan.new.scratch.asked.items c.plan.ensures.asked)

pub answer-requires-clause-asked : goal.answer-requires-clause-asked
answer-requires-clause-asked g c =
    let cells = g.N.CellNaming.setup.cells in
    let request = c.args.request.now in
    let w = c.hold_known.new.counters in
    let asked = c.plan.new.scratch.asked.items in
    let spots = c.hold_known.new.held.items in
    let held_all : AreHeld cells asked spots w.cells = subst (λ (l : List Asked). AreHeld cells l spots w.cells) c.as_slice.ensures.value c.in-Ok.ensures.held in
    let held = held_known cells request c.plan.new.counters w asked spots c.plan.ensures.asked c.hold_known.ensures.rest c.hold_known.ensures.same c.hold_known.ensures.pins
    held_all in
    subst (λ (l : List Asked). AreAsked cells request w l) (sym c.as_slice-in-Ok.ensures.value) held.asked_are

pub returns-in-Some-clause-known : goal.returns-in-Some-clause-known
returns-in-Some-clause-known g c = never_used c.args.request.now c.args.pass.now c.newer_version.new.pass c.newer_version.ensures.rest

-- where the counters aren't held
module _ (g : Over) (c : goal.After-of g) where
  abbrev rules : List Found
  rules = founds c.plan.new.scratch.asked.items

  rules_are : rules ≡ map (found_for (pass_state c.pass.inside.version).index c.args.request.now) c.args.request.now.descriptors
  rules_are = c.plan.ensures.founds ∙ (λ i. map (found_for (c.index-index.ensures.same i) c.args.request.now) c.args.request.now.descriptors)

pub returns-in-Err-clause-step : goal.returns-in-Err-clause-step
returns-in-Err-clause-step g c =
    let request = c.args.request.now in
    let now = c.args.now in
    let p = c.args.pass.now in
    let p1 = c.newer_version.new.pass in
    let version = pass_state c.pass.inside.version in
    let versions = versions_of c.pass.inside.version in
    let u = c.pass.inside.counters in
    let v = c.plan.new.counters in
    let w = c.hold_known.new.counters in
    let n = c.pass.inside.refused in
    let loads = c.newer_version.ensures.rest in
    let offered = offered_so request now p p1 c.tick.new.pass versions version u v n c.pass.view_is loads c.tick.ensures.offered c.tick.ensures.rest in
    let ticks = ticks_so request now p p1 c.tick.new.pass versions version u v n c.pass.view_is loads c.tick.ensures.offered c.tick.ensures.rest in
    let cells_are : v.cells ≡ u.cells = ap (λ (y : CountersView). y.cells) c.plan.ensures.rest in
    let claims_are : w.claims ≡ u.claims = ap (λ (y : CountersView). y.claims) c.hold_known.ensures.rest ∙ ap (λ (y : CountersView). y.claims) c.plan.ensures.rest in
    let since : SameSpots v.known u.known = λ key. sym (spots_same u.known v.known c.plan.ensures.same key) in
    let known : SameSpots u.known w.known
    = subst (SameSpots u.known) (sym (ap (λ (y : CountersView). y.known) c.hold_known.ensures.rest)) (spots_same u.known v.known c.plan.ensures.same) in
    let q = pass_with versions version w n in
    let m = c.in-Err.missed in
    let cause : HasMissCause request v.cells.moment v.known request.descriptors (rules g c) m v.cells w.cells
    = cause_of g.N.CellNaming.setup.cells request v c.plan.new.scratch.asked.items c.plan.ensures.asked m w.cells
    (subst (λ (l : List Asked). IsNotHeld l m v.cells w.cells) c.as_slice.ensures.value c.in-Err.ensures.missed) in
    let cause_before : HasMissCause request u.cells.moment u.known request.descriptors (rules g c) m u.cells w.cells
    = cause_since request u.cells.moment u.known v.known request.descriptors (rules g c) m u.cells w.cells since
    (subst (λ (y : CellView). HasMissCause request y.moment v.known request.descriptors (rules g c) m y w.cells) cells_are cause) in
    let pins : SameButPins u.cells w.cells = subst (λ (y : CellView). SameButPins y w.cells) cells_are c.hold_known.ensures.same in
    subst (λ (e : NotOpen). Opens c.args.self.now request now p (Err e) q) (sym c.of.ensures)
    (opens_not now p p1 (pass_with versions version u n) loads offered ticks q (ap (λ (t : DirectoryPassView). record { claims = t.list_id; versions = versions }) claims_are) refl
    (ap (λ (t : DirectoryPassView). t.claims) claims_are) known refl c.newer_version.ensures.loaded c.in_default.ensures.answer request pins.moment (rules g c) (rules_are g c)
    c.args.self.now m pins c.in-Err.ensures.bare cause_before)

pub returns-in-Err-clause-pins : goal.returns-in-Err-clause-pins
returns-in-Err-clause-pins g c =
    let cells = g.N.CellNaming.setup.cells in
    let request = c.args.request.now in
    let v = c.plan.new.counters in
    let n = c.pass.inside.refused in
    let asked = c.plan.new.scratch.asked.items in
    let versions = versions_of c.pass.inside.version in
    let version = pass_state c.pass.inside.version in
    let planned = planned_open request c.args.now c.args.pass.now c.newer_version.new.pass c.tick.new.pass versions version c.pass.inside.counters v n c.pass.view_is
    c.newer_version.ensures.rest c.tick.ensures.offered c.tick.ensures.rest c.tick.result c.tick.ensures.ticked c.newer_version.ensures.loaded c.newer_version.ensures.at
    c.in_default.ensures.answer c.plan.ensures.rest c.plan.ensures.same (rules g c) (rules_are g c) in
    planned_pin request c.args.now c.args.pass.now versions version c.pass.inside.counters v n (rules g c) planned c.hold_known.new.counters n []
    (c.hold_known.ensures.same.ticks ∙ sym (append-nil v.cells.ticks))
    (λ over.
    let none = (c.hold_known.ensures.over
    (subst (λ (l : List Asked). NoneMissing (length l) l) (sym c.as_slice.ensures.value) (over_known cells request v asked c.plan.ensures.asked over))
    (subst (λ (l : List Asked). list_any (λ (a : Asked). is_to_count a.found a.hits a.known) l ≡ false) (sym c.as_slice.ensures.value)
    (over_none cells request v asked c.plan.ensures.asked over))).1 in
    (ap (λ (y : CountersView). y.cells.pairs) none, ap (λ (y : CountersView). y.cells.others) none))

pub returns-in-Err-clause-known : goal.returns-in-Err-clause-known
returns-in-Err-clause-known g c =
    let request = c.args.request.now in
    let v = c.plan.new.counters in
    let w = c.hold_known.new.counters in
    let n = c.pass.inside.refused in
    let versions = versions_of c.pass.inside.version in
    let version = pass_state c.pass.inside.version in
    let planned = planned_open request c.args.now c.args.pass.now c.newer_version.new.pass c.tick.new.pass versions version c.pass.inside.counters v n c.pass.view_is
    c.newer_version.ensures.rest c.tick.ensures.offered c.tick.ensures.rest c.tick.result c.tick.ensures.ticked c.newer_version.ensures.loaded c.newer_version.ensures.at
    c.in_default.ensures.answer c.plan.ensures.rest c.plan.ensures.same (rules g c) (rules_are g c) in
    planned_uses request c.args.now c.args.pass.now versions version c.pass.inside.counters v n (rules g c) planned w n [] (c.hold_known.ensures.same.ticks ∙ sym (append-nil v.cells.ticks))
    c.plan.ensures.order
    (uses_none (name_keys w.cells.moment (names_under request request.descriptors (rules g c))) v.known w.known (ap (λ (y : CountersView). y.known) c.hold_known.ensures.rest))

-- where they are
module _ (g : Over) (c : goal.After-pass-in-Ok-1 g) where
  abbrev fs : List Found
  fs = founds c.plan.new.scratch.asked.items

  fs_are : fs ≡ map (found_for (pass_state c.pass.inside.version).index c.args.request.now) c.args.request.now.descriptors
  fs_are = c.plan.ensures.founds ∙ (λ i. map (found_for (c.index-index.ensures.same i) c.args.request.now) c.args.request.now.descriptors)

  planned : IsPlanned c.args.request.now c.args.now c.args.pass.now (versions_of c.pass.inside.version) (pass_state c.pass.inside.version) c.pass.inside.counters
      c.plan.new.counters c.pass.inside.refused fs
  planned =
      planned_open c.args.request.now c.args.now c.args.pass.now c.newer_version.new.pass c.tick.new.pass (versions_of c.pass.inside.version) (pass_state c.pass.inside.version)
      c.pass.inside.counters c.plan.new.counters c.pass.inside.refused c.pass.view_is c.newer_version.ensures.rest c.tick.ensures.offered c.tick.ensures.rest c.tick.result
      c.tick.ensures.ticked c.newer_version.ensures.loaded c.newer_version.ensures.at c.in_default.ensures.answer c.plan.ensures.rest c.plan.ensures.same fs fs_are

  answered : HasAnswered c.args.self.now c.version.result c.args.request.now fs c.answer.new.reply c.hold_known.new.counters c.answer.new.counters
  answered =
      subst (λ (l : List Found). HasAnswered c.args.self.now c.version.result c.args.request.now l c.answer.new.reply c.hold_known.new.counters c.answer.new.counters)
      (ap founds c.as_slice-in-Ok.ensures.value) c.answer.ensures

pub returns-in-Ok-clause-step : goal.returns-in-Ok-clause-step
returns-in-Ok-clause-step g c =
    let cells = g.N.CellNaming.setup.cells in
    let limiter = c.args.self.now in
    let request = c.args.request.now in
    let ds = request.descriptors in
    let now = c.args.now in
    let p = c.args.pass.now in
    let p1 = c.newer_version.new.pass in
    let version = pass_state c.pass.inside.version in
    let versions = versions_of c.pass.inside.version in
    let u = c.pass.inside.counters in
    let v = c.plan.new.counters in
    let w = c.hold_known.new.counters in
    let x = c.answer.new.counters in
    let n = c.pass.inside.refused in
    let p2 = pass_with versions version u n in
    let q = pass_with versions version x n in
    let loads = c.newer_version.ensures.rest in
    let loaded = c.newer_version.ensures.loaded in
    let newest = c.in_default.ensures.answer in
    let offered = offered_so request now p p1 c.tick.new.pass versions version u v n c.pass.view_is loads c.tick.ensures.offered c.tick.ensures.rest in
    let ticks = ticks_so request now p p1 c.tick.new.pass versions version u v n c.pass.view_is loads c.tick.ensures.offered c.tick.ensures.rest in
    let asked = c.plan.new.scratch.asked.items in
    let law = c.plan.ensures.asked in
    let cells_are : v.cells ≡ u.cells = ap (λ (y : CountersView). y.cells) c.plan.ensures.rest in
    let claims_are : w.claims ≡ u.claims = ap (λ (y : CountersView). y.claims) c.hold_known.ensures.rest ∙ ap (λ (y : CountersView). y.claims) c.plan.ensures.rest in
    let since : SameSpots v.known u.known = λ key. sym (spots_same u.known v.known c.plan.ensures.same key) in
    let known : SameSpots u.known w.known
    = subst (SameSpots u.known) (sym (ap (λ (y : CountersView). y.known) c.hold_known.ensures.rest)) (spots_same u.known v.known c.plan.ensures.same) in
    let spots = c.hold_known.new.held.items in
    let held_all : AreHeld cells asked spots w.cells = subst (λ (l : List Asked). AreHeld cells l spots w.cells) c.as_slice.ensures.value c.in-Ok.ensures.held in
    let held = held_known cells request v w asked spots law c.hold_known.ensures.rest c.hold_known.ensures.same c.hold_known.ensures.pins held_all in
    let reply = c.answer.new.reply in
    let number = c.version.result in
    let step : IsPassStep limiter request now p reply q
    = step_of limiter request (fs g c) reply number w x (answered g c) now p versions version u v n (planned g c) cells asked spots held c.version.ensures
    (ap (λ (t : DirectoryPassView). t.list_id) claims_are) in
    let claims_end : x.claims ≡ u.claims = (answered g c).claims ∙ claims_are in
    let same_limiter : q.limiter ≡ p2.limiter = ap (λ (t : DirectoryPassView). record { claims = t.list_id; versions = versions }) claims_end in
    let same_claims = ap (λ (t : DirectoryPassView). t.claims) claims_end in
    let spots_kept : SameSpots u.known x.known = spots_then u.known w.known x.known known (answered g c).known.spots in
    let moment : x.cells.moment ≡ u.cells.moment
    = (answered_still limiter request (fs g c) reply number w x (answered g c)).moment ∙ c.hold_known.ensures.same.moment ∙ ap (λ (y : CellView). y.moment) cells_are in
    let knew : KnowsUnder (length ds) request u.cells.moment u.known ds (fs g c)
    = knows_still request u.cells.moment v.known u.known since ds (fs g c) (length ds)
    (subst (λ (y : CellView). KnowsUnder (length ds) request y.moment v.known ds (fs g c)) cells_are
    (subst (λ k. KnowsUnder k request v.cells.moment v.known ds (fs g c)) law.count (knows_of cells request v asked law (length asked) held_all.known))) in (
      step,
      stayed_open now p p1 p2 loads offered ticks q same_limiter refl same_claims spots_kept refl loaded newest,
      knows_first now p p1 p2 loads offered ticks q same_limiter refl same_claims spots_kept refl loaded newest request moment (fs g c) (fs_are g c) (length ds) knew,
    )

pub returns-in-Ok-clause-pins : goal.returns-in-Ok-clause-pins
returns-in-Ok-clause-pins g c =
    let cells = g.N.CellNaming.setup.cells in
    let request = c.args.request.now in
    let v = c.plan.new.counters in
    let n = c.pass.inside.refused in
    let asked = c.plan.new.scratch.asked.items in
    let still = answered_still c.args.self.now request (fs g c) c.answer.new.reply c.version.result c.hold_known.new.counters c.answer.new.counters (answered g c) in
    planned_pin request c.args.now c.args.pass.now (versions_of c.pass.inside.version) (pass_state c.pass.inside.version) c.pass.inside.counters v n (fs g c) (planned g c)
    c.answer.new.counters n [] (still.ticks ∙ c.hold_known.ensures.same.ticks ∙ sym (append-nil v.cells.ticks))
    (λ over.
    let none = (c.hold_known.ensures.over
    (subst (λ (l : List Asked). NoneMissing (length l) l) (sym c.as_slice.ensures.value) (over_known cells request v asked c.plan.ensures.asked over))
    (subst (λ (l : List Asked). list_any (λ (a : Asked). is_to_count a.found a.hits a.known) l ≡ false) (sym c.as_slice.ensures.value)
    (over_none cells request v asked c.plan.ensures.asked over))).1 in
    (still.pins ∙ ap (λ (y : CountersView). y.cells.pairs) none, still.others ∙ ap (λ (y : CountersView). y.cells.others) none))

pub returns-in-Ok-clause-known : goal.returns-in-Ok-clause-known
returns-in-Ok-clause-known g c =
    let request = c.args.request.now in
    let v = c.plan.new.counters in
    let w = c.hold_known.new.counters in
    let x = c.answer.new.counters in
    let n = c.pass.inside.refused in
    let names = names_under request request.descriptors (fs g c) in
    let still = answered_still c.args.self.now request (fs g c) c.answer.new.reply c.version.result w x (answered g c) in
    planned_uses request c.args.now c.args.pass.now (versions_of c.pass.inside.version) (pass_state c.pass.inside.version) c.pass.inside.counters v n (fs g c) (planned g c) x n []
    (still.ticks ∙ c.hold_known.ensures.same.ticks ∙ sym (append-nil v.cells.ticks)) c.plan.ensures.order
    (uses_then (name_keys x.cells.moment names) v.known w.known x.known
    (uses_none (name_keys x.cells.moment names) v.known w.known (ap (λ (y : CountersView). y.known) c.hold_known.ensures.rest))
    (subst (λ m. HasUsed [] (name_keys m names) w.known x.known) (sym still.moment) (answered g c).uses))
