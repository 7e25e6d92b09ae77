use Rattle.std.proofs.Common.{◌≡◌, ◌∙◌, ◌≤◌, false, List, [], length, refl, sym, subst, ap, arith}
use Rattle.std.specs.List.{list_any}
use Rattle.counter_directory.specs.Passes.{DirectoryPassView}
use Rattle.over_cache.specs.Entries.{Entries}
use Rattle.rule_lookup.specs.declared.found.Found.{Found}
use Rattle.rate_limiter.specs.Asked.{is_to_count, AreHeld, AreThere, IsNotHeld, NoneMissing, founds}
use Rattle.rate_limiter.specs.Counters.{CountersView}
use Rattle.rate_limiter.specs.Names.{names_under, name_keys}
use Rattle.rate_limiter.specs.Passes.{bounds_of}
use Rattle.rate_limiter.specs.Pinned.{HasPins, HasNoPins}
use Rattle.rate_limiter.specs.Sought.{AreNoted}
use Rattle.rate_limiter.specs.declared.asked.Asked.{Asked}
use Rattle.rate_limiter.proofs.AskedCounters.{there_of, cause_of, some_named, over_known, over_none}
use Rattle.rate_limiter.proofs.HeldCounters.{held_known, held_acquired}
use Rattle.rate_limiter.proofs.Knowing.{no_pins_after}
use Rattle.rate_limiter.proofs.Results.{not_both}
use Rattle.rate_limiter.specs.Used.{asked_each, HasUsed}
use Rattle.rate_limiter.proofs.Seeking.{missed_more}
use Rattle.rate_limiter.proofs.Using.{uses_none, uses_then, uses_asked}
use Rattle.rate_limiter.proofs.limiter.Limiter.hold.Goals as goal

pub hold_known-requires-clause-there : goal.hold_known-requires-clause-there
hold_known-requires-clause-there g c =
    let cells = g.N.CellNaming.setup.cells in
    let request = c.args.request.now in
    let v = c.args.counters.now in
    let asked = c.args.scratch.now.asked.items in
    let fs = founds asked in
    let law = c.requires.asked in
    let first = c.as_slice-asked.ensures.value in
    subst (λ (l : List Asked). AreThere cells v.cells.pairs l) (sym first) (there_of cells request v asked law)

pub returns-in-Ok-clause-held : goal.returns-in-Ok-clause-held
returns-in-Ok-clause-held g c =
    let cells = g.N.CellNaming.setup.cells in
    let request = c.args.request.now in
    let v = c.args.counters.now in
    let mid = c.hold_known.new.counters in
    let asked = c.args.scratch.now.asked.items in
    let fs = founds asked in
    let law = c.requires.asked in
    let first = c.as_slice-asked.ensures.value in
    let spots = c.hold_known.new.held.items in
    held_known cells request v mid asked spots law c.hold_known.ensures.rest c.hold_known.ensures.same c.hold_known.ensures.pins
    (subst (λ (l : List Asked). AreHeld cells l spots mid.cells) first c.in-Ok.ensures.held)

pub returns-in-Ok-clause-over : goal.returns-in-Ok-clause-over
returns-in-Ok-clause-over g c over =
    let cells = g.N.CellNaming.setup.cells in
    let request = c.args.request.now in
    let v = c.args.counters.now in
    let mid = c.hold_known.new.counters in
    let asked = c.args.scratch.now.asked.items in
    let fs = founds asked in
    let law = c.requires.asked in
    let first = c.as_slice-asked.ensures.value in
    let none = c.hold_known.ensures.over (subst (λ (l : List Asked). NoneMissing (length l) l) (sym first) (over_known cells request v asked law over))
    (subst (λ (l : List Asked). list_any (λ (a : Asked). is_to_count a.found a.hits a.known) l ≡ false) (sym first) (over_none cells request v asked law over)) in
    (refl, ap (λ (u : CountersView). u.cells) none.1)

pub acquire-requires-clause-some : goal.acquire-requires-clause-some
acquire-requires-clause-some g c =
    let cells = g.N.CellNaming.setup.cells in
    let request = c.args.request.now in
    let v = c.args.counters.now in
    let mid = c.hold_known.new.counters in
    let asked = c.args.scratch.now.asked.items in
    let fs = founds asked in
    let law = c.requires.asked in
    let first = c.as_slice-asked.ensures.value in
    let cause = cause_of cells request v asked law c.in_default.field-0 mid.cells (subst (λ (l : List Asked). IsNotHeld l c.in_default.field-0 v.cells mid.cells) first c.in_default.ensures.missed) in
    let rules : c.as_slice-rules.result.now ≡ fs = c.as_slice-rules.ensures.value ∙ c.requires.rules in
    subst (λ (l : List Found). 1 ≤ length (names_under request request.descriptors l)) (sym rules)
    (some_named request v.cells.moment v.known request.descriptors fs c.in_default.field-0 v.cells mid.cells cause)

pub returns-in-Err-clause-refused : goal.returns-in-Err-clause-refused
returns-in-Err-clause-refused g c =
    let cells = g.N.CellNaming.setup.cells in
    let request = c.args.request.now in
    let v = c.args.counters.now in
    let mid = c.hold_known.new.counters in
    let asked = c.args.scratch.now.asked.items in
    let fs = founds asked in
    let law = c.requires.asked in
    let first = c.as_slice-asked.ensures.value in
    let rules : c.as_slice-rules.result.now ≡ fs = c.as_slice-rules.ensures.value ∙ c.requires.rules in
    let w = c.acquire.new.counters in
    let b = bounds_of cells c.args.self.now in
    let fault = c.in-Err.fault in
    let none = subst (λ (l : List Found). HasNoPins b (names_under request request.descriptors l) fault mid.cells w.cells mid.claims.claims w.claims.claims) rules
    c.in-Err.ensures.refused in
    no_pins_after v.cells mid.cells w.cells c.hold_known.ensures.same b (names_under request request.descriptors fs) fault v.claims.claims w.claims.claims
    (subst (λ (y : DirectoryPassView). HasNoPins b (names_under request request.descriptors fs) fault mid.cells w.cells y.claims w.claims.claims)
    (ap (λ (u : CountersView). u.claims) c.hold_known.ensures.rest) none)

pub returns-in-Err-clause-turns : goal.returns-in-Err-clause-turns
returns-in-Err-clause-turns g c knows same =
    let cells = g.N.CellNaming.setup.cells in
    let request = c.args.request.now in
    let v = c.args.counters.now in
    let mid = c.hold_known.new.counters in
    let asked = c.args.scratch.now.asked.items in
    let fs = founds asked in
    let law = c.requires.asked in
    let first = c.as_slice-asked.ensures.value in
    let cause = cause_of cells request v asked law c.in_default.field-0 mid.cells (subst (λ (l : List Asked). IsNotHeld l c.in_default.field-0 v.cells mid.cells) first c.in_default.ensures.missed) in
    let more = missed_more request v.cells.moment v.known request.descriptors fs c.in_default.field-0 v.cells mid.cells cause knows in
    let kept = c.acquire.ensures.others in
    let e = ap length same in
    absurd (omega arith)

pub returns-in-Err-clause-over : goal.returns-in-Err-clause-over
returns-in-Err-clause-over g c over =
    let cells = g.N.CellNaming.setup.cells in
    let request = c.args.request.now in
    let v = c.args.counters.now in
    let mid = c.hold_known.new.counters in
    let asked = c.args.scratch.now.asked.items in
    let fs = founds asked in
    let law = c.requires.asked in
    let first = c.as_slice-asked.ensures.value in
    let none = c.hold_known.ensures.over (subst (λ (l : List Asked). NoneMissing (length l) l) (sym first) (over_known cells request v asked law over))
    (subst (λ (l : List Asked). list_any (λ (a : Asked). is_to_count a.found a.hits a.known) l ≡ false) (sym first) (over_none cells request v asked law over)) in
    absurd (not_both c.hold_known.result c.in_default.field-0 c.in_default.is none.0)

pub returns-in-Ok-acquire-clause-over : goal.returns-in-Ok-acquire-clause-over
returns-in-Ok-acquire-clause-over g c over =
    let cells = g.N.CellNaming.setup.cells in
    let request = c.args.request.now in
    let v = c.args.counters.now in
    let mid = c.hold_known.new.counters in
    let asked = c.args.scratch.now.asked.items in
    let fs = founds asked in
    let law = c.requires.asked in
    let first = c.as_slice-asked.ensures.value in
    let none = c.hold_known.ensures.over (subst (λ (l : List Asked). NoneMissing (length l) l) (sym first) (over_known cells request v asked law over))
    (subst (λ (l : List Asked). list_any (λ (a : Asked). is_to_count a.found a.hits a.known) l ≡ false) (sym first) (over_none cells request v asked law over)) in
    absurd (not_both c.hold_known.result c.in_default.field-0 c.in_default.is none.0)

pub returns-in-Ok-acquire-clause-turns : goal.returns-in-Ok-acquire-clause-turns
returns-in-Ok-acquire-clause-turns g c knows same =
    let cells = g.N.CellNaming.setup.cells in
    let request = c.args.request.now in
    let v = c.args.counters.now in
    let mid = c.hold_known.new.counters in
    let asked = c.args.scratch.now.asked.items in
    let fs = founds asked in
    let law = c.requires.asked in
    let first = c.as_slice-asked.ensures.value in
    let cause = cause_of cells request v asked law c.in_default.field-0 mid.cells (subst (λ (l : List Asked). IsNotHeld l c.in_default.field-0 v.cells mid.cells) first c.in_default.ensures.missed) in
    let more = missed_more request v.cells.moment v.known request.descriptors fs c.in_default.field-0 v.cells mid.cells cause knows in
    let kept = c.acquire.ensures.others in
    let after = ap (λ (u : CountersView). u.cells.others) c.ask_each.ensures.rest in
    let e = ap length (sym after ∙ same) in
    absurd (omega arith)

pub returns-in-Ok-acquire-clause-held : goal.returns-in-Ok-acquire-clause-held
returns-in-Ok-acquire-clause-held g c =
    let cells = g.N.CellNaming.setup.cells in
    let request = c.args.request.now in
    let v = c.args.counters.now in
    let mid = c.hold_known.new.counters in
    let asked = c.args.scratch.now.asked.items in
    let fs = founds asked in
    let law = c.requires.asked in
    let first = c.as_slice-asked.ensures.value in
    let rules : c.as_slice-rules.result.now ≡ fs = c.as_slice-rules.ensures.value ∙ c.requires.rules in
    let w = c.acquire.new.counters in
    let x = c.ask_each.new.counters in
    let spots = c.acquire.new.acquired.spots.items in
    let did = c.in-Ok-acquire.ensures in
    held_acquired cells request v mid w x c.ask_each.new.asked.items fs spots c.hold_known.ensures.same (ap (λ (u : CountersView). u.claims) c.hold_known.ensures.rest)
    (subst (λ (l : List Found). HasPins (names_under request request.descriptors l) spots mid.cells w.cells mid.claims.claims w.claims.claims) rules did.pinned) did.holds
    (subst (λ (l : List Found). AreNoted (names_under request request.descriptors l) w.cells.moment w.known) rules did.noted) did.once c.ask_each.ensures.rest
    c.ask_each.ensures.same (c.ask_each.ensures.founds ∙ rules) c.ask_each.ensures.asked

pub returns-in-Ok-clause-uses : goal.returns-in-Ok-clause-uses
returns-in-Ok-clause-uses g c =
    let request = c.args.request.now in
    let mid = c.hold_known.new.counters in
    uses_none (name_keys mid.cells.moment (names_under request request.descriptors (founds c.args.scratch.now.asked.items))) c.args.counters.now.known mid.known
    (ap (λ (u : CountersView). u.known) c.hold_known.ensures.rest)

pub returns-in-Err-clause-uses : goal.returns-in-Err-clause-uses
returns-in-Err-clause-uses g c =
    let request = c.args.request.now in
    let w = c.acquire.new.counters in
    let fs = founds c.args.scratch.now.asked.items in
    let rules : c.as_slice-rules.result.now ≡ fs = c.as_slice-rules.ensures.value ∙ c.requires.rules in
    let known = ap (λ (u : CountersView). u.known) c.hold_known.ensures.rest in
    subst (λ (k : Entries). HasUsed [] (name_keys w.cells.moment (names_under request request.descriptors fs)) k w.known) known
    (subst (λ (l : List Found). HasUsed [] (name_keys w.cells.moment (names_under request request.descriptors l)) c.hold_known.new.counters.known w.known) rules
    c.acquire.ensures.uses)

pub returns-in-Ok-acquire-clause-uses : goal.returns-in-Ok-acquire-clause-uses
returns-in-Ok-acquire-clause-uses g c =
    let request = c.args.request.now in
    let v = c.args.counters.now in
    let w = c.acquire.new.counters in
    let x = c.ask_each.new.counters in
    let fs = founds c.args.scratch.now.asked.items in
    let keys = name_keys w.cells.moment (names_under request request.descriptors fs) in
    let rules : c.as_slice-rules.result.now ≡ fs = c.as_slice-rules.ensures.value ∙ c.requires.rules in
    let known = ap (λ (u : CountersView). u.known) c.hold_known.ensures.rest in
    let acquired : HasUsed [] keys v.known w.known
    = subst (λ (k : Entries). HasUsed [] keys k w.known) known
    (subst (λ (l : List Found). HasUsed [] (name_keys w.cells.moment (names_under request request.descriptors l)) c.hold_known.new.counters.known w.known) rules
    c.acquire.ensures.uses) in
    let asks : x.known ≡ asked_each keys w.known
    = subst (λ (l : List Found). x.known ≡ asked_each (name_keys w.cells.moment (names_under request request.descriptors l)) w.known) rules c.ask_each.ensures.order in
    let moment = ap (λ (u : CountersView). u.cells.moment) c.ask_each.ensures.rest in
    subst (λ m. HasUsed [] (name_keys m (names_under request request.descriptors fs)) v.known x.known) (sym moment)
    (uses_then keys v.known w.known x.known acquired (uses_asked keys w.known x.known asks))
