use Rattle.std.proofs.Common.{◌≡◌, ◌-◌, ◌*◌, ◌<◌, ℕ, length, ap, ◌∙◌, subst, rules}
use Rattle.std.specs.Prelude.{All}
use Rattle.counter_cells.specs.Views.{good_on}
use Rattle.counter_directory.specs.declared.acquired.Acquired.{Acquired}
use Rattle.counter_directory.specs.Spots.{spots_on}
use Rattle.counter_directory.specs.Passes.{DirectoryPassView}
use Rattle.counter_directory.specs.Turns.{DirectoryView}
use Rattle.counter_directory.specs.Acquired.{Bounds, ClaimTableView, Acquires}
use Rattle.counter_directory.specs.Answered.{answered}
use Rattle.counter_directory.proofs.Holding.{pins_held, cells_held, ok_written}
use Rattle.counter_directory.proofs.Turning.{turns}
use Rattle.counter_directory.proofs.directory.Directory.acquire.Goals as goal

pub returns-clause-within : goal.returns-clause-within
returns-clause-within g c =
    let t = c.with.ensures.turn in
    let s = t.0.table.value in
    let z = t.1.table.value in
    let cells = g.N.CellNaming.setup.cells in
    let b : Bounds = record { cells = cells; claims = s.pool.most; held = 32 * (c.self.inside.passes - 1) } in
    let found : ClaimTableView = record { used = length s.claimer.used_claims; claims = s.pool.claims } in
    let left : ClaimTableView = record { used = length z.claimer.used_claims; claims = z.pool.claims } in
    let r = c.with.result in
    let a = c.acquired-1.given.0 in
    let is : c.with.new.act.acquired.now ≡ a = search rules in
    let did = subst (λ (x : Acquired). Acquires b c.args.names.now c.args.cell_pass.now found (answered r x) c.with.new.act.cell_pass.now left) is t.2.2 in
    ok_written r a (λ x. All (λ s. s.cell < cells) x.spots.items)
    (cells_held b z.pool.most c.args.names.now c.args.cell_pass.now c.with.new.act.cell_pass.now found left (answered r a) did t.2.3)

pub returns-clause-pins : goal.returns-clause-pins
returns-clause-pins g c =
    let t = c.with.ensures.turn in
    let s = t.0.table.value in
    let z = t.1.table.value in
    let cells = g.N.CellNaming.setup.cells in
    let b : Bounds = record { cells = cells; claims = s.pool.most; held = 32 * (c.self.inside.passes - 1) } in
    let found : ClaimTableView = record { used = length s.claimer.used_claims; claims = s.pool.claims } in
    let left : ClaimTableView = record { used = length z.claimer.used_claims; claims = z.pool.claims } in
    let r = c.with.result in
    let a = c.acquired-1.given.0 in
    let is : c.with.new.act.acquired.now ≡ a = search rules in
    let did = subst (λ (x : Acquired). Acquires b c.args.names.now c.args.cell_pass.now found (answered r x) c.with.new.act.cell_pass.now left) is t.2.2 in
    let cell_pass : c.cell_pass-1.given.0 ≡ c.with.new.act.cell_pass.now = search rules in
    ok_written r a (λ x. (k : ℕ) → good_on k c.cell_pass-1.given.0 ≡ spots_on k x.spots.items)
    (pins_held b c.args.names.now c.args.cell_pass.now c.with.new.act.cell_pass.now c.cell_pass-1.given.0 found left (answered r a) did cell_pass c.requires.cell_pass)

pub returns-clause-turn : goal.returns-clause-turn
returns-clause-turn g c =
    let t = c.with.ensures.turn in
    let s = t.0.table.value in
    let z = t.1.table.value in
    let cells = g.N.CellNaming.setup.cells in
    let b : Bounds = record { cells = cells; claims = s.pool.most; held = 32 * (c.self.inside.passes - 1) } in
    let found : ClaimTableView = record { used = length s.claimer.used_claims; claims = s.pool.claims } in
    let left : ClaimTableView = record { used = length z.claimer.used_claims; claims = z.pool.claims } in
    let r = c.with.result in
    let a = c.acquired-1.given.0 in
    let is : c.with.new.act.acquired.now ≡ a = search rules in
    let did = subst (λ (x : Acquired). Acquires b c.args.names.now c.args.cell_pass.now found (answered r x) c.with.new.act.cell_pass.now left) is t.2.2 in
    let cell_pass : c.cell_pass-1.given.0 ≡ c.with.new.act.cell_pass.now = search rules in
    let state = c.args.self.now in
    let passes : c.self.inside.passes ≡ state.passes = c.self.invariant.0 ∙ ap (λ (o : DirectoryView). o.passes) c.self.view_is in
    let claims : s.pool.most ≡ state.claims_max = t.4 ∙ ap (λ (o : DirectoryView). o.claims_max) c.self.view_is in
    let most : z.pool.most ≡ state.claims_max = t.5 ∙ ap (λ (o : DirectoryView). o.claims_max) c.self.view_is in
    let b' : Bounds = record { cells = cells; claims = state.claims_max; held = 32 * (state.passes - 1) } in
    let same : b ≡ b' = λ i. record { cells = cells; claims = claims i; held = 32 * (passes i - 1) } in
    turns b b' z.pool.most c.args.names.now c.args.cell_pass.now c.with.new.act.cell_pass.now c.cell_pass-1.given.0 found left (answered r a) _ _ c.args.pass.now.claims
    (ap (λ (p : DirectoryPassView). p.claims) c.pass.view_is) same most cell_pass did t.2.3
    t.2.4 t.3
