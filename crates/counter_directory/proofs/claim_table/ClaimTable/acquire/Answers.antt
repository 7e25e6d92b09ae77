use Rattle.std.proofs.Common.{◌≡◌, ◌<◌, List, length, refl, sym, ap, ◌∙◌, subst, arith}
use Rattle.std.specs.Prelude.{All}
use Rattle.counter_cells.specs.declared.answers.Spot.{Spot}
use Rattle.counter_directory.specs.Keys.{keys_at}
use Rattle.counter_directory.specs.Spots.{Bound}
use Rattle.counter_directory.specs.Acquired.{Bounds, ClaimTableView, HasBound, PinsAfterMisses}
use Rattle.counter_directory.proofs.Pinning.{agrees, all_shown, all_within, pins_moment}
use Rattle.counter_directory.proofs.Acquiring.{are_of, acquires, told_moment}
use Rattle.counter_directory.proofs.KeyLists.{len_keys}
use Rattle.counter_directory.proofs.claim_table.ClaimTable.acquire.Goals as goal

pub pin_all-requires-clause-cells : goal.pin_all-requires-clause-cells
pin_all-requires-clause-cells g c =
    let t = c.bind.new.self in
    let b = t.pool in
    let names = c.args.names.now in
    let f = c.in_ok-bind.ensures.spots in
    subst (λ (l : List Spot). All (λ s. s.cell < g.N.CellNaming.setup.cells) l) (sym c.as_slice.ensures.value)
    (subst (λ n. All (λ s. s.cell < n) c.bind.new.spots.items) t.size
    (all_within b.cells b.most (keys_at b.last names) c.bind.new.spots.items b.claims b.lawful (f.0 ∙ sym (len_keys b.last names)) f.1))

pub returns-clause-later : goal.returns-clause-later
returns-clause-later g c =
    let p = pins_moment c.as_slice.result.now c.bind.new.cell_pass c.pin_all.new.cell_pass c.pin_all.ensures in
    let q = told_moment c.tick-moment.new.cell_pass c.bind.new.cell_pass c.bind.ensures.told in
    omega (arith, c.args.self.now.pool.cells_lawful.moment, c.tick-moment.ensures.moment.0, c.tick-moment.ensures.moment.1, p, q)

pub returns-clause-did : goal.returns-clause-did
returns-clause-did g c =
    let m = c.tick-moment.result in
    let names = c.args.names.now in
    let a = c.args.self.now in
    let s = c.expire.new.self in
    let t = c.bind.new.self in
    let b = t.pool in
    let spots = c.bind.new.spots in
    let f = c.in_ok-bind.ensures.spots in
    let x = c.expire.ensures.same in
    let y = c.tick-moment.ensures.same in
    let cells = g.N.CellNaming.setup.cells in
    let last : b.last ≡ m = c.bind.ensures.same.0 ∙ c.expire.ensures.last in
    let most : s.pool.most ≡ a.pool.most = x.2 ∙ ap (λ z. z.most) y.0 in
    let claims : s.pool.claims ≡ a.pool.claims = x.0 ∙ ap (λ z. z.claims) y.0 in
    let used : length s.claimer.used_claims ≡ length a.claimer.used_claims = ap (λ z. length z.used_claims) x.3 ∙ ap (λ l. length l) y.2 in
    let bounds : Bounds = record { cells = cells; claims = a.pool.most; held = c.args.most_held } in
    let bounds' : Bounds = record { cells = cells; claims = s.pool.most; held = c.args.most_held } in
    let found : ClaimTableView = record { used = length a.claimer.used_claims; claims = a.pool.claims } in
    let found' : ClaimTableView = record { used = length s.claimer.used_claims; claims = s.pool.claims } in
    let left : ClaimTableView = record { used = length t.claimer.used_claims; claims = b.claims } in
    let bounds_are : bounds' ≡ bounds = λ i. record { cells = cells; claims = most i; held = c.args.most_held } in
    let found_is : found' ≡ found = λ i. record { used = used i; claims = claims i } in
    let did = subst (λ (z : Bounds × ClaimTableView). HasBound z.0 m (keys_at m names) z.1 left) (λ i. (bounds_are i, found_is i))
    (subst (λ n. HasBound bounds' n (keys_at n names) found' left) c.expire.ensures.last c.in_ok-bind.ensures.did) in
    acquires bounds m names (keys_at m names) c.args.cell_pass.now c.tick-moment.new.cell_pass c.bind.new.cell_pass c.pin_all.new.cell_pass found left
    (record { moment = m; spots = spots }) refl refl c.tick-moment.ensures.moment.0 c.tick-moment.ensures.ticked c.bind.ensures.told
    (subst (λ (l : List Spot). PinsAfterMisses l c.bind.new.cell_pass c.pin_all.new.cell_pass) c.as_slice.ensures.value c.pin_all.ensures)
    (subst (λ n. Bound b.claims (keys_at n names) spots.items) last f.1) (f.0 ∙ sym (len_keys m names))
    (agrees t.claimer b.last (keys_at b.last names) spots.items (f.0 ∙ sym (len_keys b.last names)) (are_of b.last names)
    (all_shown t.claimer b.cells b.last b.next_claim (keys_at b.last names) spots.items b.claims b.reserved.items t.gates f.1)) did
