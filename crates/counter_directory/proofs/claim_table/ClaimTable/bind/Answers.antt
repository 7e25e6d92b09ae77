use Rattle.std.proofs.Common.{length, ◌∙◌, sym, subst, take, [], arith}
use Rattle.counter_directory.specs.Keys.{keys_at, IsMissing}
use Rattle.counter_directory.specs.Acquired.{Bounds, ClaimTableView}
use Rattle.counter_directory.specs.Acquiring.{AreFirstBound, IsBoundAt}
use Rattle.counter_directory.proofs.KeyLists.{len_keys}
use Rattle.counter_directory.proofs.Acquiring.{bound_none}
use Rattle.counter_directory.proofs.Finding.{bound_grows, bound_next, none_before}
use Rattle.counter_directory.proofs.claim_table.ClaimTable.bind.Goals as goal

pub returns-then-find_rest-clause-did : goal.returns-then-find_rest-clause-did
returns-then-find_rest-clause-did g c =
    let b = c.args.self.now in
    let bounds : Bounds = record { cells = g.N.CellNaming.setup.cells; claims = b.pool.most; held = c.args.most_held } in
    let found : ClaimTableView = record { used = length b.claimer.used_claims; claims = b.pool.claims } in
    let f = c.find_rest.ensures in
    bound_none bounds b.pool.last (keys_at b.pool.last c.args.names.now) c.find_rest.new.spots.items found
    (f.all c.if-find_rest.true ∙ sym (len_keys b.pool.last c.args.names.now)) f.bound.1
    (omega (arith, b.pool.few, b.pool.next_claim_is)) (omega (arith, b.gates.count, b.pool.next_claim_is))

pub bind_missing-requires-clause-before : goal.bind_missing-requires-clause-before
bind_missing-requires-clause-before g c =
    let b = c.args.self.now.pool in
    let keys = keys_at b.last c.args.names.now in
    subst (λ k. IsMissing b.claims (take k keys) []) (sym c.len.ensures.value) (none_before keys c.find_rest.new.spots.items b.claims c.find_rest.ensures.bound)

pub find_rest-requires-2-clause-bound : goal.find_rest-requires-2-clause-bound
find_rest-requires-2-clause-bound g c =
    let b = c.args.self.now.pool in
    let left = c.bind_missing.new.self.pool in
    let f = c.find_rest.ensures in
    let none = f.missing c.if-find_rest.false in
    let names = c.args.names.now in
    let keys = keys_at b.last names in
    let spots = c.find_rest.new.spots.items in
    let s = c.in_ok-first.first in
    let h = c.in_ok-first.ensures in
    let here = subst (λ k. IsBoundAt k keys left.claims s) c.len.ensures.value h.first in
    subst (λ t. AreFirstBound left.claims (keys_at t names) c.push.new.self.items) (sym c.bind_missing.ensures.same.0)
    (bound_next left.claims keys spots c.push.new.self.items s none.0 c.push.ensures.items here (bound_grows b.last b.claims left.claims keys spots h.did.grows f.bound))
