use Rattle.std.proofs.Common.{◌≡◌, ◌≤◌, List, length, refl, ap, subst}
use Rattle.counter_directory.specs.declared.claim.Claim.{Claim}
use Rattle.counter_directory.specs.Claims.{IsLawfulClaims, last_of}
use Rattle.counter_directory.specs.Acquired.{Bounds, ClaimTableView, Acquires}
use Rattle.counter_directory.specs.Answered.{answered}
use Rattle.counter_directory.proofs.acquire.AcquireActKeptTable.act.Goals as goal

pub returns-clause-did : goal.returns-clause-did
returns-clause-did g c =
    let b = c.acquire.new.self in
    let a = c.args.self.now in
    let t = c.deref_mut.result.now in
    let s = c.args.kept.now.table.value in
    let e = c.deref_mut.ensures.value in
    let most : t.pool.most ≡ s.pool.most = ap (λ z. z.pool.most) e in
    let used : length t.claimer.used_claims ≡ length s.claimer.used_claims = ap (λ z. length z.claimer.used_claims) e in
    let claims : t.pool.claims ≡ s.pool.claims = ap (λ z. z.pool.claims) e in
    let cells = g.N.CellNaming.setup.cells in
    let bounds : Bounds = record { cells = cells; claims = t.pool.most; held = a.most_held } in
    let bounds' : Bounds = record { cells = cells; claims = s.pool.most; held = a.most_held } in
    let found : ClaimTableView = record { used = length t.claimer.used_claims; claims = t.pool.claims } in
    let found' : ClaimTableView = record { used = length s.claimer.used_claims; claims = s.pool.claims } in
    let left : ClaimTableView = record { used = length b.claimer.used_claims; claims = b.pool.claims } in
    let bounds_are : bounds ≡ bounds' = λ i. record { cells = cells; claims = most i; held = a.most_held } in
    let found_is : found ≡ found' = λ i. record { used = used i; claims = claims i } in (
      refl,
      refl,
      subst (λ (x : Bounds × ClaimTableView). Acquires x.0 a.names.now a.cell_pass.now x.1 (answered c.acquire.result c.acquire.new.acquired) c.acquire.new.cell_pass left)
          (λ i. (bounds_are i, found_is i)) c.acquire.ensures.did,
      subst (λ n. IsLawfulClaims n b.pool.most b.pool.claims) b.size b.pool.lawful,
      subst (λ (l : List Claim). last_of 0 l ≤ c.acquire.new.cell_pass.moment) claims c.acquire.ensures.later,
    )
