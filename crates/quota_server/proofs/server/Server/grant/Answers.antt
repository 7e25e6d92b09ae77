use Rattle.std.proofs.Common.{◌≡◌, ◌≤◌, ◌<◌, Some, None, refl, ap, sym, ◌∙◌, arith, false, length}
use Rattle.std.proofs.lemmas.Grind.{common_steps}
use Rattle.std.proofs.lemmas.Option.{slice_get_past, slice_get_read}
use Rattle.std.specs.Vec.{vec_len}
use Rattle.std.specs.Prelude.{find, slice_get, slice_set}
use Rattle.quota_pools.specs.Pools.{has_pool}
use Rattle.quota_server.specs.Shares.{SharesFitPool}
use Rattle.quota_server.specs.Written.{WrittenShares, with_share}
use Rattle.quota_server.specs.Servers.{is_for, granted_to}
use Rattle.quota_server.proofs.Serving.{pools_of, none_found, none_changed, one_found, one_changed, found_at, set_all, set_pools}
use Rattle.quota_server.proofs.Serving.{none_past}
use Rattle.quota_server.proofs.server.Server.grant.Goals as goal

pub returns-in_default-clause-grant : goal.returns-in_default-clause-grant
returns-in_default-clause-grant c =
    let s = c.self.inside in
    let none : has_pool (pools_of s.pools.items) c.args.bucket.now ≡ false = rw c.in_default.is at c.get.ensures (pools_of s.pools.items) c.self.invariant.placed in
    rw (← c.self.view_is, none_found c.args.bucket.now s.pools.items none) refl

pub returns-in_default-clause-after : goal.returns-in_default-clause-after
returns-in_default-clause-after c =
    let s = c.self.inside in
    let none : has_pool (pools_of s.pools.items) c.args.bucket.now ≡ false = rw c.in_default.is at c.get.ensures (pools_of s.pools.items) c.self.invariant.placed in
    rw (← c.self.view_is) (ap (λ ws. record { domain = s.domain; time = s.time; pools = ws })
    (sym (none_changed c.args.bucket.now (granted_to c.args.client.now s.time) s.pools.items none)))

pub unreachable-requires : goal.unreachable-requires
unreachable-requires c =
    let s = c.self.inside in
    let named = rw c.in-Some.is at c.get.ensures (pools_of s.pools.items) c.self.invariant.placed in
    let beyond : length s.pools.items ≤ c.in-Some.place = grind (arith, common_steps) in
    let past : slice_get s.pools.items c.in-Some.place ≡ None = slice_get_past s.pools.items c.in-Some.place beyond in
    none_past s.pools.items c.in-Some.place c.args.bucket.now named past

pub invariant_of-self-2 : goal.invariant_of-self-2
invariant_of-self-2 c =
    let s = c.self.inside in
    let w = c.in-Some-get_mut.shares.now in
    let v = c.grant.new.self in
    let within : c.in-Some.place < vec_len s.pools = grind (arith, common_steps) in
    let at : slice_get s.pools.items c.in-Some.place ≡ Some w =
    slice_get_read s.pools.items (vec_len s.pools) c.in-Some.place w s.pools.ok.0 within c.in-Some-get_mut.ensures.value in
    let new : v ≡ with_share c.args.client.now c.in_ok-count.count s.time w = c.in_ok-count.ensures.written in
    let same : v.pool ≡ w.pool = ap (λ (x : WrittenShares). x.pool) new in
    let last : v.last ≤ s.time = (let is = ap (λ (x : WrittenShares). x.last) new in omega (arith, is)) in
    record {
      placed = rw (set_pools s.pools.items c.in-Some.place w v at same) c.self.invariant.placed;
      begun = set_all (λ x. x.last ≤ s.time) s.pools.items c.in-Some.place v c.self.invariant.begun last;
      fit = set_all (λ x. SharesFitPool x.pool.count x.shares) s.pools.items c.in-Some.place v c.self.invariant.fit c.grant.ensures.fits;
    }

pub returns-clause-grant : goal.returns-clause-grant
returns-clause-grant c =
    let s = c.self.inside in
    let w = c.in-Some-get_mut.shares.now in
    let named = rw c.in-Some.is at c.get.ensures (pools_of s.pools.items) c.self.invariant.placed in
    let within : c.in-Some.place < vec_len s.pools = grind (arith, common_steps) in
    let at : slice_get s.pools.items c.in-Some.place ≡ Some w =
    slice_get_read s.pools.items (vec_len s.pools) c.in-Some.place w s.pools.ok.0 within c.in-Some-get_mut.ensures.value in
    let found = found_at s.places c.args.bucket.now s.pools.items c.in-Some.place w c.self.invariant.placed named at in
    let one : find (is_for c.args.bucket.now) s.pools.items ≡ Some w = one_found c.args.bucket.now s.pools.items c.in-Some.place w at found.is found.only in
    let new : c.grant.new.self ≡ with_share c.args.client.now c.in_ok-count.count s.time w = c.in_ok-count.ensures.written in
    let same : c.grant.new.self.pool ≡ w.pool = ap (λ (x : WrittenShares). x.pool) new in
    rw (← c.self.view_is, one, c.in_ok-count.ensures.count, c.unit.ensures, c.pool.ensures, c.lifetime.ensures.value, c.pool-2.ensures, same) refl

pub returns-clause-after : goal.returns-clause-after
returns-clause-after c =
    let s = c.self.inside in
    let w = c.in-Some-get_mut.shares.now in
    let named = rw c.in-Some.is at c.get.ensures (pools_of s.pools.items) c.self.invariant.placed in
    let within : c.in-Some.place < vec_len s.pools = grind (arith, common_steps) in
    let at : slice_get s.pools.items c.in-Some.place ≡ Some w =
    slice_get_read s.pools.items (vec_len s.pools) c.in-Some.place w s.pools.ok.0 within c.in-Some-get_mut.ensures.value in
    let found = found_at s.places c.args.bucket.now s.pools.items c.in-Some.place w c.self.invariant.placed named at in
    let set = one_changed c.args.bucket.now (granted_to c.args.client.now s.time) s.pools.items c.in-Some.place w at found.is found.only in
    let new : c.grant.new.self ≡ granted_to c.args.client.now s.time w =
    c.in_ok-count.ensures.written ∙ ap (λ n. with_share c.args.client.now n s.time w) c.in_ok-count.ensures.count in
    rw (← c.self.view_is) (ap (λ ws. record { domain = s.domain; time = s.time; pools = ws })
    (ap (slice_set s.pools.items c.in-Some.place) new ∙ sym set))
