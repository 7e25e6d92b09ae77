use Rattle.std.proofs.Common.{◌≡◌, ◌≤◌, get_or, sym, ap, ◌∙◌, subst, arith}
use Rattle.rate_types.specs.declared.counter_key.CounterKey.{CounterKey}
use Rattle.window_keys.proofs.Counters.{is_same}
use Rattle.counter_directory.specs.Claims.{claims_of, bindings_of}
use Rattle.counter_directory.specs.Keys.{key_at, keys_at}
use Rattle.counter_directory.specs.Acquiring.{IsBoundAt, IsUnclaimedAt}
use Rattle.counter_directory.proofs.Finding.{bound_at, bound_next, unclaimed_at}
use Rattle.counter_directory.proofs.Missing.{key_count_at}
use Rattle.counter_directory.proofs.KeyLists.{key_or, len_keys}
use Rattle.counter_directory.proofs.claim_table.ClaimTable.find_rest.Goals as goal

pub returns-in_default-clause-missing : goal.returns-in_default-clause-missing
returns-in_default-clause-missing g c = λ is.
    let b = c.args.self.now in
    let m = b.pool.last in
    let n = c.index-names-place.result in
    let i = c.loop-place.place in
    let keys = keys_at m c.args.names.now in
    let at : get_or keys i (key_at m n) ≡ key_at m n = key_or m c.args.names.now i n ∙ ap (key_at m) (sym c.index-names-place.is) in
    subst (λ k. IsUnclaimedAt k keys b.pool.claims) (sym c.loop-place.invariant.len)
    (unclaimed_at b.pool.claims keys i (key_at m n) (omega (arith, len_keys m c.args.names.now)) (ap (λ k. claims_of k b.pool.claims) at ∙ c.in_default.ensures.none))

pub returns-in_default-clause-found : goal.returns-in_default-clause-found
returns-in_default-clause-found g c = λ all.
    let b = c.args.self.now in
    let m = b.pool.last in
    let n = c.index-names-place.result in
    let i = c.loop-place.place in
    let keys = keys_at m c.args.names.now in
    let at : get_or keys i (key_at m n) ≡ key_at m n = key_or m c.args.names.now i n ∙ ap (key_at m) (sym c.index-names-place.is) in
    let one = all (key_at m n) (key_count_at (key_at m n) keys i (key_at m n) (omega (arith, len_keys m c.args.names.now)) (is_same (get_or keys i (key_at m n)) (key_at m n) at))
    in
    absurd (omega (arith, one, c.in_default.ensures.none))

pub loop-place-preserved : goal.loop-place-preserved
loop-place-preserved g c =
    let inv = c.loop-place.invariant in
    let b = c.args.self.now in
    let m = b.pool.last in
    let n = c.index-names-place.result in
    let i = c.loop-place.place in
    let keys = keys_at m c.args.names.now in
    let s = c.in-Some.spot in
    let at : key_at m n ≡ get_or keys i (key_at m n) = ap (key_at m) c.index-names-place.is ∙ sym (key_or m c.args.names.now i n) in
    let here = bound_at b.pool.claims keys i (key_at m n) s (omega (arith, len_keys m c.args.names.now))
    (subst (λ (k : CounterKey). 1 ≤ bindings_of k s.cell s.claim b.pool.claims) at c.in-Some.ensures.bound) in
    record {
      len = omega (arith, c.push.ensures.len, inv.len);
      bound = bound_next b.pool.claims keys c.loop-place.spots.items c.push.new.self.items s (omega (arith, len_keys m c.args.names.now, inv.len)) c.push.ensures.items
          (subst (λ k. IsBoundAt k keys b.pool.claims s) (sym inv.len) here) inv.bound;
    }
