use Rattle.std.proofs.Common.{◌≡◌, ◌+◌, ◌-◌, [], ◌∷◌, ◌++◌, List, length, get_or, refl, sym, ap, ◌∙◌, subst, arith, append_assoc, length-append}
use Rattle.rate_types.specs.declared.counter_key.CounterKey.{CounterKey}
use Rattle.rate_types.specs.declared.counter_name.CounterName.{CounterName}
use Rattle.rate_types.specs.Units.{unit_rank}
use Rattle.counter_directory.specs.declared.claim.Claim.{Claim}
use Rattle.counter_directory.specs.Claims.{claims_of}
use Rattle.counter_directory.specs.Windows.{FitsRing, KeepsFits, end_at}
use Rattle.counter_directory.specs.Index.{HaveRoom}
use Rattle.counter_directory.specs.Keys.{key_at, keys_at, AddsEach}
use Rattle.counter_directory.proofs.Ringing.{fit_kept, end_rank, rank_few}
use Rattle.counter_directory.proofs.KeyLists.{keys_mid, keys_more}
use Rattle.counter_directory.proofs.Missing.{fresh_counter, adds_more, grows_more}
use Rattle.counter_directory.proofs.Finding.{BindsFirst, first_more}
use Rattle.counter_directory.proofs.claim_table.ClaimTable.bind_all.Goals as goal

pub bind_reserved-requires-clause-counter : goal.bind_reserved-requires-clause-counter
bind_reserved-requires-clause-counter g c =
    let i = c.loop-name.invariant in
    let n = c.in-Some.name in
    let m = c.args.self.now.pool.last in
    let rest = c.next.new.self.rest.items in
    let w : c.loop-name.yielded ++ n ∷ rest ≡ c.args.missing.items = ap (λ l. c.loop-name.yielded ++ l) (sym c.in-Some.ensures.steps.0) ∙ i.whole in
    subst (λ t. claims_of (key_at t n) c.loop-name.self.pool.claims ≡ 0) (sym i.last)
    (fresh_counter c.args.self.now.pool.claims c.loop-name.self.pool.claims (keys_at m c.loop-name.yielded) (keys_at m rest) (keys_at m c.args.missing.items) (key_at m n)
    (sym (keys_mid m c.loop-name.yielded n rest) ∙ ap (keys_at m) w) c.requires.new i.adds)

pub bind_reserved-requires-clause-ring : goal.bind_reserved-requires-clause-ring
bind_reserved-requires-clause-ring g c =
    let i = c.loop-name.invariant in
    let n = c.in-Some.name in
    let m = c.args.self.now.pool.last in
    let e = end_rank c.loop-name.self.pool.last (key_at c.loop-name.self.pool.last n) refl in
    subst (λ t. FitsRing (unit_rank n.unit) t c.loop-name.self.pool.rings.items) (sym e)
    (subst (λ t. FitsRing (unit_rank n.unit) (end_at (unit_rank n.unit) t) c.loop-name.self.pool.rings.items) (sym i.last) (i.fit (unit_rank n.unit) (rank_few n.unit)))

pub loop-name-preserved : goal.loop-name-preserved
loop-name-preserved g c =
    let i = c.loop-name.invariant in
    let n = c.in-Some.name in
    let m = c.args.self.now.pool.last in
    let s = c.loop-name.self in
    let rest = c.next.new.self.rest.items in
    let e = c.bind_reserved.ensures in
    let len : length c.loop-name.name-iterator.rest.items ≡ length rest + 1 = omega (arith, ap (λ (l : List CounterName). length l) c.in-Some.ensures.steps.0) in
    let v : c.loop-name.yielded ++ n ∷ rest ≡ c.args.missing.items = ap (λ l. c.loop-name.yielded ++ l) (sym c.in-Some.ensures.steps.0) ∙ i.whole in
    let key : key_at s.pool.last n ≡ key_at m n = ap (λ t. key_at t n) i.last in
    let at = end_rank s.pool.last (key_at s.pool.last n) refl ∙ ap (end_at (unit_rank n.unit)) i.last in
    let made = ap (λ (l : List Claim). length l) e.claims.3 in
    let a = c.args.self.now.pool in
    let after = c.bind_reserved.new.self.pool in
    let spot = c.index-first.result.now in
    let x : Claim = record { key = key_at s.pool.last n; cell = e.claims.0; claim = e.claims.1; moment = s.pool.last } in
    let count : c.len.result ≡ length a.reserved.items = omega (arith, a.reserved.ok.0, c.len.ensures) in
    let is_last = subst (λ k. spot ≡ get_or a.reserved.items (k - 1) spot) count c.index-first.ensures in
    let keys : keys_at m c.loop-name.yielded ++ key_at s.pool.last n ∷ [] ≡ keys_at m (c.loop-name.yielded ++ n ∷ [])
    = ap (λ k. keys_at m c.loop-name.yielded ++ k ∷ []) key ∙ sym (keys_more m c.loop-name.yielded n) in
    record {
      whole = append_assoc c.loop-name.yielded (n ∷ []) rest ∙ v;
      adds = subst (λ l. AddsEach c.args.self.now.pool.claims l c.bind_reserved.new.self.pool.claims) (sym (keys_more m c.loop-name.yielded n))
          (adds_more c.args.self.now.pool.claims s.pool.claims c.bind_reserved.new.self.pool.claims (keys_at m c.loop-name.yielded) (key_at m n) _
          e.claims.3 key i.adds);
      grows = grows_more m c.args.self.now.pool.claims s.pool.claims c.bind_reserved.new.self.pool.claims _ e.claims.3 i.last i.grows;
      made = omega (arith, made, length-append s.pool.claims (record { key = key_at s.pool.last n; cell = e.claims.0; claim = e.claims.1; moment = s.pool.last } ∷ []), i.made);
      used = omega (arith, e.reserved, i.used);
      last = e.same.0 ∙ i.last;
      most = e.same.1 ∙ i.most;
      reserved = omega (arith, e.reserved, i.reserved);
      room = e.room (length rest) (subst (λ k. HaveRoom k s.index.items) len i.room);
      first = subst (λ (l : List CounterKey). BindsFirst spot a.reserved.items after.reserved.items l after.claims) keys
          (first_more spot a.reserved.items s.pool.reserved.items after.reserved.items (keys_at m c.loop-name.yielded) s.pool.claims after.claims x spot is_last
          e.claims.3 e.claims.2 i.first);
      fit = fit_kept m (unit_rank n.unit) s.pool.rings.items c.bind_reserved.new.self.pool.rings.items
          (subst (λ x. KeepsFits (unit_rank n.unit) x s.pool.rings.items c.bind_reserved.new.self.pool.rings.items) at e.rings) i.fit;
    }
