-- The counters that a request names: how many, and that their windows are open.
use Rattle.std.proofs.Common.{◌≡◌, ℕ, zero, suc, ◌≤◌, List, [], ◌∷◌, length, Bool, true, false, refl, sym, ap, ◌∙◌, arith, length-append}
use Rattle.std.proofs.lemmas.Bool.{lt-ltb}
use Rattle.std.specs.Prelude.{nat_lt}
use Rattle.std.specs.List.{flat_map}
use Rattle.rate_types.specs.Counters.{same_counter}
use Rattle.rate_types.specs.Requests.{RequestParts}
use Rattle.rate_types.specs.Sums.{one_if}
use Rattle.rate_types.proofs.Sums.{total_append}
use Rattle.rate_types.specs.declared.counter_key.CounterKey.{CounterKey}
use Rattle.rate_types.specs.declared.request.Descriptor.{Descriptor}
use Rattle.window_keys.specs.Counter.{counter_of, window_end_of}
use Rattle.window_keys.proofs.Counters.{same_is, ends_later}
use Rattle.descriptor_tree.specs.Trees.{DomainTree}
use Rattle.rule_lookup.specs.declared.found.Found.{Found}
use Rattle.rule_lookup.specs.declared.found.Found.TheVariants.{NoRule, Unlimited, Limited}
use Rattle.rls_core.specs.Reply.{found_for, counter_under, counters_named}
use Rattle.rate_limiter.proofs.CounterLists.{count}

module _ (config : List DomainTree) (request : RequestParts) (m : ℕ) where
  abbrev named : List Descriptor → List CounterKey
  named ds = flat_map (λ d. counter_under request m d (found_for config request d)) ds

  under_few : (d : Descriptor) (f : Found) → length (counter_under request m d f) ≤ 1
  under_few d NoRule = omega arith
  under_few d (Unlimited rule) = omega arith
  under_few d (Limited limit unit shadow rule) = omega arith

  few : (ds : List Descriptor) → length (named ds) ≤ length ds
  few [] = omega arith
  few (d ∷ ds) =
      let f = found_for config request d in
      let a = length-append (counter_under request m d f) (named ds) in
      let u = under_few d f in
      let r = few ds in
      omega arith

  -- no more than the descriptors
  pub named_few : length (counters_named config request m) ≤ length request.descriptors
  named_few = few request.descriptors

  abbrev IsOpen : CounterKey → Type 0
  IsOpen c = nat_lt m (window_end_of c) ≡ true

  under_open : (d : Descriptor) (f : Found) (c : CounterKey) → 1 ≤ count c (counter_under request m d f) → IsOpen c
  under_open d NoRule c h = absurd (omega arith)
  under_open d (Unlimited rule) c h = absurd (omega arith)
  under_open d (Limited limit unit shadow rule) c h = by (same_counter (counter_of request.domain d unit m) c) refl
    where
      by : (b : Bool) → same_counter (counter_of request.domain d unit m) c ≡ b → IsOpen c
      by true e = ap (λ k. nat_lt m (window_end_of k)) (sym (same_is (counter_of request.domain d unit m) c e)) ∙ lt-ltb m _ (ends_later request.domain d unit m)
      by false e = let o = ap one_if e in absurd (omega arith)

  all_open : (ds : List Descriptor) (c : CounterKey) → 1 ≤ count c (named ds) → IsOpen c
  all_open [] c h = absurd (omega arith)
  all_open (d ∷ ds) c h = pick (count c (counter_under request m d (found_for config request d))) refl (λ g. all_open ds c g)
    where
      pick : (n : ℕ) → count c (counter_under request m d (found_for config request d)) ≡ n → (1 ≤ count c (named ds) → IsOpen c) → IsOpen c
      pick zero e more =
          let a = total_append (λ (k : CounterKey). one_if (same_counter k c)) (counter_under request m d (found_for config request d)) (named ds) in
          more (omega arith)
      pick (suc n) e more = under_open d (found_for config request d) c (omega arith)

  -- their windows end after the moment
  pub named_open : (c : CounterKey) → 1 ≤ count c (counters_named config request m) → IsOpen c
  named_open c h = all_open request.descriptors c h
