-- Where the cells are enough for all that other passes may hold and for all counters that checks name, no check is refused for want of room.
use Rattle.std.proofs.Common.{◌≡◌, ℕ, zero, suc, ◌+◌, ◌-◌, ◌*◌, ◌≤◌, ◌<◌, List, [], ◌∷◌, ◌++◌, length, Option, Some, Result, Ok, Err, sym, ap, ◌∙◌, arith}
use Rattle.std.specs.Prelude.{slice_get}
use Rattle.std.specs.List.{AllByRecursion}
use mathlib.Core.Option.{some, some-ne-none, some-injective}
use lib.ListN.{get_elem?}
use Rattle.rate_types.specs.Counters.{same_counter}
use Rattle.rate_types.specs.Sums.{one_if}
use Rattle.rate_types.proofs.Sums.{total_append}
use Rattle.rate_types.specs.declared.counter_key.CounterKey.{CounterKey}
use Rattle.rate_types.specs.declared.limits.TheConstants.{MOST_PINS}
use Rattle.descriptor_tree.specs.Trees.{DomainTree}
use Rattle.rls_core.specs.Reply.{counters_named}
use Rattle.rls_core.specs.declared.fault.CheckFault.{CheckFault}
use Rattle.rls_core.specs.declared.fault.CheckFault.TheVariants.{CountersFull, ClaimsSpent, OutOfMemory}
use Rattle.rls_core.specs.declared.reply.Reply.{Reply}
use Rattle.rate_limiter.specs.Passes.{LimiterView}
use Rattle.rate_limiter.proofs.CounterLists.{count, no_longer, inside}
use Rattle.http_endpoint.specs.Answers.{Checked}
use Rattle.http_checks.specs.Deeds.{At, Deed, checked, reloaded}
use Rattle.http_checks.specs.Named.{IsNamed, AreDifferent}
use Rattle.http_checks.specs.Causes.{IsCause, HasCause}
use Rattle.http_checks.specs.Room.{counters_by, counters_of, all_counters, HadRoom, HadRoomFor}

module _ (configs : List (List DomainTree)) where
  abbrev IsAmong : List Deed → CounterKey → Type 0
  IsAmong deeds c = 1 ≤ count c (all_counters configs deeds)

  named_at : (deeds : List Deed) (c : CounterKey) (i : ℕ) (a : Checked) (at : At) (config : List DomainTree) → get_elem? deeds i ≡ some (checked a at)
      → slice_get configs at.version ≡ Some config → 1 ≤ count c (counters_named config a.request at.moment) → IsAmong deeds c
  named_at [] c i a at config e v h = absurd (some-ne-none (checked a at) (sym e))
  named_at (d ∷ deeds) c zero a at config e v h =
      let is : d ≡ checked a at = some-injective d (checked a at) e in
      let mine : counters_of configs d ≡ counters_named config a.request at.moment =
      ap (counters_of configs) is ∙ ap (λ (o : Option (List DomainTree)). counters_by o a at) v in
      let both = total_append (λ (k : CounterKey). one_if (same_counter k c)) (counters_of configs d) (all_counters configs deeds) in
      let some = ap (count c) mine in
      omega arith
  named_at (d ∷ deeds) c (suc i) a at config e v h =
      let both = total_append (λ (k : CounterKey). one_if (same_counter k c)) (counters_of configs d) (all_counters configs deeds) in
      let more = named_at deeds c i a at config e v h in
      omega arith

  -- different counters that deeds name are no more than the deeds name
  different_few : (deeds : List Deed) (P : CounterKey → Type 0) → ((c : CounterKey) → P c → IsNamed configs deeds c) → (n : ℕ) → AreDifferent P n
      → n ≤ length (all_counters configs deeds)
  different_few deeds P named n h =
      let l = no_longer h.counters (all_counters configs deeds) (inside h.counters (all_counters configs deeds) h.differ (λ c k.
      let is = named c (h.each c k) in
      named_at deeds c is.place is.made is.at is.names.config is.there is.names.is_version is.names.named)) in
      let e = h.count in
      omega arith

  had_room : (cells : ℕ) (limiter : LimiterView) (all : List Deed) → MOST_PINS * (limiter.passes - 1) + length (all_counters configs all) ≤ cells
      → (a : Checked) (at : At) (result : Result Reply CheckFault) → IsCause cells limiter configs all a at result → HadRoom result
  had_room cells limiter all enough a at (Ok reply) h = tt
  had_room cells limiter all enough a at (Err OutOfMemory) h = tt
  had_room cells limiter all enough a at (Err (ClaimsSpent claims wanted)) h = tt
  had_room cells limiter all enough a at (Err (CountersFull moment live held wanted)) h =
      let n = different_few all _ (λ c p. p.1) (live + wanted) h.names in
      let f = h.full in
      let k = h.holds in
      absurd (omega (arith, n, f, k, enough))

  each_had_room : (cells : ℕ) (limiter : LimiterView) (all : List Deed) → MOST_PINS * (limiter.passes - 1) + length (all_counters configs all) ≤ cells
      → (deeds : List Deed) → AllByRecursion (HasCause cells limiter configs all) deeds → AllByRecursion HadRoomFor deeds
  each_had_room cells limiter all enough [] h = tt
  each_had_room cells limiter all enough (checked a at ∷ deeds) h =
      (had_room cells limiter all enough a at a.result h.0, each_had_room cells limiter all enough deeds h.1)
  each_had_room cells limiter all enough (reloaded config result ∷ deeds) h = (tt, each_had_room cells limiter all enough deeds h.1)

-- with cells enough nobody is refused for want of room
pub all_had_room : (cells : ℕ) (limiter : LimiterView) (configs : List (List DomainTree)) (deeds : List Deed)
    → AllByRecursion (HasCause cells limiter configs deeds) deeds → MOST_PINS * (limiter.passes - 1) + length (all_counters configs deeds) ≤ cells
    → AllByRecursion HadRoomFor deeds
all_had_room cells limiter configs deeds causes enough = each_had_room configs cells limiter deeds enough deeds causes
