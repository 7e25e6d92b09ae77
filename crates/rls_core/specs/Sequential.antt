-- What one worker counts: each descriptor finds what was charged before it.
use Rattle.std.specs.Prelude.{◌≡◌, ℕ, ◌+◌, ◌≤◌, ◌<◌, ◌==◌, ◌&&◌, ◌||◌, not, List, ◌∷◌, length, Bool, nat_lt, if◌then◌else◌}
use Rattle.std.specs.List.{list_any}
use Rattle.std.specs.List.Sorted.{IsStrictlySortedBy}
use Rattle.rate_types.specs.Counters.{key_cmp, same_counter}
use Rattle.rate_types.specs.Ledger.{charged_total}
use Rattle.rate_types.specs.Requests.{RequestParts}
use Rattle.rate_types.specs.declared.counter_key.CounterKey.{CounterKey}
use Rattle.rate_types.specs.declared.request.Descriptor.{Descriptor}
use Rattle.window_keys.specs.Counter.{counter_of}
use Rattle.descriptor_tree.specs.Trees.{DomainTree}
use Rattle.rule_lookup.specs.declared.found.Found.{Found}
use Rattle.rule_lookup.specs.declared.found.Found.TheVariants.{Limited}
use Rattle.rls_core.specs.declared.status.Count.{Count}
use Rattle.rls_core.specs.declared.status.Count.TheVariants.{NoCount, Before, Seen}
use Rattle.rls_core.specs.declared.status.Status.{Status}
use Rattle.rls_core.specs.Reply.{hits_of, found_for, charge_shown, counters_named}

-- under a limit: a counter that is above it, or that hits of 0 only read, is seen; else it is charged
abbrev pub count_under : ℕ → ℕ → ℕ → Count
count_under limit hits value = if (hits == 0) || nat_lt limit value then Seen value else Before value

-- a descriptor without a limit counts nothing
abbrev pub count_for : Found → ℕ → ℕ → Count
count_for (Limited limit unit shadow rule) hits value = count_under limit hits value
count_for other hits value = NoCount

-- what was charged on the counter of a descriptor
abbrev pub charged_under : (CounterKey → ℕ) → RequestParts → ℕ → Descriptor → Found → ℕ
charged_under charged request moment d (Limited limit unit shadow rule) = charged (counter_of request.domain d unit moment)
charged_under charged request moment d other = 0

-- each descriptor counts what was charged before, in earlier descriptors too
abbrev pub AreSequential : List DomainTree → RequestParts → ℕ → (CounterKey → ℕ) → List Descriptor → List Status → Type 0
AreSequential config request moment charged (d ∷ ds) (s ∷ ss) =
    (s.count ≡ count_for (found_for config request d) (hits_of request d)
    (charged_under charged request moment d (found_for config request d)))
    × AreSequential config request moment (λ c. charged c + charged_total same_counter c (charge_shown request moment d s.limit s.count)) ds
    ss
AreSequential config request moment charged ds ss = Unit {0}

-- so many counters pass a test
pub record IsNumberOf (test : CounterKey → Bool) (number : ℕ) : Type 0 where
  pub counters : List CounterKey
  pub differ : IsStrictlySortedBy key_cmp counters
  pub all : (c : CounterKey) → list_any (λ k. same_counter c k) counters ≡ test c
  pub count : length counters ≡ number

-- so many of these counters have no cell
abbrev pub Wants : (CounterKey → Bool) → List CounterKey → ℕ → Type 0
Wants bound counters wanted = IsNumberOf (λ c. list_any (λ k. same_counter c k) counters && not (bound c)) wanted

-- how many counters have cells, and how many of those that a request names have none
pub record Needs (config : List DomainTree) (request : RequestParts) (moment : ℕ) (bound : CounterKey
    → Bool) (live wanted : ℕ) : Type 0 where
  pub lives : IsNumberOf bound live
  pub wants : Wants bound (counters_named config request moment) wanted

-- these fit into the cells
pub record HasRoom (config : List DomainTree) (cells : ℕ) (request : RequestParts) (moment : ℕ) (bound : CounterKey → Bool) : Type 0 where
  pub live : ℕ
  pub wanted : ℕ
  pub needs : Needs config request moment bound live wanted
  pub fits : live + wanted ≤ cells

-- they don't
pub record LacksRoom (config : List DomainTree) (cells : ℕ) (request : RequestParts) (moment : ℕ) (bound : CounterKey
    → Bool) (live wanted : ℕ) : Type 0 where
  pub needs : Needs config request moment bound live wanted
  pub above : cells < live + wanted
