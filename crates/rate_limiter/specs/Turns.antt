-- When a check takes no turn at the directory, and when it tries no pin.
use Rattle.std.specs.Prelude.{◌≡◌, ℕ, ◌≤◌, ◌<◌, List, ◌∷◌, ◌++◌}
use mathlib.Core.Option.{some}
use lib.ListN.{get_elem?}
use Rattle.rate_types.specs.Requests.{RequestParts}
use Rattle.rate_types.specs.declared.request.Descriptor.{Descriptor}
use Rattle.window_keys.specs.Counter.{counter_of}
use Rattle.rule_lookup.specs.declared.found.Found.{Found}
use Rattle.rule_lookup.specs.declared.found.Found.TheVariants.{Limited}
use Rattle.counter_cells.specs.declared.view.Tick.{Tick}
use Rattle.over_cache.specs.Entries.{Entries, known_of}
use Rattle.rls_core.specs.Reply.{found_for, hits_of}
use Rattle.rate_limiter.specs.Passes.{PassView}
use Rattle.rate_limiter.specs.Known.{KnowsCounter, key_of, seen_in}

-- before the check the pass knew the counters of all descriptors, by its version after the check and in the windows of the moment
abbrev pub KnewAll : RequestParts → ℕ → PassView → PassView → Type 0
KnewAll request moment p q = (i : ℕ) (d : Descriptor) → get_elem? request.descriptors i ≡ some d
    → KnowsCounter request moment p.known d (found_for q.version.index request d)

-- Where the pass knew all counters, in the windows of the moment of the check's first tick, and no pin of the check missed, it has had no
-- more turns at the directory, and knows of the claims what it knew
abbrev pub TakesNoTurn : RequestParts → PassView → PassView → Type 0
TakesNoTurn request p q = (first : Tick) (rest : List Tick) → q.cells.ticks ≡ p.cells.ticks ++ first ∷ rest
    → KnewAll request first.moment p q → q.cells.others ≡ p.cells.others → q.claims ≡ p.claims

-- nothing is to be counted for a descriptor: it has no limit, or it has hits and its counter is known to be above the limit
abbrev pub IsKnownOver : RequestParts → ℕ → Entries → Descriptor → Found → Type 0
IsKnownOver request moment entries d (Limited limit unit shadow rule) =
    (1 ≤ hits_of request d) × (limit < seen_in (known_of (key_of (counter_of request.domain d unit moment)) entries))
IsKnownOver request moment entries d found = Unit {0}

-- before the check nothing was to be counted for any descriptor, by the version after the check and in the windows of the moment
abbrev pub KnewAllOver : RequestParts → ℕ → PassView → PassView → Type 0
KnewAllOver request moment p q = (i : ℕ) (d : Descriptor) → get_elem? request.descriptors i ≡ some d
    → IsKnownOver request moment p.known d (found_for q.version.index request d)

-- Where nothing was to be counted, in the windows of the moment of the check's first tick, it has tried no pin: none was good, and none
-- found another claim
abbrev pub TriesNoPin : RequestParts → PassView → PassView → Type 0
TriesNoPin request p q = (first : Tick) (rest : List Tick) → q.cells.ticks ≡ p.cells.ticks ++ first ∷ rest
    → KnewAllOver request first.moment p q → (q.cells.pairs ≡ p.cells.pairs) × (q.cells.others ≡ p.cells.others)
