-- What a check leaves of the counters that its pass knows: the uses of its request's keys, over what was known before.
use Rattle.std.specs.Prelude.{◌≡◌, ◌⊎◌, ℕ, List, [], ◌∷◌, ◌++◌, map, Result, Ok, Err}
use Rattle.std.specs.Bool.{IsTrue}
use Rattle.std.specs.List.{AllByRecursion}
use Rattle.rate_types.specs.Requests.{RequestParts}
use Rattle.descriptor_tree.specs.Trees.{DomainTree}
use Rattle.counter_cells.specs.declared.view.Tick.{Tick}
use Rattle.over_cache.specs.Entries.{Entries, asked, noted}
use Rattle.over_cache.specs.Uses.{Use, Asked, Noted, is_among}
use Rattle.rls_core.specs.Reply.{counters_named}
use Rattle.rls_core.specs.declared.fault.CheckFault.{CheckFault}
use Rattle.rls_core.specs.declared.fault.CheckFault.TheVariants.{CountersFull, ClaimsSpent, OutOfMemory}
use Rattle.rls_core.specs.declared.reply.Reply.{Reply}
use Rattle.rate_limiter.specs.Known.{key_of}
use Rattle.rate_limiter.specs.Passes.{PassView}

-- the key of a use
abbrev pub key_used : Use → List ℕ
key_used (Asked key) = key
key_used (Noted key spot seen) = key

-- What is known after uses, of which the last one stands first. A question moves its key to the front, where it is known, and a note puts it
-- there. All others keep their order, and a note lets go only of what is then beyond place 1,024
abbrev pub used : List Use → Entries → Entries
used [] known = known
used (Asked key ∷ uses) known = asked key (used uses known)
used (Noted key spot seen ∷ uses) known = noted key spot seen (used uses known)

-- what is known after a question for each of the keys, in order
abbrev pub asked_each : List (List ℕ) → Entries → Entries
asked_each [] known = known
asked_each (key ∷ keys) known = asked_each keys (asked key known)

-- each of the first keys was asked for, in order, and then none but the other keys were used
pub record HasUsed (first keys : List (List ℕ)) (old new : Entries) : Type 0 where
  pub uses : List Use
  pub own : AllByRecursion (λ u. IsTrue (is_among (key_used u) keys)) uses
  pub known : new ≡ used uses (asked_each first old)

-- the keys of the counters that a request names at a moment, in order
abbrev pub named_keys : List DomainTree → RequestParts → ℕ → List (List ℕ)
named_keys config request moment = map key_of (counters_named config request moment)

-- By the version after the check, each counter of the request was asked for, in the windows of the moment of the check's first tick, and then
-- only counters of the request at the pass's moment were used. A check that hasn't ticked says nothing here
abbrev pub UsesKnown : RequestParts → PassView → PassView → Type 0
UsesKnown request p q = (first : Tick) (rest : List Tick) → q.cells.ticks ≡ p.cells.ticks ++ first ∷ rest
    → HasUsed (named_keys q.version.index request first.moment) (named_keys q.version.index request q.cells.moment) p.known q.known

-- So does each check, answered or refused; for want of memory it may also have used none, and then the same is known
abbrev pub ChecksKnown : RequestParts → PassView → Result Reply CheckFault → PassView → Type 0
ChecksKnown request p (Ok reply) q = UsesKnown request p q
ChecksKnown request p (Err OutOfMemory) q = UsesKnown request p q ⊎ (q.known ≡ p.known)
ChecksKnown request p (Err (ClaimsSpent claims wanted)) q = UsesKnown request p q
ChecksKnown request p (Err (CountersFull moment live held wanted)) q = UsesKnown request p q
