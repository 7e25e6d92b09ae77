-- Why a check or a reload is refused.
use Rattle.std.specs.Prelude.{◌≡◌, ℕ, ◌+◌, ◌-◌, ◌*◌, ◌≤◌, ◌<◌, ◌==◌, ◌&&◌, ◌||◌, not, List, Bool, ⊤}
use Rattle.rate_types.specs.Requests.{RequestParts}
use Rattle.rate_types.specs.declared.counter_key.CounterKey.{CounterKey}
use Rattle.rate_types.specs.declared.limits.TheConstants.{MOST_PINS, MOST_VERSIONS}
use Rattle.descriptor_tree.specs.Trees.{DomainTree}
use Rattle.rls_core.specs.Reply.{counters_named}
use Rattle.reply_text.specs.declared.record.Record.{Record}
use Rattle.reply_text.specs.declared.record.Outcome.{Outcome}
use Rattle.reply_text.specs.declared.record.Outcome.TheVariants as outcome
use Rattle.script_run.specs.ScriptLine.{ScriptLine, check, reload}
use Rattle.script_run.specs.Lines.{EachLine}
use Rattle.script_run.specs.Versions.{installs}
use Rattle.script_run.specs.Named.{all_tried, bound_by, is_among, is_open_at, AreThere}

-- whether a counter may have a cell when a worker's line is run: an answered check of another worker, or an earlier one of its own, gave it
-- one, and its window isn't over
abbrev pub may_be_bound : (ℕ → List DomainTree) → List ScriptLine → List Record → List ScriptLine → List Record → Record → CounterKey → Bool
may_be_bound configs lines records before earlier r c = is_open_at r.moment c
    && (is_among (bound_by (λ w. not (w == r.worker)) configs lines records) c
    || is_among (bound_by (λ w. w == r.worker) configs before earlier) c)

-- whether a check of the run names a counter whose window isn't over at a moment
abbrev pub is_named_at : (ℕ → List DomainTree) → List ScriptLine → List Record → ℕ → CounterKey → Bool
is_named_at configs lines records moment c = is_open_at moment c && is_among (all_tried configs lines records) c

-- A check finds no room only where the live counters, the held cells and the counters that it wants cells for are more than the cells. It
-- wants at least one, and no more than it names. The live ones were given cells by answered checks of other workers or by earlier ones of
-- its own, and with the wanted ones they are counters that checks of the run name, all with windows that aren't over. Only other
-- workers hold cells, each at most as many as a request has descriptors.
pub record IsFull (configs : ℕ → List DomainTree) (workers cells : ℕ) (lines : List ScriptLine) (records : List Record)
    (before : List ScriptLine) (earlier : List Record) (request : RequestParts) (r : Record) (live held wanted : ℕ) : Type 0 where
  pub full : cells < live + held + wanted
  pub some : 1 ≤ wanted
  pub wants : AreThere (is_among (counters_named (configs r.version) request r.moment)) wanted
  pub lives : AreThere (may_be_bound configs lines records before earlier r) live
  pub names : AreThere (is_named_at configs lines records r.moment) (live + wanted)
  pub holds : held ≤ MOST_PINS * (workers - 1)

-- The cause of a refusal. Claims are never spent in a run. A reload is refused only where all versions that there may be are there.
abbrev pub HasRefusalCause : (ℕ → List DomainTree) → ℕ → ℕ → List ScriptLine → List Record → List ScriptLine → List Record → ScriptLine
    → Record → Outcome → Type 0
HasRefusalCause configs workers cells lines records before earlier (check request) r (outcome.Full live held wanted) =
    IsFull configs workers cells lines records before earlier request r live held wanted
HasRefusalCause configs workers cells lines records before earlier line r (outcome.Spent claims wanted) = ⊥
HasRefusalCause configs workers cells lines records before earlier (reload config) r (outcome.VersionsFull versions) =
    (versions ≡ MOST_VERSIONS) × (installs records + 1 ≡ MOST_VERSIONS)
HasRefusalCause configs workers cells lines records before earlier line r other = ⊤

-- Each refused check and each refused reload has its cause.
abbrev pub RefusalsHaveCauses : (ℕ → List DomainTree) → ℕ → ℕ → List ScriptLine → List Record → Type 0
RefusalsHaveCauses configs workers cells lines records = EachLine lines records
    (λ before earlier l r. HasRefusalCause configs workers cells lines records before earlier l r r.outcome)
