-- Inside: which counters of a run are asked for.
use Rattle.std.specs.Prelude.{ℕ, ◌==◌, ◌&&◌, ◌||◌, not, nat_lt, List, take, Bool, true, false}
use Rattle.rate_types.specs.declared.counter_key.CounterKey.{CounterKey}
use Rattle.descriptor_tree.specs.Trees.{DomainTree}
use Rattle.reply_text.specs.declared.record.Record.{Record}
use Rattle.script_run.specs.ScriptLine.{ScriptLine}
use Rattle.script_run.specs.Named.{all_tried, bound_by, is_among, is_open_at}
use Rattle.run_audit.specs.declared.asked.Asked.{Asked}
use Rattle.run_audit.specs.declared.asked.Asked.TheVariants.{Named, Bound}
use Rattle.run_audit.specs.declared.binder.Binder.{Binder}
use Rattle.run_audit.specs.declared.binder.Binder.TheVariants.{Nobody, One, Several}

-- whether a counter is asked for, by who bound it
abbrev pub is_asked : Asked → Binder → Bool
is_asked Named binder = true
is_asked (Bound worker line) Nobody = false
is_asked (Bound worker line) (One other first) = not (other == worker) || nat_lt first line
is_asked (Bound worker line) Several = true

-- whether a counter is asked for, by the lines
abbrev pub is_told : Asked → (ℕ → List DomainTree) → List ScriptLine → List Record → CounterKey → Bool
is_told Named configs lines records c = is_among (all_tried configs lines records) c
is_told (Bound worker line) configs lines records c = is_among (bound_by (λ w. not (w == worker)) configs lines records) c
    || is_among (bound_by (λ w. w == worker) configs (take line lines) (take line records)) c

-- whether it is asked for, and its window ends after a moment
abbrev pub is_told_at : Asked → (ℕ → List DomainTree) → List ScriptLine → List Record → ℕ → CounterKey → Bool
is_told_at asked configs lines records moment c = is_open_at moment c && is_told asked configs lines records c
