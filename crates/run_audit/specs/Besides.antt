-- Inside: the cause of a refused check, but for the counters that have cells.
use Rattle.std.specs.Prelude.{ℕ, ◌+◌, ◌-◌, ◌*◌, ◌≤◌, ◌<◌, List}
use Rattle.rate_types.specs.Requests.{RequestParts}
use Rattle.rate_types.specs.declared.limits.TheConstants.{MOST_PINS}
use Rattle.descriptor_tree.specs.Trees.{DomainTree}
use Rattle.rls_core.specs.Reply.{counters_named}
use Rattle.reply_text.specs.declared.record.Record.{Record}
use Rattle.script_run.specs.ScriptLine.{ScriptLine}
use Rattle.script_run.specs.Named.{AreThere, is_among}
use Rattle.script_run.specs.Refusals.{is_named_at}

-- The numbers of the refusal are more than the cells, and so many counters are wanted, held and named.
pub record IsFullBesides (configs : ℕ → List DomainTree) (workers cells : ℕ) (lines : List ScriptLine) (records : List Record)
    (request : RequestParts) (r : Record) (live held wanted : ℕ) : Type 0 where
  pub full : cells < live + held + wanted
  pub some : 1 ≤ wanted
  pub holds : held ≤ MOST_PINS * (workers - 1)
  pub wants : AreThere (is_among (counters_named (configs r.version) request r.moment)) wanted
  pub names : AreThere (is_named_at configs lines records r.moment) (live + wanted)
