-- What `drive` writes: one line a record, then one line a total, then with `--stats` one line a rule, each with its line feed by one call.
use Rattle.std.specs.Prelude.{◌≡◌, ℕ, List, [], ◌++◌, map, Bool, true, false}
use Rattle.rls_core.specs.declared.totals.Total.{Total}
use Rattle.reply_text.specs.declared.record.Record.{Record}
use Rattle.reply_text.specs.Texts.{record_text_of, total_text_of}
use Rattle.descriptor_tree.specs.Trees.{DomainTree}
use Rattle.script_text.specs.Script.{script_of}
use Rattle.script_run.specs.ScriptLine.{ScriptLine}
use Rattle.script_run.specs.Totals.{AreTotalsOf}
use Rattle.script_run.specs.Run.{IsRun}
use Rattle.run_stats.specs.RunStats.{AreStatsOf}
use Rattle.cli_exits.specs.Output.{with_line_feed}

-- the lines of a run, in order
abbrev pub lines_of : List Record → List Total → List (List ℕ)
lines_of records totals = map (λ r. with_line_feed (record_text_of r)) records ++ map (λ t. with_line_feed (total_text_of t)) totals

-- the texts of the statistics of a run where they are asked for, and else none
abbrev pub HasStats : Bool → List ScriptLine → List Record → List (List ℕ) → Type 0
HasStats true lines records texts = AreStatsOf lines records texts
HasStats false lines records texts = texts ≡ []

-- these are the texts of a lawful run of these bytes, as a script, by this configuration and so many workers, of its totals, and where they
-- are asked for of its statistics
pub record IsRunText (config : List DomainTree) (workers cells start : ℕ) (global_shadow stats : Bool) (bytes : List ℕ)
    (pieces : List (List ℕ)) : Type 0 where
  pub records : List Record
  pub totals : List Total
  pub run : IsRun config workers cells start global_shadow (script_of bytes) records
  pub sums : AreTotalsOf start (script_of bytes) records totals
  pub numbers : List (List ℕ)
  pub counted : HasStats stats (script_of bytes) records numbers
  pub texts : pieces ≡ lines_of records totals ++ map with_line_feed numbers
