use Rattle.std.proofs.Common.{◌≡◌, ◌++◌, ℕ, List, String, true, map, string_bytes, ap, ◌∙◌, subst}
use Rattle.std.specs.Arc.{arc_value}
use Rattle.std.specs.declared.alloc.Global.{Global}
use Rattle.descriptor_tree.specs.Trees.{DomainTree}
use Rattle.descriptor_tree.specs.Views.{config_view}
use Rattle.reply_text.specs.declared.record.Record.{Record}
use Rattle.script_run.specs.ScriptLine.{ScriptLine}
use Rattle.rule_stats.specs.Sums.{AreSums}
use Rattle.run_stats.specs.RunStats.{notes_of}
use Rattle.script_text.specs.Script.{script_of}
use Rattle.script_text.specs.Views.{script_view}
use Rattle.script_run.specs.Run.{IsRun}
use Rattle.script_run.specs.Totals.{AreTotalsOf}
use Rattle.cli_exits.specs.Output.{with_line_feed}
use Rattle.cli_drive.specs.Driven.{lines_of, HasStats}
use Rattle.cli_drive.proofs.driving.driven_lines.Goals as goal

pub returns : goal.returns
returns g c =
    let script : script_view c.in-Ok.script ≡ script_of c.args.bytes.now = c.in-Ok.ensures.script in
    let config : config_view (arc_value c.in_ok-config.config) ≡ config_view c.args.config = ap config_view c.in_ok-config.ensures.ok in
    let by_script : IsRun (config_view (arc_value c.in_ok-config.config)) c.args.setup.workers c.args.setup.cells c.args.setup.start c.args.setup.global_shadow
    (script_of c.args.bytes.now)
    c.in_ok-driven.driven.records =
    subst (λ (ls : List ScriptLine). IsRun (config_view (arc_value c.in_ok-config.config)) c.args.setup.workers c.args.setup.cells c.args.setup.start c.args.setup.global_shadow ls
    c.in_ok-driven.driven.records) script c.in_ok-driven.ensures.run in
    let texts : List (List ℕ) = map (λ (t : String Global). string_bytes t) c.in_ok-texts.texts.items in
    let records : c.in_ok-records.records ≡ c.in_ok-driven.driven.records = c.in_ok-records.ensures in
    record {
      records = c.in_ok-driven.driven.records;
      totals = c.in_ok-driven.driven.totals;
      run = subst (λ (trees : List DomainTree). IsRun trees c.args.setup.workers c.args.setup.cells c.args.setup.start c.args.setup.global_shadow (script_of c.args.bytes.now)
          c.in_ok-driven.driven.records) config by_script;
      sums = subst (λ (ls : List ScriptLine). AreTotalsOf c.args.setup.start ls c.in_ok-driven.driven.records c.in_ok-driven.driven.totals) script
          c.in_ok-driven.ensures.totals;
      numbers = texts;
      counted = c.in_ok-texts.ensures (script_of c.args.bytes.now) c.in_ok-driven.driven.records
          (subst (λ (ls : List ScriptLine). c.args.stats ≡ true → AreSums (notes_of ls c.in_ok-driven.driven.records) c.in_ok-driven.driven.tally.versions) script
          c.in_ok-driven.ensures.counted);
      texts = c.in_ok-lines.ensures
          ∙ ap (λ (rs : List Record). lines_of rs c.items.result.now ++ map with_line_feed texts) records
          ∙ ap (λ ts. lines_of c.in_ok-driven.driven.records ts ++ map with_line_feed texts) c.items.ensures;
    }
