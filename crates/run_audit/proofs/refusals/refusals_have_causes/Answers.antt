use Rattle.std.proofs.Common.{◌≡◌, ◌<◌, ◌≤◌, List, length, map, take, refl, sym, ap, ◌∙◌, subst, arith}
use Rattle.std.proofs.lemmas.List.{length-map, length-take, take-map}
use Rattle.reply_text.specs.declared.record.Record.{Record}
use Rattle.script_run.specs.ScriptLine.{ScriptLine}
use Rattle.script_run.specs.Views.{line_view}
use Rattle.run_audit.specs.Bound.{IsUpTo, lacks_cells}
use Rattle.run_audit.specs.ByEnd.{AreEnds}
use Rattle.run_audit.specs.Causes.{IsCaused}
use Rattle.run_audit.specs.VersionAt.{config_at}
use Rattle.run_audit.specs.declared.by_end.Ended.{Ended}
use Rattle.run_audit.proofs.Each.{here, more, below_all, below_none}
use Rattle.run_audit.proofs.Room.{more_lines}
use Rattle.run_audit.proofs.Tests.{false_true}
use Rattle.run_audit.proofs.refusals.refusals_have_causes.Goals as goal

pub returns-then-not-caused : goal.returns-then-not-caused
returns-then-not-caused c = (
  λ e. absurd (false_true e),
  λ each.
      let run = c.args.run.now in
      let Fact : List ScriptLine → List Record → ScriptLine → Record → Type 0
      = λ before earlier l r. IsCaused (config_at run.configs.now) run.workers run.cells (map line_view run.lines.now) run.records.now before earlier l r in
      let within : c.lines.i < length run.records.now = omega arith in
      let stands = here run.lines.now run.records.now Fact c.lines.i c.index-lines-i.result c.index-records-i.result run.as_many within
      c.index-lines-i.is c.index-records-i.is each in
      absurd (false_true (sym c.if-not-caused.true ∙ c.in_ok-caused.ensures.1 stands)),
)

pub lines-init : goal.lines-init
lines-init c =
    let run = c.args.run.now in
    let Fact : List ScriptLine → List Record → ScriptLine → Record → Type 0
    = λ before earlier l r. IsCaused (config_at run.configs.now) run.workers run.cells (map line_view run.lines.now) run.records.now before earlier l r in
    (below_none (map line_view run.lines.now) run.records.now Fact, c.none_bound-bound.ensures (config_at run.configs.now))

pub follow-requires-clause-up_to : goal.follow-requires-clause-up_to
follow-requires-clause-up_to c =
    let run = c.args.run.now in
    subst (λ (ls : List ScriptLine). IsUpTo (config_at run.configs.now) ls (take c.lines.i run.records.now) c.lines.bound)
    (take-map line_view c.lines.i run.lines.now) c.lines.invariant.1

pub is_caused-requires-clause-first : goal.is_caused-requires-clause-first
is_caused-requires-clause-first c = λ lacks.
    let run = c.args.run.now in
    let i = c.lines.i in
    let r = c.index-records-i.result in
    let within : i < length run.records.now = omega arith in
    let n : length (map line_view (take i run.lines.now)) ≡ i
    = omega (arith, length-map (take i run.lines.now) line_view, length-take i run.lines.now, run.as_many) in
    record {
      of_run = subst (λ (ends : List Ended). AreEnds (config_at run.configs.now) (map line_view run.lines.now) run.records.now ends)
          (sym c.deref.ensures.value)
          (c.in_ok-ends.ensures i r within (sym (ap (λ (x : Record). lacks_cells x.outcome) c.index-records-i.is) ∙ lacks));
      lines_first = sym (take-map line_view i run.lines.now) ∙ ap (λ k. take k (map line_view run.lines.now)) (sym n);
      records_first = ap (λ k. take k run.records.now) (sym n);
    }

pub lines-preserved : goal.lines-preserved
lines-preserved c =
    let run = c.args.run.now in
    let i = c.lines.i in
    let Fact : List ScriptLine → List Record → ScriptLine → Record → Type 0
    = λ before earlier l r. IsCaused (config_at run.configs.now) run.workers run.cells (map line_view run.lines.now) run.records.now before earlier l r in
    let within : i < length run.records.now = omega arith in (
      more run.lines.now run.records.now Fact i c.index-lines-i.result c.index-records-i.result run.as_many within c.index-lines-i.is
          c.index-records-i.is c.lines.invariant.0 (c.in_ok-caused.ensures.0 c.if-not-caused.false),
      more_lines (config_at run.configs.now) i (map line_view run.lines.now) run.records.now c.follow.new.bound
          (length-map run.lines.now line_view ∙ sym run.as_many)
          (subst (λ (ls : List ScriptLine). IsUpTo (config_at run.configs.now) ls (take i run.records.now) c.follow.new.bound)
          (sym (take-map line_view i run.lines.now)) c.in_ok-follow.ensures.up_to),
    )

pub returns : goal.returns
returns c =
    let run = c.args.run.now in
    let Fact : List ScriptLine → List Record → ScriptLine → Record → Type 0
    = λ before earlier l r. IsCaused (config_at run.configs.now) run.workers run.cells (map line_view run.lines.now) run.records.now before earlier l r in
    let all : length run.records.now ≤ c.lines.i = omega arith in
    (λ e. below_all c.lines.i (map line_view run.lines.now) run.records.now Fact all c.lines.invariant.0, λ h. refl)
