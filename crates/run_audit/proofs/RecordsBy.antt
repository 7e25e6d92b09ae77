-- The records that were read, at the places of their lines.
use Rattle.std.proofs.Common.{◌≡◌, ℕ, ◌<◌, List, ◌∷◌, ◌++◌, length, get_or, map, sym, ap, ◌∙◌, arith}
use Rattle.std.proofs.lemmas.List.{length-map, get_or_at}
use Rattle.reply_text.specs.declared.record.Record.{Record}
use Rattle.script_run.specs.ScriptLine.{ScriptLine}
use Rattle.script_run.specs.Kinds.{IsOfKind, IsRecordOf, OneRecordPerLine}
use Rattle.script_run.specs.Views.{line_view}
use Rattle.script_run.specs.declared.line.Line.{Line}
use Rattle.run_audit.proofs.Each.{here}

-- a record that stands at the place of its line is of the line's kind
pub kind_at : (workers : ℕ) (lines : List Line) (all front rest : List Record) (i : ℕ) (x : Line) (r : Record) → i < length lines
    → x ≡ get_or lines i x → length front ≡ i → front ++ r ∷ rest ≡ all → OneRecordPerLine workers (map line_view lines) all
    → IsOfKind (line_view x) r.outcome
kind_at workers lines all front rest i x r within is_x place same one =
    let many : length all ≡ length lines = omega (arith, one.as_many, length-map lines line_view) in
    let Fact : List ScriptLine → List Record → ScriptLine → Record → Type 0 = λ before earlier l s. IsRecordOf workers before l s in
    let is_r : r ≡ get_or all i r = sym (get_or_at front r rest r i place) ∙ ap (λ (l : List Record). get_or l i r) same in
    (here lines all Fact i x r many (omega (arith, within, many)) is_x is_r one.each).kind
