-- A worker's tally with one record more.
use Rattle.std.proofs.Common.{◌≡◌, ◌+◌, ◌-◌, ◌≤◌, List, [], ◌∷◌, ◌++◌, length-append, slice_get, Some, Bool, true, sym, ap, ◌∙◌, subst, arith}
use Rattle.reply_text.specs.declared.record.Record.{Record}
use Rattle.rule_stats.specs.Statistics.{Note}
use Rattle.rule_stats.specs.Sums.{AreSums, TallyView}
use Rattle.script_run.specs.ScriptLine.{ScriptLine}
use Rattle.run_stats.specs.RunStats.{notes_shown_by, notes_in, HasCounted}
use Rattle.run_stats.proofs.Gathering.{notes_push}

pub counted_push : (asked : Bool) (lines : List ScriptLine) (rs : List Record) (r : Record) (l : ScriptLine) (t u : TallyView)
    → slice_get lines (r.line - 1) ≡ Some l → HasCounted asked lines rs t
    → (asked ≡ true → (notes : List Note) → AreSums notes t.versions → AreSums (notes ++ notes_shown_by (slice_get lines (r.line - 1)) r) u.versions)
    → u.notes ≤ t.notes + 32 → HasCounted asked lines (rs ++ r ∷ []) u
counted_push asked lines rs r l t u there counted sums few = record {
  sums = λ is. subst (λ (ns : List Note). AreSums ns u.versions)
      (ap (λ o. notes_in lines rs ++ notes_shown_by o r) there ∙ sym (notes_push lines rs r l there)) (sums is (notes_in lines rs) (counted.sums is));
  few = omega (arith, few, counted.few, length-append rs (r ∷ []));
}
