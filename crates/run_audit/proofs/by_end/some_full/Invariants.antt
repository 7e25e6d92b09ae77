use Rattle.std.proofs.Common.{◌≡◌, ◌<◌, ℕ, false, get_or}
use Rattle.reply_text.specs.declared.record.Record.{Record}
use Rattle.run_audit.specs.Bound.{lacks_cells}
use Rattle.run_audit.proofs.by_end.some_full.Given as goal

abbrev pub invariant-records : goal.invariant-records
invariant-records l = (k : ℕ) (d : Record) → k < l.i → lacks_cells (get_or l.records k d).outcome ≡ false
