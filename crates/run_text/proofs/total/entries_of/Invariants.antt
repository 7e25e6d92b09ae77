use Rattle.std.proofs.Common.{◌≡◌, map, take}
use Rattle.serde_json.specs.View.{view}
use Rattle.run_text.specs.FoundTotal as found
use Rattle.run_text.proofs.total.entries_of.Given as goal

abbrev pub invariant-values : goal.invariant-values
invariant-values l = l.entries.items ≡ map found.entry_in (map view (take l.value-index l.values))
