use Rattle.std.specs.Prelude.{◌∷◌}
use Rattle.request_tokens.specs.Usual.{IsShort}
use Rattle.request_tokens.specs.Compact.{entry_text}
use Rattle.request_tokens.proofs.Taking.{HasTaken}
use Rattle.request_tokens.proofs.compact.read_more.Given as goal

abbrev pub invariant-entries : goal.invariant-entries
invariant-entries l = HasTaken entry_text IsShort (entry_text l.fn.first (44 ∷ l.fn.cursor)) l.cursor l.list.items l.counter
