use Rattle.std.specs.Prelude.{◌∷◌}
use Rattle.request_tokens.specs.Usual.{IsPlain}
use Rattle.request_tokens.specs.Compact.{descriptor_text}
use Rattle.request_tokens.proofs.Taking.{HasTaken}
use Rattle.request_tokens.proofs.compact.read_more_descriptors.Given as goal

abbrev pub invariant-descriptors : goal.invariant-descriptors
invariant-descriptors l = HasTaken descriptor_text IsPlain (descriptor_text l.fn.first (44 ∷ l.fn.cursor)) l.cursor l.list.items l.counter
