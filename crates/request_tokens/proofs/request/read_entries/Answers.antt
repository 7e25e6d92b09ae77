use Rattle.request_tokens.specs.Usual.{IsShort, entry_tokens}
use Rattle.request_tokens.proofs.Reading.{closed}
use Rattle.request_tokens.proofs.request.read_entries.Goals as goal

pub returns-then-take_end_array-clause-tokens : goal.returns-then-take_end_array-clause-tokens
returns-then-take_end_array-clause-tokens c =
    closed entry_tokens IsShort _ _ _ _ _ c.entries.invariant c.if-take_end_array.ensures
