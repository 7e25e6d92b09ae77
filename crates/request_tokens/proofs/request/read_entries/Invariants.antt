use Rattle.request_tokens.specs.Usual.{IsShort, entry_tokens}
use Rattle.request_tokens.proofs.Reading.{HasRead}
use Rattle.request_tokens.proofs.request.read_entries.Given as goal

abbrev pub invariant-entries : goal.invariant-entries
invariant-entries l = HasRead entry_tokens IsShort l.fn.reader l.reader l.list.items l.counter
