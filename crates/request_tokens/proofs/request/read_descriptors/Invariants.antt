use Rattle.request_tokens.specs.Usual.{IsPlain, descriptor_tokens}
use Rattle.request_tokens.proofs.Reading.{HasRead}
use Rattle.request_tokens.proofs.request.read_descriptors.Given as goal

abbrev pub invariant-descriptors : goal.invariant-descriptors
invariant-descriptors l = HasRead descriptor_tokens IsPlain l.fn.reader l.reader l.list.items l.counter
