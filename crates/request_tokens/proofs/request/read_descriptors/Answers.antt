use Rattle.request_tokens.specs.Usual.{IsPlain, descriptor_tokens}
use Rattle.request_tokens.proofs.Reading.{closed}
use Rattle.request_tokens.proofs.request.read_descriptors.Goals as goal

pub returns-then-take_end_array-clause-tokens : goal.returns-then-take_end_array-clause-tokens
returns-then-take_end_array-clause-tokens c =
    closed descriptor_tokens IsPlain _ _ _ _ _ c.descriptors.invariant c.if-take_end_array.ensures
