use Rattle.told_list.proofs.Steps.{justified_last}
use Rattle.told_list.proofs.tokens.take_last.Goals as goal

pub begin-requires-clause-justified : goal.begin-requires-clause-justified
begin-requires-clause-justified g c = justified_last _ _ _ _ _ _ c.requires.idle.1 c.requires.idle.2 c.requires.every.0
