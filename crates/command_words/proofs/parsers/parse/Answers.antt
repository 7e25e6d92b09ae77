use Rattle.command_words.proofs.Apps.{first_holds}
use Rattle.command_words.proofs.parsers.parse.Goals as goal

pub returns-in-Ok-clause-rows : goal.returns-in-Ok-clause-rows
returns-in-Ok-clause-rows c = (c.in-Ok.ensures.matches (first_holds _ _ c.requires)).0
