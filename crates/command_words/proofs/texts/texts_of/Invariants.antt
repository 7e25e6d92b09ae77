use Rattle.std.proofs.Common.{◌≡◌, map, take}
use Rattle.command_words.proofs.texts.texts_of.Given as goal

abbrev pub invariant-words : goal.invariant-words
invariant-words l = map (λ t. t.now) l.texts.items ≡ take l.index l.words
