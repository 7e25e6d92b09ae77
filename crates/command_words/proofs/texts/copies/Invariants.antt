use Rattle.std.proofs.Common.{◌≡◌, map, take}
use Rattle.command_words.proofs.texts.copies.Given as goal

abbrev pub invariant-texts : goal.invariant-texts
invariant-texts l = l.words.items ≡ map (λ t. t.now) (take l.index l.texts)
