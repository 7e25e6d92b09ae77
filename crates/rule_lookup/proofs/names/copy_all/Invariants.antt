use Rattle.std.proofs.Common.{◌≡◌, take}
use Rattle.rule_lookup.proofs.names.copy_all.Given as goal

abbrev pub invariant-texts : goal.invariant-texts
invariant-texts l = l.copies.items ≡ take l.text-index l.texts
