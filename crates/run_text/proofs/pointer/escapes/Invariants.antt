use Rattle.std.proofs.Common.{◌≡◌, drop, false}
use Rattle.run_text.specs.Pointers.{tildes}
use Rattle.run_text.proofs.pointer.escapes.Given as goal

abbrev pub invariant-bytes : goal.invariant-bytes
invariant-bytes l = tildes false l.bytes ≡ tildes l.after (drop l.b-index l.bytes)
