use Rattle.std.proofs.Common.{◌≡◌, take}
use Rattle.quota_settings.specs.Parts.{pairs_of}
use Rattle.quota_settings.proofs.part.given.Given as goal

abbrev pub invariant-loop-part : goal.invariant-loop-part
invariant-loop-part l = l.pairs.items ≡ pairs_of (take l.part-index l.parts) l.attributes
