use Rattle.std.proofs.Common.{refl}
use Rattle.keyed_hash.specs.KeyedHash.{folded}
use Rattle.keyed_hash.proofs.hasher.folded.Goals as goal

pub returns : goal.returns
unfolding folded
returns c = refl
