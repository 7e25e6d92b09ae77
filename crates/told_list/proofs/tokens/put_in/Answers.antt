use Rattle.std.proofs.Common.{ap, arith}
use Rattle.told_list.proofs.Steps.{unfilled}
use Rattle.told_list.proofs.tokens.put_in.Goals as goal

pub store-requires : goal.store-requires
store-requires g c =
    (c.requires.here.0, omega (arith, c.requires.here.1), unfilled _ _ _ _ _ _ _ (ap (λ m. m.1) c.requires.unfilled) (ap (λ m. m.0.unfilled) c.requires.unfilled))
