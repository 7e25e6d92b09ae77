use Rattle.std.proofs.Common.{ap, arith}
use Rattle.told_list.proofs.Steps.{splits}
use Rattle.told_list.proofs.tokens.split_token.Goals as goal

pub split_seat-seat-requires : goal.split_seat-seat-requires
split_seat-seat-requires g c =
    let idle = c.requires.idle.1 in
    (c.requires.here.0, omega (arith, c.requires.here.1), splits _ _ _ _ _ _ (ap (λ v. v.holds) idle) (ap (λ v. v.unfilled) idle) (ap (λ v. v.own) idle) c.requires.idle.2)
