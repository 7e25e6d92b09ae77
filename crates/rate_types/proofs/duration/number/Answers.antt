use Rattle.std.proofs.Common.{arith}
use Rattle.rate_types.proofs.Numbers.{begins, fits, goes_on}
use Rattle.rate_types.proofs.duration.number.Goals as goal

pub digits-init : goal.digits-init
digits-init c = begins _ c.requires.short c.requires.digits

pub overflow_mul-number : goal.overflow_mul-number
overflow_mul-number c = omega (arith, (fits _ _ _ c.digits.invariant c.in-len1-up.len_at_least).0)

pub overflow_add-number : goal.overflow_add-number
overflow_add-number c = let f = fits _ _ _ c.digits.invariant c.in-len1-up.len_at_least in omega (arith, f.0, f.1, f.2)

pub digits-preserved : goal.digits-preserved
digits-preserved c = goes_on _ _ _ c.digits.invariant c.in-len1-up.len_at_least
