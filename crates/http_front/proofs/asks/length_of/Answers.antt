use Rattle.std.proofs.Common.{◌≡◌, ◌+◌, ◌-◌, ◌^◌, ◌<◌, length, true, arith, sym, ◌∙◌}
use Rattle.std.specs.Char.{is_ascii_digit}
use Rattle.http_front.proofs.Digits.{one_more, all_more}
use Rattle.http_front.proofs.asks.length_of.Goals as goal

pub digits-preserved : goal.digits-preserved
digits-preserved c =
    let first = c.in-Some.ensures.cases in
    let digit : is_ascii_digit c.in-Some.digit.now ≡ true = sym c.is_ascii_digit.ensures.value ∙ c.if-not-is_ascii_digit.false in
    let below : c.digits.count < 10 ^ (10 - (length c.in-Some.after.now + 1)) = rw first.1 c.digits.invariant.bound in
    record {
      value = rw c.with_digit-count.ensures.value (rw first.0 at c.digits.invariant.value);
      digits = all_more is_ascii_digit c.in-Some.digit.now c.in-Some.after.now _ (rw first.0 at c.digits.invariant.digits) digit;
      within = omega (arith, first.1);
      short = c.digits.invariant.short;
      some = c.digits.invariant.some;
      bound = rw c.with_digit-count.ensures.value (one_more c.digits.count (length c.in-Some.after.now) _ (omega (arith, first.1)) below c.with_digit-count.ensures.small);
    }
