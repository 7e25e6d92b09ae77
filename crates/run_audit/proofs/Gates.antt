-- Tests joined in another order.
use Rattle.std.proofs.Common.{◌≡◌, ◌||◌, ◌&&◌, Bool, true, false, refl}

pub grouped : (a b d : Bool) → ((a || b) || d) ≡ (a || (b || d))
grouped true b d = refl
grouped false b d = refl

pub first_later : (a b d : Bool) → (a || (b || d)) ≡ (b || (a || d))
first_later true true d = refl
first_later true false d = refl
first_later false b d = refl

pub step_after : (h o a t : Bool) → ((h || (o && a)) || (o && t)) ≡ (h || (o && (a || t)))
step_after true o a t = refl
step_after false false a t = refl
step_after false true a t = refl

pub open_false : (o : Bool) → (o && false) ≡ false
open_false true = refl
open_false false = refl

pub or_false : (a b : Bool) → b ≡ false → (a || b) ≡ a
or_false true b e = refl
or_false false b e = e

pub and_true : (a b : Bool) → b ≡ true → (a && b) ≡ a
and_true true b e = e
and_true false b e = refl
