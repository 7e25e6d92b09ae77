use Rattle.std.proofs.Common.{◌≡◌, ℕ, Bool, true, false, cond, Some, refl, ap, ◌∙◌, is_eq, unwrap_or}
use Rattle.std.specs.Prelude.{Option}
use Rattle.std.specs.BTreeMap.{is_at}
use Rattle.std.specs.Map.{lookup}
use Rattle.std.specs.Ordering.{nat_cmp}
use Rattle.run_audit.specs.Greatest.{number_in}
use Rattle.run_audit.proofs.Earliest.{number_ties}
use Rattle.run_audit.proofs.earlier.put.Goals as goal

either_number : (b : Bool) (v : ℕ) (o : Option ℕ) → unwrap_or (cond b (Some v) o) 0 ≡ cond b v (unwrap_or o 0)
either_number true v o = refl
either_number false v o = refl

pub returns : goal.returns
returns c = λ w.
    ap (λ (o : Option ℕ). unwrap_or o 0) (c.in_ok-insert.ensures.updates.0 w)
    ∙ either_number (is_eq (nat_cmp c.args.key w)) c.args.number (lookup (is_at (nat_cmp w)) c.args.numbers.now.entries)
    ∙ ap (λ b. cond b c.args.number (number_in c.args.numbers.now.entries w)) (number_ties c.args.key w)
