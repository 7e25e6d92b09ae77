use Rattle.std.proofs.Common.{◌≡◌, ◌-◌, ◌≤◌, List, [], ◌∷◌, length, drop, true, refl, sym, ◌∙◌, arith, length-drop}
use Rattle.rate_types.specs.Counters.{same_counter}
use Rattle.rate_types.specs.Ledger.{Charge}
use Rattle.rate_types.specs.declared.counter_key.CounterKey.{CounterKey}
use Rattle.run_audit.specs.Chain.{follow}
use Rattle.run_audit.proofs.chain.follow.Goals as goal

short : (xs : List (Charge CounterKey)) → length xs ≤ 1 → follow same_counter xs ≡ true
short [] h = refl
short (x ∷ []) h = refl
short (x ∷ y ∷ ys) h = absurd (omega arith)

pub returns : goal.returns
returns c =
    sym (c.charges.invariant ∙ short (drop (c.charges.i - 1) c.args.charges.now) (omega (arith, length-drop (c.charges.i - 1) c.args.charges.now)))
