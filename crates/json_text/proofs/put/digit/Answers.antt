use Rattle.std.proofs.Common.{◌≡◌, ◌<◌, ◌+◌, ℕ, [], ◌∷◌, sym, ap, ◌∙◌, arith}
use Rattle.std.specs.Prelude.{decimal}
use Rattle.std.proofs.lemmas.Fmt.{decimal_digit}
use Rattle.json_text.proofs.put.digit.Goals as goal

one : (n k : ℕ) → n ≡ k → k < 10 → (48 + k) ∷ [] ≡ decimal n
one n k is small = sym (ap decimal is ∙ decimal_digit k small)

pub returns-in-0-clause-text : goal.returns-in-0-clause-text
returns-in-0-clause-text c = one c.args.number 0 c.in-0.is (omega arith)

pub returns-in-1-clause-text : goal.returns-in-1-clause-text
returns-in-1-clause-text c = one c.args.number 1 c.in-1.is (omega arith)

pub returns-in-2-clause-text : goal.returns-in-2-clause-text
returns-in-2-clause-text c = one c.args.number 2 c.in-2.is (omega arith)

pub returns-in-3-clause-text : goal.returns-in-3-clause-text
returns-in-3-clause-text c = one c.args.number 3 c.in-3.is (omega arith)

pub returns-in-4-clause-text : goal.returns-in-4-clause-text
returns-in-4-clause-text c = one c.args.number 4 c.in-4.is (omega arith)

pub returns-in-5-clause-text : goal.returns-in-5-clause-text
returns-in-5-clause-text c = one c.args.number 5 c.in-5.is (omega arith)

pub returns-in-6-clause-text : goal.returns-in-6-clause-text
returns-in-6-clause-text c = one c.args.number 6 c.in-6.is (omega arith)

pub returns-in-7-clause-text : goal.returns-in-7-clause-text
returns-in-7-clause-text c = one c.args.number 7 c.in-7.is (omega arith)

pub returns-in-8-clause-text : goal.returns-in-8-clause-text
returns-in-8-clause-text c = one c.args.number 8 c.in-8.is (omega arith)

pub returns-in-9-clause-text : goal.returns-in-9-clause-text
returns-in-9-clause-text c = one c.args.number 9 c.in-9.is (omega arith)
