use Rattle.std.proofs.Common.{ap, arith}
use Rattle.rate_types.specs.Sums.{one_if}
use Rattle.line_numbers.proofs.Steps.{draws}
use Rattle.line_numbers.proofs.numbers.LineNumbers.draw.Goals as goal

pub fetch_add-found-requires : goal.fetch_add-found-requires
fetch_add-found-requires c =
    let d = c.args.drawer.now in
    let one = d.one in
    let words = c.args.self.now.words.0 in
    (ap (λ p. p.0) c.requires.drawer, omega arith, draws _ _ _ _ (omega arith) (let e = d.ends in let off = ap one_if c.if-drawer.false in omega arith))
