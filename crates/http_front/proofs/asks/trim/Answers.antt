use Rattle.std.proofs.Common.{◌≡◌, length}
use Rattle.http_front.proofs.Trims.{trimmed_empty}
use Rattle.http_front.proofs.asks.trim.Goals as goal

pub returns : goal.returns
returns c =
    let none : length c.blanks.rest.now ≡ 0 = c.in_default.ensures.cases in
    trimmed_empty c.args.bytes.now c.blanks.rest.now none c.blanks.invariant
