use Rattle.std.proofs.Common.{◌≡◌, ◌+◌, ◌/◌, ◌∙◌, arith, ap, length}
use Rattle.agenda.proofs.Halving.{length-halves}
use Rattle.agenda.proofs.agenda.+rows_over.Goals as goal

pub rows_over-requires : goal.rows_over-requires
rows_over-requires t c =
    let size : length c.moments.result.now ≡ (length c.args.moments.now + 1) / 2 =
    ap length (c.moments.ensures ∙ c.in_ok-row.ensures) ∙ length-halves c.args.moments.now in
    (omega (arith, size), tt)
