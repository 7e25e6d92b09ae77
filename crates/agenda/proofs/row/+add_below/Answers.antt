use Rattle.std.proofs.Common.{◌≡◌, ◌∙◌, Bool, true, None, get_or, sym}
use Rattle.agenda.specs.Reached.{is_reached}
use Rattle.agenda.proofs.Reaching.{below_reached}
use Rattle.agenda.proofs.row.+add_below.Goals as goal

pub returns-in_ok-add_below-2 : goal.returns-in_ok-add_below-2
returns-in_ok-add_below-2 t c =
    let now : is_reached c.args.at (get_or c.moments.result.now c.args.index None) ≡ true = sym c.reaches.ensures ∙ c.if-reaches.true in
    below_reached c.args.at c.args.moments.now c.args.rows.now c.in-Some.rest.now c.in-Some.row.now c.args.index c.args.found.now.items
    c.add_below.new.found.items c.add_below-then-reaches.new.found.items c.in-Some.ensures.cases.0 (rw c.moments.ensures at now)
    c.in_ok-add_below.ensures c.in_ok-add_below-2.ensures
