use Rattle.std.proofs.Common.{◌≡◌, ◌∙◌, ◌/◌, ℕ, List, ◌∷◌, Option, None, arith, ap, sym, get_or}
use Rattle.std.proofs.Math.ListN.{set}
use Rattle.agenda.specs.Halves.{halves, IsTower}
use Rattle.agenda.proofs.Halving.{over_within, over_set}
use Rattle.agenda.proofs.agenda.+set_in.Goals as goal

pub set_in-requires : goal.set_in-requires
set_in-requires t c =
    let tower : IsTower c.args.row.now (c.in-Some.next.now ∷ c.in-Some.rest.now) = rw c.in-Some.ensures.cases.0 at c.requires.tower in (
      omega (arith, c.in-Some.ensures.cases.1),
      (over_within c.args.row.now c.in-Some.next.now c.args.index c.requires.within tower.0, tower.1),
    )

pub returns-in-Some-clause-tower : goal.returns-in-Some-clause-tower
returns-in-Some-clause-tower t c =
    let tower : IsTower c.args.row.now (c.in-Some.next.now ∷ c.in-Some.rest.now) = rw c.in-Some.ensures.cases.0 at c.requires.tower in
    let least : c.earlier_of_pair-earlier.result ≡ get_or (halves (set c.args.row.now c.args.index c.args.moment)) (c.args.index / 2) None =
    c.earlier_of_pair-earlier.ensures
    ∙ ap (λ (ms : List (Option ℕ)). get_or (halves ms) (c.args.index / 2) None) (c.moments-in-Some.ensures ∙ c.set.ensures) in (
      c.set_in.ensures.row
          ∙ over_set c.args.row.now c.in-Some.next.now c.args.index c.args.moment c.earlier_of_pair-earlier.result c.requires.within tower.0 least
          ∙ ap halves (sym c.set.ensures),
      c.set_in.ensures.tower,
    )
