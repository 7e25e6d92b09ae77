use Rattle.std.proofs.Common.{⊎_elim, ap, ◌∙◌, arith, Some}
use Rattle.told_list.proofs.Steps.{begins, one_carried}
use Rattle.told_list.proofs.turn.begin.Goals as goal

pub compare_exchange-requires : goal.compare_exchange-requires
compare_exchange-requires g c = (c.requires.here.0, omega (arith, c.requires.here.1), begins _ _ _ _ _ _ _ _ _ c.requires.bare c.requires.token c.requires.justified)

pub exchange-requires : goal.exchange-requires
exchange-requires g c =
    let e = c.compare_exchange.ensures in
    (e.0 ∙ c.requires.here.0, ⊎_elim (λ x. (Some x.1, one_carried _ _ (ap (λ m. m.1) x.2))) (λ x. absurd (x.0 c.if-compare_exchange-ne-FREE.false)) e.2)
