use Rattle.std.proofs.Common.{◌∷◌, Some, ap, sym, ◌∙◌, arith}
use Rattle.atomic_table.specs.Table.{rest}
use Rattle.told_list.proofs.Steps.{ends}
use Rattle.told_list.proofs.turn.end.Goals as goal

pub store-requires : goal.store-requires
store-requires g c =
    let x = c.exchange.ensures in (
      x.0 ∙ c.requires.here.0,
      omega (arith, c.requires.here.1),
      ends _ _ _ _ _ _ c.args.kept _ c.requires.here.2 (ap (λ m. m.0.holds) x.3 ∙ c.requires.turn.0)
          (ap (λ m. m.1) x.3 ∙ ap (λ l. (0, Some c.args.kept) ∷ rest l) c.requires.turn.1) (c.requires.knows ∙ sym (ap (λ m. m.0.known) x.3)) c.requires.fixed,
    )
