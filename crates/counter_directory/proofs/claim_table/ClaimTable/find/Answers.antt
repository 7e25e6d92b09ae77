use Rattle.std.proofs.Common.{◌≡◌, refl, ap, ◌∙◌, subst, arith}
use mathlib.Core.Option.{some}
use lib.ListN.{get_elem?}
use Rattle.rate_types.specs.Units.{unit_rank}
use Rattle.counter_directory.proofs.Lists.{at_index}
use Rattle.counter_directory.proofs.Ringing.{rank_few}
use Rattle.counter_directory.proofs.Indexing.{found_bound, found_none}
use Rattle.counter_directory.proofs.claim_table.ClaimTable.find.Goals as goal

pub returns-clause-bound : goal.returns-clause-bound
returns-clause-bound g c =
    let b = c.args.self.now in
    let n = c.args.name.now in
    let r = c.index.result.now in
    let e : c.from-unit.result ≡ unit_rank n.unit = omega (arith, c.from-unit.ensures, c.rank.ensures, ap unit_rank c.unit.ensures) in
    let at : get_elem? b.index.items (unit_rank n.unit) ≡ some r = subst (λ k. get_elem? b.index.items k ≡ some r) e
    (at_index b.index.items c.from-unit.result r (omega (arith, e, b.found.four, rank_few n.unit)) c.index.ensures) in
    found_bound c.copied.result (unit_rank n.unit) b.pool.last b.pool.claims r n (b.found.each (unit_rank n.unit) r at) (c.copied.ensures ∙ c.get.ensures.value)

pub returns-clause-none : goal.returns-clause-none
returns-clause-none g c =
    let b = c.args.self.now in
    let n = c.args.name.now in
    let r = c.index.result.now in
    let e : c.from-unit.result ≡ unit_rank n.unit = omega (arith, c.from-unit.ensures, c.rank.ensures, ap unit_rank c.unit.ensures) in
    let at : get_elem? b.index.items (unit_rank n.unit) ≡ some r = subst (λ k. get_elem? b.index.items k ≡ some r) e
    (at_index b.index.items c.from-unit.result r (omega (arith, e, b.found.four, rank_few n.unit)) c.index.ensures) in
    found_none c.copied.result (unit_rank n.unit) b.pool.last b.pool.claims r n (b.found.each (unit_rank n.unit) r at) refl (c.copied.ensures ∙ c.get.ensures.value)
