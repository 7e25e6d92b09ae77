use Rattle.std.proofs.Common.{◌≡◌, refl, ap, subst, sym, arith}
use Rattle.rule_stats.specs.Sums.{AreSums, IsBelow}
use Rattle.rule_stats.proofs.Adding.{sums_free, one_below, added_below, added_sums}
use Rattle.rule_stats.proofs.tally.Tally.add.Goals as goal

pub returns-in_default-clause-sums : goal.returns-in_default-clause-sums
returns-in_default-clause-sums c notes are =
    sums_free notes (record { version = c.args.version; hits = c.args.hits; status = c.args.status.now }) c.in_default.is c.self.inside.versions.items
    (subst (λ t. AreSums notes t.versions) (sym c.self.view_is) are)

pub add-requires-clause-new : goal.add-requires-clause-new
add-requires-clause-new c = subst (IsBelow 1) (sym c.numbers_of-numbers.ensures) (one_below c.args.status.now c.args.hits c.ranges.hits.fits)

pub invariant_of-self-2 : goal.invariant_of-self-2
invariant_of-self-2 c =
    let one : IsBelow 1 c.numbers_of-numbers.result =
    subst (IsBelow 1) (sym c.numbers_of-numbers.ensures) (one_below c.args.status.now c.args.hits c.ranges.hits.fits) in
    let notes : c.self.inside.notes ≡ c.args.self.now.notes = ap (λ t. t.notes) c.self.view_is in (
      omega (arith, c.requires.room, notes),
      added_below c.self.inside.versions.items c.reach_version.new.versions.items c.args.version c.index_mut.result.now c.add.new.self
          c.in-Some.rule c.numbers_of-numbers.result c.in_ok-reach_version.ensures.there c.reach_version.ensures.same c.index_mut.ensures.value
          c.in_ok-add.ensures.sums c.self.inside.notes c.self.invariant.1 one,
    )

pub returns-clause-sums : goal.returns-clause-sums
returns-clause-sums c notes are =
    added_sums c.self.inside.versions.items c.reach_version.new.versions.items c.args.version c.index_mut.result.now c.add.new.self
    c.in-Some.rule c.numbers_of-numbers.result c.in_ok-reach_version.ensures.there c.reach_version.ensures.same c.index_mut.ensures.value
    c.in_ok-add.ensures.sums notes (record { version = c.args.version; hits = c.args.hits; status = c.args.status.now }) refl c.in-Some.is
    (sym c.numbers_of-numbers.ensures) (subst (λ t. AreSums notes t.versions) (sym c.self.view_is) are)
