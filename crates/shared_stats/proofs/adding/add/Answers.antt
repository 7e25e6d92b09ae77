use Rattle.std.proofs.Common.{◌≡◌, ◌+◌, ◌==◌, ℕ, if◌then◌else◌, sym, subst, arith}
use Rattle.atomic_table.specs.Table.{Me}
use Rattle.shared_stats.specs.declared.rule.AdderView.{AdderView}
use Rattle.shared_stats.specs.Rule.{added_to}
use Rattle.shared_stats.proofs.Amounts.{added_more}
use Rattle.shared_stats.proofs.Steps.{adds}
use Rattle.shared_stats.proofs.adding.add.Goals as goal

pub fetch_add-requires : goal.fetch_add-requires
fetch_add-requires c =
    let h = c.requires.here in
    let one = h.one in
    let words = h.words in
    let within = c.requires.within in
    let room = c.requires.room in
    (h.table, omega arith, adds _ _ _ _ _ _ within (omega arith) one)

pub returns-clause-added : goal.returns-clause-added
returns-clause-added c w =
    let old = c.args.seat.now.me.0.added in
    subst (λ (m : Me ℕ AdderView). added_to w m.0.added ≡ added_to w old + (if c.args.word == w then c.args.amount else 0))
    (sym c.fetch_add.ensures.2) (added_more w c.args.word c.args.amount old)
