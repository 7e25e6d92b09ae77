use Rattle.std.proofs.Common.{sym, ◌∙◌, subst, arith}
use Rattle.rate_types.specs.Sums.{total, times}
use Rattle.line_numbers.specs.Rising.{IsDrawnOnce}
use Rattle.line_numbers.specs.Drawers.{drawn}
use Rattle.line_numbers.proofs.Joining.{closes}
use Rattle.line_numbers.proofs.numbers.LineNumbers.close.Goals as goal

pub returns-clause-once : goal.returns-clause-once
returns-clause-once c n =
    let self = c.args.self in
    let e = closes self.table.shared.key _ _ c.args.drawers.items _ _ c.word-asked.result
    c.join_drawers-all.ensures.all (sym c.args.drawers.ok.0 ∙ c.requires.every) c.close_with-closed.ensures.values.2 c.word-asked.ensures in
    let setup = self.setup in
    subst (λ k. IsDrawnOnce k n (total (λ d. times n (drawn d)) c.args.drawers.items)) (let m = c.min.ensures in omega arith) (e.once n)

pub returns-clause-whole : goal.returns-clause-whole
returns-clause-whole c k d le told =
    let self = c.args.self in
    let e = closes self.table.shared.key _ _ c.args.drawers.items _ _ c.word-asked.result
    c.join_drawers-all.ensures.all (sym c.args.drawers.ok.0 ∙ c.requires.every) c.close_with-closed.ensures.values.2 c.word-asked.ensures in
    let setup = self.setup in
    let w = e.whole k d le told in
    let m = c.min.ensures in
    omega arith
