use Rattle.std.proofs.Common.{◌≡◌, ◌∙◌, false, get_or, sym, arith}
use Rattle.rate_limiter.specs.Asked.{is_missing}
use Rattle.rate_limiter.specs.declared.asked.Asked.{Asked}
use Rattle.rate_limiter.proofs.AskedCounters.{each_below, no_ask}
use Rattle.rate_limiter.proofs.Totalling.{item_at}
use Rattle.rate_limiter.proofs.hold.first_missing.Goals as goal

pub asked-init : goal.asked-init
asked-init c = λ i a lt at. absurd (omega arith)

pub asked-preserved : goal.asked-preserved
asked-preserved c =
    let xs = c.args.asked.now in
    let i = c.asked.place in
    let a : Asked = get_or xs i no_ask in
    each_below (λ (x : Asked). is_missing x.found x.known ≡ false) xs i a (item_at xs i no_ask (omega arith)) (sym c.is_missing.ensures ∙ c.if-is_missing.false) c.asked.invariant

pub returns-then-is_missing : goal.returns-then-is_missing
returns-then-is_missing c =
    let xs = c.args.asked.now in
    let i = c.asked.place in (
      record { a = get_or xs i no_ask; at = item_at xs i no_ask (omega arith); missing = sym c.is_missing.ensures ∙ c.if-is_missing.true },
      c.asked.invariant,
    )

pub returns : goal.returns
returns c = λ i a lt at. c.asked.invariant i a (omega arith) at
