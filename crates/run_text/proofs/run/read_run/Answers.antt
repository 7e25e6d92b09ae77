use Rattle.std.proofs.Common.{◌≡◌, ℕ, List, ◌<◌, ◌+◌, length, map, sym, ◌∙◌, arith}
use Rattle.std.proofs.lemmas.List.{length-map}
use Rattle.run_text.specs.Run.{IsWrongAt, IsNoRun}
use Rattle.run_text.specs.Views.{shown_of}
use Rattle.run_text.proofs.OneReading.{not_a_run}
use Rattle.run_text.proofs.RunTexts.{run_wrong, run_unended}
use Rattle.run_text.proofs.run.read_run.Goals as goal

wrong : (bytes : List ℕ) (place : ℕ) → IsWrongAt bytes place → IsWrongAt bytes place × IsNoRun bytes
wrong bytes place is = (is, not_a_run bytes place is)

pub returns-then-tail-gt0 : goal.returns-then-tail-gt0
returns-then-tail-gt0 c =
    let n : c.len.result + c.len-2.result + 1 ≡ length (map shown_of c.in_ok-head.head.records.items) + length c.in_ok-tail.tail.totals.items + 1 =
    omega (arith, length-map c.in_ok-head.head.records.items shown_of) in
    let some : 0 < length c.in_ok-tail.tail.rest.now = omega arith in
    wrong c.args.bytes.now (c.len.result + c.len-2.result + 1)
    (run_wrong c.args.bytes.now c.in_ok-head.head.rest.now c.in_ok-tail.tail.rest.now (map shown_of c.in_ok-head.head.records.items)
    c.in_ok-tail.tail.totals.items (c.len.result + c.len-2.result + 1) c.in_ok-head.ensures.read c.in_ok-tail.ensures.read some (c.in_ok-tail.ensures.stops some)
    c.in_ok-head.ensures.stops n)

pub returns-then-not-is_ended : goal.returns-then-not-is_ended
returns-then-not-is_ended c =
    let n : c.len.result + c.len-2.result ≡ length (map shown_of c.in_ok-head.head.records.items) + length c.in_ok-tail.tail.totals.items =
    omega (arith, length-map c.in_ok-head.head.records.items shown_of) in
    let over : length c.in_ok-tail.tail.rest.now ≡ 0 = omega arith in
    wrong c.args.bytes.now (c.len.result + c.len-2.result)
    (run_unended c.args.bytes.now c.in_ok-head.head.rest.now c.in_ok-tail.tail.rest.now (map shown_of c.in_ok-head.head.records.items)
    c.in_ok-tail.tail.totals.items (c.len.result + c.len-2.result) c.in_ok-head.ensures.read c.in_ok-tail.ensures.read over
    (sym c.is_ended.ensures ∙ c.if-not-is_ended.true) n)
