use Rattle.std.proofs.Common.{◌≡◌, ◌<◌, ◌++◌, ◌∷◌, List, length, map, sym, ap, ◌∙◌, arith}
use Rattle.run_text.specs.Views.{shown_of}
use Rattle.run_text.specs.declared.said.Said.{Said}
use Rattle.run_audit.proofs.RecordsBy.{kind_at}
use Rattle.run_audit.proofs.records.records_of.Goals as goal

pub returns-in_default-clause-none : goal.returns-in_default-clause-none
returns-in_default-clause-none c = λ workers one.
    let front = c.said.records.items in
    let rest = c.next.new.self.rest.items in
    let is : c.said.one-iterator.rest.items ≡ c.in-Some.one ∷ rest = c.in-Some.ensures.steps.0 in
    let same : front ++ shown_of c.in-Some.one ∷ map shown_of rest ≡ map shown_of c.args.said.items
    = ap (λ (l : List Said). front ++ map shown_of l) (sym is) ∙ c.said.invariant.same in
    let more : length c.said.one-iterator.rest.items ≡ length (c.in-Some.one ∷ rest) = ap length is in
    let within : c.len-in-said.result < length c.args.lines.now = omega (arith, c.len-in-said.ensures, c.said.invariant.long, more) in
    let place : length front ≡ c.len-in-said.result = sym (c.len-in-said.ensures ∙ c.said.records.ok.0) in
    let kind = kind_at workers c.args.lines.now (map shown_of c.args.said.items) front (map shown_of rest) c.len-in-said.result
    c.index-lines-len.result (shown_of c.in-Some.one) within c.index-lines-len.is place same one in
    let none = rw c.in_default.is at c.in_ok-rec.ensures.none in
    none kind
