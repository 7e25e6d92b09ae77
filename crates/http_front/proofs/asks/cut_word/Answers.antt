use Rattle.std.proofs.Common.{◌≡◌, ◌+◌, ◌-◌, ◌==◌, take, drop, length, Some, sym, ◌∙◌, arith, length-drop}
use Rattle.std.specs.List.{position}
use Rattle.std.proofs.lemmas.List.{take_all}
use Rattle.http_front.proofs.Cuts.{split_some, split_none}
use Rattle.http_front.proofs.asks.cut_word.Goals as goal

pub returns-in-Some-clause-cases : goal.returns-in-Some-clause-cases
returns-in-Some-clause-cases c =
    let bytes = c.args.value.now in
    let at : position (λ b. b == 44) c.args.value.now ≡ Some c.in-Some.at = sym c.place_of.ensures.at ∙ c.in-Some.is in
    let rest : take (length c.args.value.now - (c.in-Some.at + 1)) (drop (c.in-Some.at + 1) c.args.value.now) ≡ drop (c.in-Some.at + 1) c.args.value.now =
    take_all _ _ (omega (arith, length-drop (c.in-Some.at + 1) c.args.value.now)) in
    rw rest (split_some _ c.args.value.now c.in-Some.at at)

pub returns-in-None-clause-cases : goal.returns-in-None-clause-cases
returns-in-None-clause-cases c = split_none _ c.args.value.now (sym c.place_of.ensures.at ∙ c.in-None.is)
