use Rattle.std.proofs.Common.{flat_map, string_bytes, ◌++◌, sym, ap, ◌∙◌, map-id}
use Rattle.std.proofs.lemmas.Iterator.{YieldsList-from_chars}
use Rattle.std.proofs.lemmas.Iterator.Consumers.{YieldsList-end}
use Rattle.cli_exits.specs.Reports.{shown, shown_place}
use Rattle.cli_exits.proofs.report.push_place.Goals as goal

pub returns : goal.returns
unfolding shown_place
returns c =
    let end = YieldsList-end (YieldsList-from_chars c.args.place.now c.utf8.place cc) c.loop-c.yielded _ c.loop-c.yielded_by _ _ c.in-None.is c.next.ensures.steps in
    c.loop-c.invariant ∙ ap (λ cs. string_bytes c.args.text.now ++ flat_map shown cs) (sym (map-id c.loop-c.yielded) ∙ end.0)
