use Rattle.std.proofs.Common.{◌∙◌, ◌++◌, String, map, string_bytes, refl, sym, ap}
use Rattle.std.proofs.lemmas.List.{append-nil}
use Rattle.std.specs.declared.alloc.Global.{Global}
use Rattle.run_lines.proofs.Weaving.{others_none}
use Rattle.run_lines.proofs.making.push_others.Goals as goal

pub returns-then-are_short : goal.returns-then-are_short
returns-then-are_short c =
    let made = map (λ (t : String Global). string_bytes t) c.args.made.now.items in
    sym (append-nil made) ∙ ap (λ l. made ++ l) (sym (others_none c.args.records.now (c.if-are_short.ensures refl)))
