use Rattle.std.proofs.Common.{◌≡◌, ◌++◌, map, string_bytes}
use Rattle.run_lines.specs.RunLines.{text_line}
use Rattle.run_lines.proofs.making.push_texts.Given as goal

abbrev pub invariant-loop-text : goal.invariant-loop-text
invariant-loop-text l = map (λ t. string_bytes t) l.made.items ++ map text_line (map (λ t. string_bytes t) l.text-iterator.rest.items)
    ≡ map (λ t. string_bytes t) l.fn.made.items ++ map text_line (map (λ t. string_bytes t) l.fn.texts.items)
