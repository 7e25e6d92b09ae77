use Rattle.std.proofs.Common.{◌≡◌, ◌++◌, map, drop, string_bytes}
use Rattle.run_lines.specs.RunLines.{other_lines}
use Rattle.run_lines.proofs.making.push_others.Given as goal

abbrev pub invariant-records : goal.invariant-records
invariant-records l = map (λ t. string_bytes t) l.made.items ++ other_lines (drop l.index l.records)
    ≡ map (λ t. string_bytes t) l.fn.made.items ++ other_lines l.records
