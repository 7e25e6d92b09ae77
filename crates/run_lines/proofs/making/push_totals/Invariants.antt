use Rattle.std.proofs.Common.{◌≡◌, ◌++◌, map, drop, string_bytes}
use Rattle.run_lines.specs.RunLines.{total_line}
use Rattle.run_lines.proofs.making.push_totals.Given as goal

abbrev pub invariant-totals : goal.invariant-totals
invariant-totals l = map (λ t. string_bytes t) l.made.items ++ map total_line (drop l.index l.totals)
    ≡ map (λ t. string_bytes t) l.fn.made.items ++ map total_line l.totals
