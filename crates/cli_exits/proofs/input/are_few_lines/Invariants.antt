use Rattle.std.proofs.Common.{◌≡◌, ◌+◌, ◌≤◌, length}
use Rattle.rate_types.specs.declared.limits.TheConstants.{MOST_LINES}
use Rattle.text_lines.specs.Lines.{cut}
use Rattle.cli_exits.proofs.input.are_few_lines.Given as goal

abbrev pub invariant-lines : goal.invariant-lines
invariant-lines l = record {
  count : l.lines + length (cut l.rest) ≡ length (cut l.bytes);
  within : l.lines ≤ MOST_LINES;
}

abbrev pub decreases-lines : goal.decreases-lines
decreases-lines l = length l.rest
