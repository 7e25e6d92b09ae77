use Rattle.std.proofs.Common.{◌≡◌, ◌+◌, ◌++◌, map, length, string_bytes}
use Rattle.text_lines.specs.Lines.{cut}
use Rattle.cli_lookup.specs.Lookup.{lookup_from, lookup_output}
use Rattle.cli_lookup.proofs.lookup.lookup_lines.Given as goal

abbrev pub invariant-lines : goal.invariant-lines
invariant-lines l = record {
  written : map (λ t. string_bytes t) l.lines.items ++ lookup_from l.index (l.line + 1) (cut l.rest) ≡ lookup_output l.index l.bytes;
  count : l.line + length (cut l.rest) ≡ length (cut l.bytes);
}

abbrev pub decreases-lines : goal.decreases-lines
decreases-lines l = length l.rest
