use Rattle.std.proofs.Common.{◌≡◌, map, take, string_bytes}
use Rattle.cli_serve.specs.Served.{end_lines}
use Rattle.cli_serve.proofs.lines.end_texts.Given as goal

abbrev pub invariant-ends : goal.invariant-ends
invariant-ends l = record {
  texts : map (λ t. string_bytes t) l.lines.items ≡ end_lines 0 (take l.link_end-index l.ends);
  number : l.number ≡ l.link_end-index;
}
