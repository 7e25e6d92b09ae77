use Rattle.std.proofs.Common.{◌≡◌, ◌≤◌, ◌+◌, ◌++◌, length, map, string_bytes}
use Rattle.rate_types.specs.declared.limits.TheConstants.{MOST_LINES}
use Rattle.text_lines.specs.Lines.{cut}
use Rattle.quota_server.specs.Servers.{AllFit}
use Rattle.quota_server.specs.Outcomes.{outputs, after_lines, pool_output, server_after}
use Rattle.quota_server.proofs.events.pool_lines.Given as goal

abbrev pub decreases-lines : goal.decreases-lines
decreases-lines l = length l.rest

abbrev pub invariant-lines : goal.invariant-lines
invariant-lines l = record {
  few : l.number + length (cut l.rest) ≤ MOST_LINES;
  output : map (λ t. string_bytes t) l.lines.items ++ outputs l.number l.server (cut l.rest) ≡ pool_output l.fn.pools l.fn.bytes;
  server : after_lines l.number l.server (cut l.rest) ≡ server_after l.fn.pools l.fn.bytes;
  fit : AllFit l.server;
}
