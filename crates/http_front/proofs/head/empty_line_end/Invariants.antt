use Rattle.std.proofs.Common.{◌≡◌, ◌+◌, length, option_map}
use Rattle.http_front.specs.Head.{empty_line_end}
use Rattle.http_front.proofs.head.empty_line_end.Given as goal

abbrev pub invariant-lines : goal.invariant-lines
invariant-lines l = record {
  same : empty_line_end l.fn.bytes ≡ option_map (λ n. n + l.at) (empty_line_end l.rest);
  within : l.at + length l.rest ≡ length l.fn.bytes;
}

abbrev pub decreases-lines : goal.decreases-lines
decreases-lines l = length l.rest
