use Rattle.std.proofs.Common.{◌≡◌, ◌≤◌, length}
use Rattle.http_front.specs.Head.{after_blank}
use Rattle.http_front.proofs.head.after_blank.Given as goal

abbrev pub invariant-ends : goal.invariant-ends
invariant-ends l = record {
  same : after_blank l.rest ≡ after_blank l.fn.bytes;
  within : length l.rest ≤ length l.fn.bytes;
}

abbrev pub decreases-ends : goal.decreases-ends
decreases-ends l = length l.rest
