use Rattle.std.proofs.Common.{◌≡◌, ◌≤◌}
use Rattle.std.specs.VecDeque.{deque_len, deque_capacity}
use Rattle.quota_server.specs.Holds.{without_smaller}
use Rattle.quota_server.proofs.hold.Hold.begin.Given as goal

abbrev pub decreases-smaller : goal.decreases-smaller
decreases-smaller l = deque_len l.self-inside.counts

abbrev pub invariant-smaller : goal.invariant-smaller
invariant-smaller l =
    (without_smaller l.fn.count l.self-inside.counts.items ≡ without_smaller l.fn.count l.initial.self-inside.counts.items) ×
    (deque_len l.self-inside.counts ≤ deque_len l.initial.self-inside.counts) ×
    (deque_capacity l.self-inside.counts ≡ deque_capacity l.initial.self-inside.counts)
