use Rattle.std.proofs.Common.{◌≡◌, ◌≤◌, filter}
use Rattle.std.specs.VecDeque.{deque_len, deque_capacity}
use Rattle.quota_server.specs.Shares.{lasts_until}
use Rattle.quota_server.specs.Kept.{room_in}
use Rattle.quota_server.specs.Lives.{IsLawful}
use Rattle.quota_server.proofs.live.sweep.Given as goal

abbrev pub decreases-ended : goal.decreases-ended
decreases-ended l = deque_len l.live.shares

abbrev pub invariant-ended : goal.invariant-ended
invariant-ended l =
    IsLawful l.live ×
    (filter (lasts_until l.fn.at) l.live.shares.items ≡ filter (lasts_until l.fn.at) l.initial.live.shares.items) ×
    (deque_len l.live.shares ≤ deque_len l.initial.live.shares) ×
    (room_in l.initial.live.holds l.fn.kept ≤ room_in l.live.holds l.fn.kept) ×
    (deque_capacity l.live.shares ≡ deque_capacity l.initial.live.shares)
