use Rattle.std.proofs.Common.{◌≡◌, take}
use Rattle.quota_buckets.specs.Tables.{reports_at}
use Rattle.quota_buckets.proofs.slots.reports_of.Given as goal

abbrev pub invariant-loop-place : goal.invariant-loop-place
invariant-loop-place l = l.reports.items ≡ reports_at l.advance l.slots (take l.place-index l.places)
