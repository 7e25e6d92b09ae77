use Rattle.std.proofs.Common.{◌≡◌, take}
use Rattle.std.specs.Option.{option_map}
use Rattle.counted_checks.specs.Counting.{noting, statuses_noted}
use Rattle.counted_checks.proofs.note.note_all.Given as goal

abbrev pub invariant-descriptors : goal.invariant-descriptors
invariant-descriptors l = l.stats ≡ option_map (noting (statuses_noted l.request (take l.place l.request.descriptors) (take l.place l.statuses))) l.fn.stats
