use Rattle.std.proofs.Common.{◌≡◌, ◌++◌, length}
use Rattle.std.specs.List.{flat_map}
use Rattle.quota_stream.specs.Output.{with_feeds}
use Rattle.cli_quota.proofs.output_lines.come_to_text.Given as goal

abbrev pub invariant-texts : goal.invariant-texts
invariant-texts l = with_feeds l.text ++ flat_map with_feeds l.texts ≡ with_feeds l.initial.text ++ flat_map with_feeds l.initial.texts

abbrev pub decreases-texts : goal.decreases-texts
decreases-texts l = length l.texts
