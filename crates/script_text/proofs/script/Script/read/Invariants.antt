use Rattle.std.proofs.Common.{◌≡◌, ◌<◌, ◌≤◌, ◌-◌, ◌+◌, ℕ, drop, length}
use Rattle.std.specs.Prelude.{slice_index}
use Rattle.rate_types.specs.declared.limits.TheConstants.{MOST_LINES}
use Rattle.text_lines.specs.Lines.{cut}
use Rattle.script_text.specs.LineStarts.{BeginsAt, EndsAt}
use Rattle.script_text.proofs.script.Script.read.Given as goal

abbrev pub invariant-lines : goal.invariant-lines
invariant-lines l = record {
  few : length l.starts.items ≤ MOST_LINES;
  within : length l.starts.items ≤ length (cut l.bytes);
  left : cut (drop l.start l.bytes) ≡ drop (length l.starts.items) (cut l.bytes);
  each : (i : ℕ) → i < length l.starts.items → BeginsAt l.bytes i (slice_index l.starts.items i);
  ends : (i : ℕ) → i + 1 < length l.starts.items → EndsAt l.bytes (slice_index l.starts.items i) (slice_index l.starts.items (i + 1));
  last : (i : ℕ) → i + 1 ≡ length l.starts.items → EndsAt l.bytes (slice_index l.starts.items i) l.start;
}

abbrev pub decreases-lines : goal.decreases-lines
decreases-lines l = length l.bytes - l.start
