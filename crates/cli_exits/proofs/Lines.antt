-- The lines of bytes that are at their end.
use Rattle.std.proofs.Common.{◌≡◌, ℕ, ◌≤◌, List, [], length}
use Rattle.text_lines.specs.Lines.{cut}
use Rattle.text_lines.proofs.Cutting.{cut_none}

pub none_cut : (bytes : List ℕ) → length bytes ≤ 0 → cut bytes ≡ []
none_cut bytes none = cut_none bytes none
