-- What the buckets of recorded streams let pass.
use Rattle.std.specs.Prelude.{ℕ, ◌+◌, List, [], ◌∷◌, take, ⊤}
use Rattle.text_lines.specs.Lines.{cut}
use Rattle.quota_settings.specs.Covering.{AllSettings}
use Rattle.quota_buckets.specs.Streams.{Stream, new_stream, KeepAllowance}
use Rattle.quota_stream.specs.Outcomes.{outcome_of}

-- the stream of this index after these lines, before which so many others came
abbrev pub after_lines : ℕ → ℕ → Stream → List (List ℕ) → Stream
after_lines index before s [] = s
after_lines index before s (bytes ∷ more) =
    after_lines index (before + 1) (outcome_of (record { stream = index; line = before + 1 }) bytes s).stream more

-- Behind each line of these streams no bucket that is there has let more pass than its strategy in force has. The first stream has this
-- index.
abbrev pub KeepAllowances : AllSettings → ℕ → List (List ℕ) → Type 0
KeepAllowances settings index [] = ⊤
KeepAllowances settings index (bytes ∷ more) =
    ((count : ℕ) → KeepAllowance (after_lines index 0 (new_stream settings) (take count (cut bytes))))
    × KeepAllowances settings (index + 1) more
