-- The output of a whole stream.
use Rattle.std.specs.Prelude.{◌≡◌, ℕ, ◌+◌, ◌==◌, not, List, [], ◌∷◌, ◌++◌, Bool, true, if◌then◌else◌}
use Rattle.std.specs.List.{list_all, AllByRecursion}
use Rattle.text_lines.specs.Lines.{cut}
use Rattle.quota_settings.specs.Covering.{AllSettings}
use Rattle.quota_buckets.specs.Streams.{Stream, new_stream}
use Rattle.quota_stream.specs.Outcomes.{outcome_of}

-- what is written for these lines of the stream of this index, after so many others
abbrev pub outputs : ℕ → ℕ → Stream → List (List ℕ) → List (List ℕ)
outputs index before s [] = []
outputs index before s (bytes ∷ more) =
    let o = outcome_of (record { stream = index; line = before + 1 }) bytes s in
    o.written ++ outputs index (before + 1) o.stream more

-- The output of the stream of this index, by its bytes: the lines that are written for each of its lines, in order.
abbrev pub quota_output : AllSettings → ℕ → List ℕ → List (List ℕ)
quota_output settings index bytes = outputs index 0 (new_stream settings) (cut bytes)

-- no line feed is among these bytes
abbrev pub has_no_feed : List ℕ → Bool
has_no_feed = list_all (λ b. not (b == 10))

-- a line that is written: it has one line feed, at its end
pub record IsLine (line : List ℕ) : Type 0 where
  pub text : List ℕ
  pub feed : line ≡ text ++ 10 ∷ []
  pub plain : has_no_feed text ≡ true

-- each of these is one line
abbrev pub AreLines : List (List ℕ) → Type 0
AreLines = AllByRecursion IsLine

-- a byte before lines, the first of the first of them
abbrev pub before_lines : ℕ → List (List ℕ) → List (List ℕ)
before_lines b [] = (b ∷ []) ∷ []
before_lines b (line ∷ lines) = (b ∷ line) ∷ lines

-- the lines of bytes, each with its line feed
abbrev pub with_feeds : List ℕ → List (List ℕ)
with_feeds [] = []
with_feeds (b ∷ bs) = if b == 10 then (b ∷ []) ∷ with_feeds bs else before_lines b (with_feeds bs)
