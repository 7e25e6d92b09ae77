-- Inside: what the steps of reading a front say.
use Rattle.std.specs.Prelude.{◌≡◌, ℕ, ◌+◌, ◌<◌, ◌≤◌, true, false, List, length, Some, if◌then◌else◌, MatchResult, Result}
use Rattle.rate_types.specs.declared.memory.OutOfMemory.{OutOfMemory}
use Rattle.http_front.specs.Head.{head_max}
use Rattle.http_front.specs.Front.{IsFrontAfter, after_head, headless, is_waiting, sends, sends_body, has_json, used_of, body_max}
use Rattle.http_front.specs.declared.asks.Asks.{Asks}
use Rattle.http_front.specs.declared.asks.BodyLength.{BodyLength}
use Rattle.http_front.specs.declared.asks.BodyLength.TheVariants.{Absent, Unclear, Given}
use Rattle.http_front.specs.declared.front.Front.{Front}
use Rattle.http_front.specs.declared.front.Front.TheVariants.{Ended, CutShort}
use Rattle.http_front.specs.declared.part.Part.{Part}
use Rattle.http_front.specs.declared.part.Part.TheVariants.{Whole, NoHead, NoBody}

-- memory may be wanting in the place of this front
abbrev pub MayLack : Front → Type 0
MayLack front = (has_json front ≡ true) × (sends front ≡ true)

-- the front, or want of memory in its place
abbrev pub Gives : Result Front OutOfMemory → Front → Type 0
Gives result front = MatchResult result (λ read. read ≡ front) (λ _. MayLack front)

-- the bytes of a body
abbrev pub body_count : BodyLength → ℕ
body_count Absent = 0
body_count Unclear = 0
body_count (Given count) = count

-- the part of a request whose head asks for this
abbrev pub IsPartAsked : Asks → ℕ → List ℕ → Part → Type 0
IsPartAsked asks used after (Whole front) = (front ≡ after_head (Some asks) used after) × (is_waiting front ≡ false)
IsPartAsked asks used after (NoHead is_blank) = ⊥
IsPartAsked asks used after (NoBody total sent) =
    (is_waiting (after_head (Some asks) used after) ≡ true) × (total ≡ used + body_count asks.length) × (sent ≡ sends_body asks.method)

abbrev pub GivesPart : Asks → ℕ → List ℕ → Result Part OutOfMemory → Type 0
GivesPart asks used after result = MatchResult result (IsPartAsked asks used after) (λ _. MayLack (after_head (Some asks) used after))

-- the same of a head and the bytes after it
abbrev pub IsPartAfter : List ℕ → List ℕ → Part → Type 0
IsPartAfter head after (Whole front) = IsFrontAfter head after front × (is_waiting front ≡ false)
IsPartAfter head after (NoHead is_blank) = ⊥
IsPartAfter head after (NoBody total sent) = (length head + length after < total) × (total ≤ length head + body_max)
    × ((shorter : List ℕ) → length head + length shorter < total → IsFrontAfter head shorter CutShort)
    × ((longer : List ℕ) → total ≤ length head + length longer
    → (front : Front) × IsFrontAfter head longer front × (is_waiting front ≡ false) × (used_of front ≡ total) × (sent ≡ sends front))

abbrev pub LacksAfter : List ℕ → List ℕ → Type 0
LacksAfter head after = (front : Front) × IsFrontAfter head after front × MayLack front

-- the same where no head ends in the first bytes
abbrev pub IsPartHeadless : List ℕ → Part → Type 0
IsPartHeadless bytes (Whole front) = (front ≡ headless bytes) × (is_waiting front ≡ false)
IsPartHeadless bytes (NoHead is_blank) = (headless bytes ≡ (if is_blank then Ended else CutShort)) × (length bytes < head_max)
IsPartHeadless bytes (NoBody total sent) = ⊥
