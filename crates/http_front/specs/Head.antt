-- Where the head of a request ends, and what it is by the grammar of HTTP/1.x.
use Rattle.std.specs.Prelude.{ℕ, ◌+◌, ◌<◌, ◌≤◌, Bool, false, ◌&&◌, ◌||◌, ◌==◌, nat_lt, List, [], ◌∷◌, length, count_by, Option, Some, None}
use Rattle.std.specs.Prelude.{option_map, if◌then◌else◌}
use Rattle.httparse.specs.Grammar.{RequestHead, ReadsRequest}

-- the most bytes of a head, its line ends before the request line included
abbrev pub head_max : ℕ
head_max = 16384

-- the most line feeds of a head: a request line, 64 fields and the empty line
abbrev pub lines_max : ℕ
lines_max = 66

-- the bytes begin with a line feed
abbrev pub starts_line_feed : List ℕ → Bool
starts_line_feed [] = false
starts_line_feed (b ∷ bytes) = b == 10

-- a byte of a line end at the front: a line feed, or a carriage return right before one
abbrev pub is_line_end : ℕ → List ℕ → Bool
is_line_end b after = b == 10 || (b == 13 && starts_line_feed after)

-- the bytes without the line ends at their front
abbrev pub after_blank : List ℕ → List ℕ
after_blank [] = []
after_blank (b ∷ bytes) = if is_line_end b bytes then after_blank bytes else b ∷ bytes

-- how long the line end at the front is: 0 where there is none
abbrev pub line_end_length : List ℕ → ℕ
line_end_length [] = 0
line_end_length (b ∷ bytes) = if b == 10 then 1 else (if b == 13 && starts_line_feed bytes then 2 else 0)

-- the length up to the first line feed that a line end follows, with that line end
abbrev pub empty_line_end : List ℕ → Option ℕ
empty_line_end [] = None
empty_line_end (b ∷ bytes) = if b == 10 && nat_lt 0 (line_end_length bytes) then Some (1 + line_end_length bytes) else option_map
    (λ n. n + 1) (empty_line_end bytes)

-- the length of the head at the front: line ends, and then all up to its empty line
abbrev pub head_length : List ℕ → Option ℕ
head_length [] = None
head_length (b ∷ bytes) = if is_line_end b bytes then option_map (λ n. n + 1) (head_length bytes) else empty_line_end (b ∷ bytes)

-- the head has more lines than a request line, 64 fields and an empty line
abbrev pub has_too_many_lines : List ℕ → Bool
has_too_many_lines head = nat_lt lines_max (count_by (λ b. b == 10) (after_blank head))

-- the bytes are exactly this head of the grammar, with at most 64 fields, or are none
abbrev pub HeadReads : List ℕ → Option RequestHead → Type 0
HeadReads bytes (Some head) = ReadsRequest bytes head [] × (length head.fields ≤ 64)
HeadReads bytes None = (head : RequestHead) → ReadsRequest bytes head [] → 64 < length head.fields
