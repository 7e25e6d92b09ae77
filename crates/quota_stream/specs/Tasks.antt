-- The replay of a stream as a task: how far it has come, and what it answers.
use Rattle.std.specs.Prelude.{◌≡◌, ℕ, ◌+◌, ◌<◌, ◌≤◌, ◌⊎◌, List, [], ◌∷◌, ◌++◌, length, Bool, true, false, Option, None, Some}
use Rattle.std.specs.Prelude.{Result, Ok, Err, ⊤}
use Rattle.std.specs.List.{concat}
use Rattle.rate_types.specs.declared.limits.TheConstants.{MOST_BYTES, MOST_LINES}
use Rattle.quota_settings.specs.Covering.{AllSettings}
use Rattle.quota_buckets.specs.Streams.{Stream}
use Rattle.text_lines.specs.Lines.{cut}
use Rattle.quota_stream.specs.Output.{outputs, quota_output}
use Rattle.quota_stream.specs.declared.replay_fault.ReplayFault.{ReplayFault}
use Rattle.quota_stream.specs.declared.replay_fault.ReplayFault.TheVariants.{TooLong, OutOfMemory}

-- the output of a stream as one text
abbrev pub output_text : AllSettings → ℕ → List ℕ → List ℕ
output_text settings index bytes = concat (quota_output settings index bytes)

-- the output of each of these streams, the first of which has this index
abbrev pub texts_from : AllSettings → ℕ → List (List ℕ) → List (List ℕ)
texts_from settings index [] = []
texts_from settings index (bytes ∷ more) = output_text settings index bytes ∷ texts_from settings (index + 1) more

-- a stream has at most 67,108,864 bytes and 1,048,576 lines
pub record IsShort (bytes : List ℕ) : Type 0 where
  pub few_bytes : length bytes ≤ MOST_BYTES
  pub few_lines : length (cut bytes) ≤ MOST_LINES

-- it has more bytes than that, so many, or else more lines, at least so many
abbrev pub IsTooLong : List ℕ → ℕ → Type 0
IsTooLong bytes read = ((MOST_BYTES < length bytes) × (read ≡ length bytes))
    ⊎ ((length bytes ≤ MOST_BYTES) × (MOST_LINES < read) × (read ≤ length (cut bytes)))

-- what a fault says of a stream that is in memory
abbrev pub IsFaultOf : List ℕ → ReplayFault → Type 0
IsFaultOf bytes (TooLong read) = IsTooLong bytes read
IsFaultOf bytes OutOfMemory = ⊤
IsFaultOf bytes fault = ⊥

-- what a replay of a stream that is in memory answers, whose output is this text
abbrev pub IsAnswer : List ℕ → List ℕ → Result (List ℕ) ReplayFault → Type 0
IsAnswer whole bytes (Ok text) = (text ≡ whole) × IsShort bytes
IsAnswer whole bytes (Err fault) = IsFaultOf bytes fault

-- a replay so far: the index of the stream, the lines so far, the stream and the text after them, the bytes that are left, and a
-- fault that ended it
pub record Task : Type 0 where
  pub index : ℕ
  pub lines : ℕ
  pub stream : Stream
  pub text : List ℕ
  pub left : List ℕ
  pub fault : Option ReplayFault

-- whether no bytes are left
abbrev is_over : Option ReplayFault → List ℕ → Bool
is_over (Some fault) left = true
is_over None [] = true
is_over None (b ∷ bs) = false

-- whether it ended: by a fault, or since no bytes are left
abbrev pub is_ended : Task → Bool
is_ended t = is_over t.fault t.left

-- the text so far and that of the lines that are left
abbrev pub text_in_all : Task → List ℕ
text_in_all t = t.text ++ concat (outputs t.index t.lines t.stream (cut t.left))

-- the lines so far and those that are left
abbrev pub lines_in_all : Task → ℕ
lines_in_all t = t.lines + length (cut t.left)

-- a replay without a fault of a stream with this output
pub record IsOnWay (whole bytes : List ℕ) (t : Task) : Type 0 where
  pub text : text_in_all t ≡ whole
  pub lines : lines_in_all t ≡ length (cut bytes)
  pub few_bytes : length bytes ≤ MOST_BYTES

abbrev pub StandsBy : List ℕ → List ℕ → Task → Option ReplayFault → Type 0
StandsBy whole bytes t None = IsOnWay whole bytes t
StandsBy whole bytes t (Some fault) = IsFaultOf bytes fault

-- A replay of a stream of these bytes, with this output: it is on its way, or it ended by a fault that says so of the bytes.
abbrev pub Stands : List ℕ → List ℕ → Task → Type 0
Stands whole bytes t = StandsBy whole bytes t t.fault

-- whatever stream and output the one stands for, the other stands for them
abbrev pub GoesOn : Task → Task → Type 0
GoesOn before after = (whole bytes : List ℕ) → Stands whole bytes before → Stands whole bytes after
