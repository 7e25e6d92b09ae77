-- What objects of the outside did, call by call, in order. Every source, sink and set of files has such a history; it
-- takes no memory, and a clause reads it.
use Rattle.std.specs.Prelude.{◌≡◌, ℕ, ◌==◌, ◌&&◌, ◌<◌, ◌≤◌, List, [], ◌∷◌, ◌++◌, length, take, drop, Bool, true, false, nat_lt}
use Rattle.std.specs.Prelude.{Result, Ok, Err, ⊤, if◌then◌else◌}
use Rattle.std.specs.List.{flat_map, list_any}
use Rattle.rate_io.specs.declared.files.FileFault.{FileFault}
use Rattle.rate_io.specs.declared.files.FileFault.TheVariants as fault

-- one call of a source, of a sink or of a link
pub data Event : Type 0 where
  -- a read handed out these bytes
  gave : List ℕ → Event
  -- a read answered the end
  ended : Event
  -- a read failed
  read_failed : Event
  -- this piece was written whole
  wrote : List ℕ → Event
  -- the write of this piece failed; a first part of it may have been written
  write_failed : List ℕ → Event
  -- what was written before has reached what stands behind the sink
  flushed : Event
  -- it was to, and some of it may not have
  flush_failed : Event
  -- the clock told this moment
  told : ℕ → Event

-- one call for a file: its name, and the reads of its content; a file that can't be opened has one read, which failed
abbrev pub FileEvent : Type 0
FileEvent = List ℕ × List Event

-- the bytes of one event that a read handed out
abbrev pub bytes_given : Event → List ℕ
bytes_given (gave bytes) = bytes
bytes_given other = []

-- all bytes that reads handed out, in order
abbrev pub given : List Event → List ℕ
given = flat_map bytes_given

abbrev pub is_ended : Event → Bool
is_ended ended = true
is_ended other = false

-- a read answered the end
abbrev pub has_ended : List Event → Bool
has_ended = list_any is_ended

abbrev pub is_read_failed : Event → Bool
is_read_failed read_failed = true
is_read_failed other = false

-- a read failed
abbrev pub has_failed : List Event → Bool
has_failed = list_any is_read_failed

abbrev pub is_write_failed : Event → Bool
is_write_failed (write_failed piece) = true
is_write_failed flush_failed = true
is_write_failed other = false

-- a write or a flush failed
abbrev pub has_write_failed : List Event → Bool
has_write_failed = list_any is_write_failed

-- the piece of one event that was written
abbrev pub piece_written : Event → List (List ℕ)
piece_written (wrote piece) = piece ∷ []
piece_written other = []

-- the pieces that were written, in order
abbrev pub pieces_written : List Event → List (List ℕ)
pieces_written = flat_map piece_written

-- the event of a read that answered so and left this room: no byte, though there was room, is the end
abbrev pub read_event : {E : Type 0} → Result ℕ E → List ℕ → Event
read_event (Ok count) room = if (count == 0) && nat_lt 0 (length room) then ended else gave (take count room)
read_event (Err e) room = read_failed

-- the event of a write of this piece that answered so
abbrev pub write_event : {T E : Type 0} → Result T E → List ℕ → Event
write_event (Ok done) piece = wrote piece
write_event (Err e) piece = write_failed piece

-- the event of a flush that answered so
abbrev pub flush_event : {T E : Type 0} → Result T E → Event
flush_event (Ok done) = flushed
flush_event (Err e) = flush_failed

-- a history grew by these events, of which this holds
pub record Grew {E : Type 0} (old new : List E) (P : List E → Type 0) : Type 0 where
  pub events : List E
  pub grew : new ≡ old ++ events
  pub are : P events

-- a history of files grew by one call for this name, of whose reads this holds
pub record GrewByFile (old new : List FileEvent) (name : List ℕ) (P : List Event → Type 0) : Type 0 where
  pub reads : List Event
  pub grew : new ≡ old ++ (name, reads) ∷ []
  pub are : P reads

-- what a history has beyond an earlier state of it
abbrev pub since : {E : Type 0} → List E → List E → List E
since old new = drop (length old) new

-- a history only grew
abbrev pub Continues : {E : Type 0} → List E → List E → Type 0
Continues old new = new ≡ old ++ since old new

-- What the reads of a file, or of what a source has left, say of the answer. With Ok they handed out its bytes, at most as
-- many as the limit, and then answered the end; TooLong counts the bytes that they handed out, more than the limit; one of
-- them failed. Want of memory is free.
abbrev pub ReadWhole : {T : Type 0} → (T → List ℕ) → ℕ → Result T FileFault → List Event → Type 0
ReadWhole see limit (Ok v) reads = (given reads ≡ see v) × (has_ended reads ≡ true) × (length (see v) ≤ limit)
ReadWhole see limit (Err (fault.TooLong read)) reads = (length (given reads) ≡ read) × (limit < read)
ReadWhole see limit (Err fault.Failed) reads = has_failed reads ≡ true
ReadWhole see limit (Err fault.OutOfMemory) reads = ⊤
