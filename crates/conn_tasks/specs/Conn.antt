-- Inside: what is seen of the parts of a connection.
use Rattle.std.specs.Prelude.{◌≡◌, ℕ, List, [], Bool, true, false, Option, Some, None, ⊤}
use Rattle.conn_tasks.specs.State.{TaskState}
use Rattle.conn_tasks.specs.declared.poll_link.PollLink.{Ghosts}
use Rattle.conn_tasks.specs.declared.conn.Conn.{Conn}
use Rattle.conn_tasks.specs.declared.conn.Mode.{Mode}
use Rattle.conn_tasks.specs.declared.conn.Mode.TheVariants.{Reading, Checking, Telling, Writing, Ended}
use Rattle.conn_tasks.specs.declared.room.Room.{Room}

-- what is kept in a room, and the text that is printed in it; without a room, none
abbrev pub kept_in : Option Room → List ℕ
kept_in None = []
kept_in (Some room) = room.inbox

abbrev pub text_in : Option Room → List ℕ
text_in None = []
text_in (Some room) = room.out

-- in the midst of an answer it has a room
abbrev pub needs_room : Mode → Bool
needs_room Reading = false
needs_room Checking = true
needs_room Telling = true
needs_room Writing = true
needs_room Ended = false

-- it wants no room, where these bytes are kept
abbrev pub IsFree : Mode → List ℕ → Type 0
IsFree Reading kept = kept ≡ []
IsFree Checking kept = ⊥
IsFree Telling kept = ⊥
IsFree Writing kept = ⊥
IsFree Ended kept = ⊤

module _ {N : Type 0} {link : Ghosts N} where
  -- with these bytes kept, and this text
  abbrev pub seen_with : Conn N link → List ℕ → List ℕ → TaskState
  seen_with c kept out = record {
    link = c.link;
    mode = c.mode;
    answers = c.answers;
    closes = c.closes;
    awaited = c.awaited;
    kept = kept;
    printed = c.printed;
    out = out;
    sent = c.sent;
  }

  -- while a room is lent to it
  abbrev pub seen_in : Conn N link → Room → TaskState
  seen_in c room = seen_with c room.inbox room.out

  -- between its turns
  abbrev pub seen : Conn N link → TaskState
  seen c = seen_with c (kept_in c.room) (text_in c.room)
