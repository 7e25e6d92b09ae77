-- Rooms that are lent, and given up.
use Rattle.std.proofs.Common.{◌≡◌, ℕ, Bool, true, false, List, [], ◌∷◌, ◌++◌, refl, sym, subst}
use Rattle.std.specs.Prelude.{Result, Option, option_to_list}
use Rattle.rate_types.specs.Requests.{RequestParts}
use Rattle.rate_types.specs.declared.memory.OutOfMemory.{OutOfMemory}
use Rattle.rls_core.specs.declared.reply.Reply.{Reply}
use Rattle.rls_core.specs.declared.fault.CheckFault.{CheckFault}
use Rattle.rate_io.specs.Links.{LinkState}
use Rattle.rate_io.specs.Listeners.{IsNewLink}
use Rattle.http_front.specs.declared.asks.Method.{Method}
use Rattle.http_endpoint.specs.Answers.{Asked, check, statistics_asked}
use Rattle.conn_tasks.specs.Conn.{needs_room, IsFree}
use Rattle.conn_tasks.specs.Reading.{Holds}
use Rattle.conn_tasks.specs.State.{TaskState}
use Rattle.conn_tasks.specs.Tasks.{IsOn, IsGoing, IsAsking, IsAskingStats, IsReading, IsChecking, IsTelling, Goes, StandsBehind, StillGoes, TurnsTo, is_live}
use Rattle.conn_tasks.specs.declared.conn.Mode.{Mode}
use Rattle.conn_tasks.specs.declared.conn.Mode.TheVariants as mode
use Rattle.conn_tasks.specs.declared.conn.Turned.{Turned}
use Rattle.conn_tasks.specs.declared.conn.Turned.TheVariants as turned

-- one that may be polled has a room, or is lent one
pub lent_or_has : (m : Mode) (has lent : Bool) → is_live m ≡ true → (needs_room m ≡ true → has ≡ true) → (m ≡ mode.Reading → lent ≡ true)
    → has ≡ false → lent ≡ true
lent_or_has mode.Reading has lent live keeps gives none = gives refl
lent_or_has mode.Writing has lent live keeps gives none = absurd (let there = keeps refl in cc)
lent_or_has mode.Checking has lent live keeps gives none = absurd (cc)
lent_or_has mode.Telling has lent live keeps gives none = absurd (cc)
lent_or_has mode.Ended has lent live keeps gives none = absurd (cc)

-- one that wants no room needs none
pub free_needs_none : (m : Mode) (kept : List ℕ) → IsFree m kept → needs_room m ≡ true → ⊥
free_needs_none mode.Reading kept free needs = absurd (cc)
free_needs_none mode.Checking kept free needs = free
free_needs_none mode.Telling kept free needs = free
free_needs_none mode.Writing kept free needs = free
free_needs_none mode.Ended kept free needs = absurd (cc)

-- without its room
abbrev pub emptied : TaskState → TaskState
emptied s = record s { kept = []; out = [] }

reading_emptied : (first : LinkState) (asked : List Asked) (s : TaskState) → s.kept ≡ [] → IsReading first asked s → IsReading first asked (emptied s)
reading_emptied first asked s is r = record {
  turns = r.turns;
  rest = r.rest;
  so_far = r.so_far;
  holds = subst (λ (ks : List ℕ). Holds r.rest s.awaited ks) is r.holds;
  count = r.count;
  last = r.last;
  asked_is = r.asked_is;
}

on_emptied : (first : LinkState) (asked : List Asked) (s : TaskState) → s.mode ≡ mode.Reading → s.kept ≡ [] → IsOn first asked s → IsOn first asked (emptied s)
on_emptied first asked s reading is on = subst (λ (m : Mode). Goes first asked (emptied s) m) (sym reading)
    (reading_emptied first asked s is (subst (λ (m : Mode). Goes first asked s m) reading on))

by_mode : (first : LinkState) (asked : List Asked) (waits : ℕ) (s : TaskState) (came : Turned) (m : Mode) → s.mode ≡ m → IsFree m s.kept
    → StandsBehind came s.mode → TurnsTo first asked waits s came → TurnsTo first asked waits (emptied s) came
by_mode first asked waits s turned.Pending mode.Reading is free behind x = (on_emptied first asked s is free x.0, x.1)
by_mode first asked waits s turned.Pending mode.Ended is free behind x = absurd (cc)
by_mode first asked waits s turned.Pending mode.Checking is free behind x = absurd free
by_mode first asked waits s turned.Pending mode.Telling is free behind x = absurd free
by_mode first asked waits s turned.Pending mode.Writing is free behind x = absurd free
by_mode first asked waits s (turned.Check request now) mode.Reading is free behind x = absurd (cc)
by_mode first asked waits s (turned.Check request now) mode.Ended is free behind x = absurd (cc)
by_mode first asked waits s (turned.Check request now) mode.Checking is free behind x = absurd free
by_mode first asked waits s (turned.Check request now) mode.Telling is free behind x = absurd free
by_mode first asked waits s (turned.Check request now) mode.Writing is free behind x = absurd free
by_mode first asked waits s (turned.Stats method) mode.Reading is free behind x = absurd (cc)
by_mode first asked waits s (turned.Stats method) mode.Ended is free behind x = absurd (cc)
by_mode first asked waits s (turned.Stats method) mode.Checking is free behind x = absurd free
by_mode first asked waits s (turned.Stats method) mode.Telling is free behind x = absurd free
by_mode first asked waits s (turned.Stats method) mode.Writing is free behind x = absurd free
by_mode first asked waits s (turned.End link_end) m is free behind x = x

-- a turn behind which the room is given up
pub turned_emptied : (first : LinkState) (asked : List Asked) (waits : ℕ) (s : TaskState) (came : Turned) → IsFree s.mode s.kept
    → StandsBehind came s.mode → TurnsTo first asked waits s came → TurnsTo first asked waits (emptied s) came
turned_emptied first asked waits s came free behind x = by_mode first asked waits s came s.mode refl free behind x

-- ---- it goes on

pub still_goes : (first : LinkState) (asked : List Asked) (waits : ℕ) (s : TaskState) (came : Turned) → IsNewLink first
    → TurnsTo first asked waits s came → StillGoes s came
still_goes first asked waits s turned.Pending new x = (first, asked, new, x.0)
still_goes first asked waits s (turned.Check request now) new x = (first, asked, request, now, new, x.1)
still_goes first asked waits s (turned.Stats method) new x = (first, asked, new, x.1)
still_goes first asked waits s (turned.End link_end) new x = tt

pub goes_answered : (old new : TaskState) (came : Result Reply CheckFault)
    → ((first : LinkState) (asked : List Asked) (request : RequestParts) (now : ℕ) → IsChecking first asked request now old
    → IsOn first (asked ++ check (record { request = request; now = now; result = came }) ∷ []) new)
    → IsAsking old → IsGoing new
goes_answered old new came on x =
    (x.0, x.1 ++ check (record { request = x.2; now = x.3; result = came }) ∷ [], x.4, on x.0 x.1 x.2 x.3 x.5)

pub goes_told : (old new : TaskState) (method : Method) (came : Result (Option (List ℕ)) OutOfMemory)
    → ((first : LinkState) (asked : List Asked) → IsTelling first asked method old → IsOn first (asked ++ option_to_list (statistics_asked came)) new)
    → IsAskingStats method old → IsGoing new
goes_told old new method came on x = (x.0, x.1 ++ option_to_list (statistics_asked came), x.2, on x.0 x.1 x.3)
