-- What a connection was served, and why it ended.
use Rattle.std.specs.Prelude.{◌≡◌, ℕ, ◌+◌, true, false, List, [], ◌∷◌, ◌++◌, length, take, map, Option, Some, None, MatchOption}
use Rattle.std.specs.Prelude.{option_to_list, ⊤}
use Rattle.std.specs.List.{flat_map}
use Rattle.std.specs.Io.KnownBytes.{Consumes, IsAtEnd}
use Rattle.rate_io.specs.Causes.{Rose}
use Rattle.rate_io.specs.Content.{Appends}
use Rattle.rate_io.specs.Events.{Event, given, has_ended, has_failed, has_write_failed, pieces_written}
use Rattle.rate_io.specs.Links.{LinkState, StaysLink}
use Rattle.http_front.specs.Front.{IsFront}
use Rattle.http_front.specs.declared.front.Front.TheVariants.{Ended as FrontEnded, CutShort as FrontCutShort}
use Rattle.http_endpoint.specs.Answers.{Turn, IsNext, AreAnswers, turn_bytes, CheckStep, asked_in, Lead}
use Rattle.http_endpoint.specs.Order.{AllCalls}
use Rattle.http_endpoint.specs.declared.link_end.LinkCause.{LinkCause}
use Rattle.http_endpoint.specs.declared.link_end.LinkCause.TheVariants.{Closed, Ended, CutShort, ReadFault, WriteFault}

-- these answers were written, each by one call, and no write failed; where it is told, nothing else was written
pub record Wrote (old new : LinkState) (events : List Event) (turns : List Turn) : Type 0 where
  pub pieces : pieces_written events ≡ map turn_bytes turns
  pub unfailed : has_write_failed events ≡ false
  pub told : Appends old.written new.written (flat_map turn_bytes turns)

-- these answers were written, and the write of one more failed, of which the first bytes may have been written
pub record WroteUpTo (old new : LinkState) (events : List Event) (turns : List Turn) (last : Turn) : Type 0 where
  pub pieces : pieces_written events ≡ map turn_bytes turns
  pub failed : has_write_failed events ≡ true
  pub rose : Rose old.faults new.faults
  pub part : ℕ
  pub told : Appends old.written new.written (flat_map turn_bytes turns ++ take part (turn_bytes last))

-- Why it ended. Closed: behind an answer that closes. Ended, CutShort: a read answered the end, and at the bytes that are
-- left no request begins, or one that isn't whole. A fault: a call failed, and the count of faults rose.
abbrev pub EndsBy : LinkCause → LinkState → LinkState → List Event → List Turn → Option Turn → List ℕ → ℕ → Type 0
EndsBy Closed old new events turns last rest count = (t : Turn) × (last ≡ Some t) × (t.answer.closes ≡ true)
    × Wrote old new events (turns ++ t ∷ []) × (count ≡ length turns + 1)
EndsBy Ended old new events turns last rest count = (last ≡ None) × IsFront rest FrontEnded × (has_ended events ≡ true)
    × IsAtEnd new.left × Wrote old new events turns × (count ≡ length turns)
EndsBy CutShort old new events turns last rest count = (last ≡ None) × IsFront rest FrontCutShort × (has_ended events ≡ true)
    × IsAtEnd new.left × Wrote old new events turns × (count ≡ length turns)
EndsBy ReadFault old new events turns last rest count = (last ≡ None) × (has_failed events ≡ true) × Rose old.faults new.faults
    × Wrote old new events turns × (count ≡ length turns)
EndsBy WriteFault old new events turns last rest count =
    (t : Turn) × (last ≡ Some t) × WroteUpTo old new events turns t × (count ≡ length turns)

-- A connection that has ended: its calls; the answers that left it open and maybe one more, which are those of the bytes
-- that its reads handed out; the bytes behind them; the order of its reads, of what the clock told, and of its writes; and
-- the checks, each for a front that asks for it, from the first state of what answers them to the last.
pub record Serves {S : Type 0} (answers : CheckStep S)
    (checks checks_after : S) (old new : LinkState) (cause : LinkCause) (count : ℕ) : Type 0 where
  pub events : List Event
  pub turns : List Turn
  pub last : Option Turn
  pub rest : List ℕ
  pub history : new.history ≡ old.history ++ events
  pub are_answers : AreAnswers 0 (given events) turns rest
  pub is_next : MatchOption last ⊤ (λ t. IsNext (length turns) rest t)
  pub in_order : AllCalls old.bounds turns last events rest
  pub lead : Lead answers checks (asked_in (turns ++ option_to_list last)) checks_after
  pub ends : EndsBy cause old new events turns last rest count
  pub left : Consumes old.left new.left (given events)
  pub stays : StaysLink old new
