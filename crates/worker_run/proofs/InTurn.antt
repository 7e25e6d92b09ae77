-- What a run by one worker is, in two parts: what each line counts, and which room it finds.
use Rattle.std.proofs.Common.{◌≡◌, ℕ, ◌+◌, ◌<◌, List, [], ◌∷◌, ◌++◌, take}
use Rattle.std.specs.Prelude.{⊤}
use Rattle.rate_types.specs.declared.limits.TheConstants.{MOST_VERSIONS}
use Rattle.descriptor_tree.specs.Trees.{DomainTree}
use Rattle.rls_core.specs.Sequential.{AreSequential, HasRoom, LacksRoom}
use Rattle.reply_text.specs.declared.record.Record.{Record}
use Rattle.reply_text.specs.declared.record.Outcome.{Outcome}
use Rattle.reply_text.specs.declared.record.Outcome.TheVariants as outcome
use Rattle.script_run.specs.ScriptLine.{ScriptLine, check, reload, tick, bad}
use Rattle.script_run.specs.Lines.{EachLine}
use Rattle.script_run.specs.Versions.{installs}
use Rattle.script_run.specs.Moments.{moment_after}
use Rattle.script_run.specs.Charges.{ledger_of, charged_in}
use Rattle.script_run.specs.Sequential.{is_bound, IsInTurn, SequentialWithOneWorker}

-- With one worker: an answered check counts what the earlier lines charged. A reload is installed while there are fewer versions than the
-- most, and refused where there are as many.
abbrev pub IsCountedInTurn : (ℕ → List DomainTree) → List ScriptLine → List Record → ScriptLine → Record → Outcome → Type 0
IsCountedInTurn configs before earlier (check request) r (outcome.Checked answer) =
    AreSequential (configs r.version) request r.moment (charged_in (ledger_of before earlier)) request.descriptors answer.statuses
IsCountedInTurn configs before earlier (reload config) r outcome.Installed = installs earlier + 1 < MOST_VERSIONS
IsCountedInTurn configs before earlier (reload config) r (outcome.VersionsFull versions) = installs earlier + 1 ≡ MOST_VERSIONS
IsCountedInTurn configs before earlier line r other = ⊤

-- A line is run by the version that was installed last, at the greatest of the start and the ticks up to it, and counts in its turn.
pub record IsNextCount (configs : ℕ → List DomainTree) (start : ℕ) (before : List ScriptLine) (earlier : List Record) (l : ScriptLine)
    (r : Record) : Type 0 where
  pub by_version : r.version ≡ installs (earlier ++ r ∷ [])
  pub at : r.moment ≡ moment_after start (before ++ l ∷ [])
  pub counted : IsCountedInTurn configs before earlier l r r.outcome

-- With one worker each line is the next one, whatever room there is in the cells.
abbrev pub CountedWithOneWorker : (ℕ → List DomainTree) → ℕ → ℕ → List ScriptLine → List Record → Type 0
CountedWithOneWorker configs workers start lines records = workers ≡ 1
    → EachLine lines records (λ before earlier l r. IsNextCount configs start before earlier l r)

-- there was room for the counters of an answered check, and none for those of a refused one, with these numbers and no held cell
abbrev pub HasRoomInTurn : (ℕ → List DomainTree) → ℕ → List ScriptLine → List Record → ScriptLine → Record → Outcome → Type 0
HasRoomInTurn configs cells before earlier (check request) r (outcome.Checked answer) =
    HasRoom (configs r.version) cells request r.moment (is_bound configs before earlier r.moment)
HasRoomInTurn configs cells before earlier (check request) r (outcome.Full live held wanted) =
    (held ≡ 0) × LacksRoom (configs r.version) cells request r.moment (is_bound configs before earlier r.moment) live wanted
HasRoomInTurn configs cells before earlier line r other = ⊤

-- With one worker a check is answered where the counters of the earlier answered checks, whose windows are open, and its own fit into the cells,
-- and it is refused where they don't.
abbrev pub RoomWithOneWorker : (ℕ → List DomainTree) → ℕ → ℕ → List ScriptLine → List Record → Type 0
RoomWithOneWorker configs workers cells lines records = workers ≡ 1
    → EachLine lines records (λ before earlier l r. HasRoomInTurn configs cells before earlier l r r.outcome)

-- a line that counts in its turn, with the room that it finds in its turn, is in its turn
in_turn : (configs : ℕ → List DomainTree) (cells : ℕ) (before : List ScriptLine) (earlier : List Record) (l : ScriptLine) (r : Record) (o : Outcome)
    → IsCountedInTurn configs before earlier l r o → HasRoomInTurn configs cells before earlier l r o → IsInTurn configs cells before earlier l r o
in_turn configs cells before earlier (check request) r (outcome.Checked answer) counted room = (counted, room)
in_turn configs cells before earlier (check request) r (outcome.Full live held wanted) counted room = room
in_turn configs cells before earlier (check request) r (outcome.Spent claims wanted) counted room = tt
in_turn configs cells before earlier (check request) r (outcome.Ticked now) counted room = tt
in_turn configs cells before earlier (check request) r outcome.Installed counted room = tt
in_turn configs cells before earlier (check request) r (outcome.VersionsFull versions) counted room = tt
in_turn configs cells before earlier (check request) r (outcome.Bad refused) counted room = tt
in_turn configs cells before earlier (reload config) r (outcome.Checked answer) counted room = tt
in_turn configs cells before earlier (reload config) r (outcome.Full live held wanted) counted room = tt
in_turn configs cells before earlier (reload config) r (outcome.Spent claims wanted) counted room = tt
in_turn configs cells before earlier (reload config) r (outcome.Ticked now) counted room = tt
in_turn configs cells before earlier (reload config) r outcome.Installed counted room = counted
in_turn configs cells before earlier (reload config) r (outcome.VersionsFull versions) counted room = counted
in_turn configs cells before earlier (reload config) r (outcome.Bad refused) counted room = tt
in_turn configs cells before earlier (tick now) r o counted room = tt
in_turn configs cells before earlier (bad refused) r o counted room = tt

pub sequential : (configs : ℕ → List DomainTree) (workers cells start : ℕ) (lines : List ScriptLine) (records : List Record)
    → CountedWithOneWorker configs workers start lines records → RoomWithOneWorker configs workers cells lines records
    → SequentialWithOneWorker configs workers cells start lines records
sequential configs workers cells start lines records counted room one i l r el er =
    let c = counted one i l r el er in
    let m = room one i l r el er in
    record { by_version = c.by_version; at = c.at; turn = in_turn configs cells (take i lines) (take i records) l r r.outcome c.counted m }
