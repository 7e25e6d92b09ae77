-- Which moments the records of a run may have.
use Rattle.std.specs.Prelude.{◌≡◌, ℕ, ◌+◌, ◌≤◌, ◌⊎◌, ◌==◌, not, List, [], ◌∷◌, ◌++◌, Bool, max, if◌then◌else◌, ⊤}
use Rattle.reply_text.specs.declared.record.Record.{Record}
use Rattle.reply_text.specs.declared.record.Outcome.{Outcome}
use Rattle.reply_text.specs.declared.record.Outcome.TheVariants.{Ticked}
use Rattle.script_run.specs.ScriptLine.{ScriptLine, tick}
use Rattle.script_run.specs.Lines.{EachLine, IsAtLeastEarlier}

-- the moment that a tick line offers, and for another line the least one
abbrev pub tick_of : ScriptLine → ℕ
tick_of (tick moment) = moment
tick_of other = 0

-- the greatest of the start and the ticks of these lines
abbrev pub moment_after : ℕ → List ScriptLine → ℕ
moment_after start [] = start
moment_after start (l ∷ ls) = max (tick_of l) (moment_after start ls)

-- 1 where a line is a tick with this number, else 0
abbrev pub offer_of : ℕ → ScriptLine → ℕ
offer_of moment (tick now) = if now == moment then 1 else 0
offer_of moment other = 0

-- how many lines are ticks with this number and were run by workers that pass a test
abbrev pub offers : (ℕ → Bool) → ℕ → List ScriptLine → List Record → ℕ
offers by moment (l ∷ ls) (r ∷ rs) = (if by r.worker then offer_of moment l else 0) + offers by moment ls rs
offers by moment lines records = 0

-- A record's moment is no earlier than the start, nor than the number of its line where that is a tick. It is the start, or the number of
-- a tick line of another worker, or that of a tick line of its own worker that isn't later than its line.
pub record IsTimely (start : ℕ) (lines : List ScriptLine) (records : List Record) (before : List ScriptLine) (earlier : List Record)
    (l : ScriptLine) (r : Record) : Type 0 where
  pub least : start ≤ r.moment
  pub ticked : tick_of l ≤ r.moment
  pub source : (r.moment ≡ start) ⊎ ((1 ≤ offers (λ w. not (w == r.worker)) r.moment lines records)
      ⊎ (1 ≤ offers (λ w. w == r.worker) r.moment (before ++ l ∷ []) (earlier ++ r ∷ [])))

-- what came of a tick line shows the number of the line
abbrev pub ShowsItsTick : ScriptLine → Outcome → Type 0
ShowsItsTick (tick now) (Ticked shown) = shown ≡ now
ShowsItsTick line other = ⊤

-- Along the records of one worker the moments never fall, each has its source, and a tick shows its line's number.
pub record MomentsNeverFall (start : ℕ) (lines : List ScriptLine) (records : List Record) : Type 0 where
  pub never_fall : EachLine lines records (λ before earlier l r. IsAtLeastEarlier (λ s. s.moment) earlier r)
  pub timely : EachLine lines records (λ before earlier l r. IsTimely start lines records before earlier l r)
  pub shown : EachLine lines records (λ before earlier l r. ShowsItsTick l r.outcome)
