-- What a record shows.
use Rattle.std.specs.Prelude.{ℕ}
use Rattle.reply_text.specs.declared.record.Outcome.{Outcome}

-- the line's number, the worker that ran it, the version and the moment that the worker then had, and what came of it
pub record Shown : Type 0 where
  pub line : ℕ
  pub worker : ℕ
  pub version : ℕ
  pub moment : ℕ
  pub outcome : Outcome
