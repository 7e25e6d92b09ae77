-- How many answered checks records show, by their overall codes.
use Rattle.std.specs.Prelude.{ℕ, List, Bool, false, not, count_by}
use Rattle.reply_text.specs.declared.record.Record.{Record}
use Rattle.reply_text.specs.declared.record.Outcome.{Outcome}
use Rattle.reply_text.specs.declared.record.Outcome.TheVariants.{Checked}

-- an answered check whose overall code is OK
abbrev pub is_admitted : Outcome → Bool
is_admitted (Checked answer) = not answer.over
is_admitted other = false

-- an answered check whose overall code is OVER_LIMIT
abbrev pub is_denied : Outcome → Bool
is_denied (Checked answer) = answer.over
is_denied other = false

-- how many of the records show the one
abbrev pub admitted_among : List Record → ℕ
admitted_among records = count_by (λ r. is_admitted r.outcome) records

-- how many of the records show the other
abbrev pub denied_among : List Record → ℕ
denied_among records = count_by (λ r. is_denied r.outcome) records
