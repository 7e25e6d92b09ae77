-- What was printed for a front.
use Rattle.std.specs.Prelude.{◌≡◌, ℕ, Bool, true, List, Option, Result, Ok, Err, None}
use Rattle.rate_types.specs.declared.memory.OutOfMemory.{OutOfMemory}
use Rattle.rls_core.specs.declared.reply.Reply.{Reply}
use Rattle.rls_core.specs.declared.fault.CheckFault.{CheckFault}
use Rattle.http_front.specs.Front.{plain, sends_body, stats_answer, is_json}
use Rattle.http_front.specs.Printed.{answer_bytes}
use Rattle.http_front.specs.declared.answer.HttpAnswer.{HttpAnswer}
use Rattle.http_front.specs.declared.asks.Method.{Method}
use Rattle.http_endpoint.specs.Answers.{Turn, GivesResult, ResultWantsMemory}
use Rattle.http_endpoint.specs.declared.turn.Printed.{Printed}
use Rattle.http_endpoint.specs.declared.turn.Printed.TheVariants.{Text, NoMemory}

-- the bytes of what was printed into this text
abbrev pub printed_bytes : List ℕ → Printed → List ℕ
printed_bytes out (Text closes) = out
printed_bytes out (NoMemory sends_body) = answer_bytes (plain 500 None sends_body true)

-- the connection closes after it
abbrev pub printed_closes : Printed → Bool
printed_closes (Text closes) = closes
printed_closes (NoMemory sends_body) = true

-- the bytes of this answer, or 500 in the place of one with a JSON body
abbrev pub Prints : HttpAnswer → List ℕ → Printed → Type 0
Prints answer out (Text closes) = (out ≡ answer_bytes answer) × (closes ≡ answer.closes)
Prints answer out (NoMemory sends_body) = (sends_body ≡ answer.sends_body) × (is_json answer.body ≡ true)

-- what was printed for a check that came to this
abbrev pub PrintsResult : Bool → Result Reply CheckFault → List ℕ → Printed → Type 0
PrintsResult closes result out (Text closed) = (a : HttpAnswer) × GivesResult result closes a × (out ≡ answer_bytes a) × (closed ≡ a.closes)
PrintsResult closes result out (NoMemory sends_body) = (sends_body ≡ true) × ResultWantsMemory result

-- what was printed for a request for the statistics that came to this
abbrev pub PrintsStats : Method → Bool → Result (Option (List ℕ)) OutOfMemory → List ℕ → Printed → Type 0
PrintsStats method closes (Ok text) out printed = Prints (stats_answer method text closes) out printed
PrintsStats method closes (Err e) out printed = printed ≡ NoMemory (sends_body method)

-- what was printed is that answer
pub record PrintsTurn (t : Turn) (out : List ℕ) (printed : Printed) : Type 0 where
  pub bytes : printed_bytes out printed ≡ answer_bytes t.answer
  pub closes : printed_closes printed ≡ t.answer.closes
