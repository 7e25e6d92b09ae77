-- The answers of a connection, front by front.
use Rattle.std.specs.Prelude.{◌≡◌, ℕ, ◌+◌, ◌<◌, Bool, true, false, ◌||◌, ◌==◌, List, [], ◌∷◌, drop, Option, Some, None, option_to_list}
use Rattle.std.specs.Prelude.{if◌then◌else◌, ◌⊎◌, ⊤, Result, Ok, Err}
use Rattle.std.specs.List.{flat_map}
use Rattle.rate_types.specs.Requests.{RequestParts}
use Rattle.rate_types.specs.declared.memory.OutOfMemory.{OutOfMemory}
use Rattle.rls_core.specs.declared.reply.Reply.{Reply}
use Rattle.rls_core.specs.declared.fault.CheckFault.{CheckFault}
use Rattle.rls_core.specs.declared.fault.CheckFault.TheVariants as fault
use Rattle.reply_text.specs.Texts.{reply_text_of}
use Rattle.http_front.specs.Head.{head_max}
use Rattle.http_front.specs.Front.{IsFront, is_waiting, sends, used_of, plain, json, stats_answer, is_json}
use Rattle.http_front.specs.Printed.{answer_bytes}
use Rattle.http_front.specs.declared.answer.HttpAnswer.{HttpAnswer}
use Rattle.http_front.specs.declared.front.Front.{Front}
use Rattle.http_front.specs.declared.front.Front.TheVariants.{Ended, CutShort, Fixed, Check, Stats}

-- the most answers of one connection
abbrev pub answers_max : ℕ
answers_max = 1024

-- a check that was made: the request, the moment that was offered, and what came of it
pub record Checked : Type 0 where
  pub request : RequestParts
  pub now : ℕ
  pub result : Result Reply CheckFault

-- what was asked of what answers checks: a check, or the statistics of rules, of which this is the text where it keeps any
pub data Asked : Type 0 where
  check : Checked → Asked
  statistics : Option (List ℕ) → Asked

-- what was asked where the statistics came to this: nothing where there was no memory for them
abbrev pub statistics_asked : Result (Option (List ℕ)) OutOfMemory → Option Asked
statistics_asked (Ok text) = Some (statistics text)
statistics_asked (Err e) = None

-- an answer, the front to which it answers, and what was asked for it
pub record Turn : Type 0 where
  pub front : Front
  pub asked : Option Asked
  pub answer : HttpAnswer

-- ---- one answer

-- the answer that gives a reply: 429 where its overall code is OVER_LIMIT
abbrev pub reply_answer : Reply → Bool → HttpAnswer
reply_answer reply closes =
    json (if reply.over then 429 else 200) (reply_text_of (record { over = reply.over; statuses = reply.statuses.items })) closes

-- the answer to a check that gave this; want of memory has none of its own
abbrev pub GivesResult : Result Reply CheckFault → Bool → HttpAnswer → Type 0
GivesResult (Ok reply) closes answer = answer ≡ reply_answer reply closes
GivesResult (Err (fault.CountersFull moment live held wanted)) closes answer = answer ≡ plain 503 None true closes
GivesResult (Err (fault.ClaimsSpent claims wanted)) closes answer = answer ≡ plain 503 None true closes
GivesResult (Err fault.OutOfMemory) closes answer = ⊥

-- an answer, after which the connection closes too if it is the last that may come
abbrev pub closing : Bool → HttpAnswer → HttpAnswer
closing is_last answer = record answer { closes = answer.closes || is_last }

-- the answer to a front: a fixed one, what came of its check, or the statistics
abbrev pub Answers : Bool → Front → Option Asked → HttpAnswer → Type 0
Answers is_last (Fixed fixed used) None answer = answer ≡ closing is_last fixed
Answers is_last (Fixed fixed used) (Some asked) answer = ⊥
Answers is_last (Check request closes used) (Some (check c)) answer =
    (c.request ≡ request) × GivesResult c.result (closes || is_last) answer
Answers is_last (Check request closes used) (Some (statistics text)) answer = ⊥
Answers is_last (Check request closes used) None answer = ⊥
Answers is_last (Stats method closes used) (Some (statistics text)) answer = answer ≡ stats_answer method text (closes || is_last)
Answers is_last (Stats method closes used) (Some (check c)) answer = ⊥
Answers is_last (Stats method closes used) None answer = ⊥
Answers is_last Ended asked answer = ⊥
Answers is_last CutShort asked answer = ⊥

-- a check is made for the front that asks for it, with its request, the statistics are asked for one that asks for them, and nothing
-- for any other
abbrev pub MayAsk : Front → Option Asked → Type 0
MayAsk front None = ⊤
MayAsk (Check request closes used) (Some (check c)) = c.request ≡ request
MayAsk (Check request closes used) (Some (statistics text)) = ⊥
MayAsk (Stats method closes used) (Some (statistics text)) = ⊤
MayAsk (Stats method closes used) (Some (check c)) = ⊥
MayAsk (Fixed fixed used) (Some asked) = ⊥
MayAsk Ended (Some asked) = ⊥
MayAsk CutShort (Some asked) = ⊥

-- a check that came to this may be answered 500: with a reply, since its text takes memory, and where memory was wanting for the check
abbrev pub ResultWantsMemory : Result Reply CheckFault → Type 0
ResultWantsMemory (Ok reply) = ⊤
ResultWantsMemory (Err (fault.CountersFull moment live held wanted)) = ⊥
ResultWantsMemory (Err (fault.ClaimsSpent claims wanted)) = ⊥
ResultWantsMemory (Err fault.OutOfMemory) = ⊤

-- The answer to a front takes memory: where it has a JSON body, where its request's JSON body is read, and where a request of more bytes
-- than a head may have is kept. So no refusal takes any by its head alone, and of the others only that of a longer request.
abbrev pub WantsMemory : Front → Option Asked → Type 0
WantsMemory (Fixed fixed used) asked = (is_json fixed.body ≡ true) ⊎ (head_max < used)
WantsMemory (Check request closes used) None = ⊤
WantsMemory (Check request closes used) (Some (check c)) = ResultWantsMemory c.result
WantsMemory (Check request closes used) (Some (statistics text)) = ⊥
WantsMemory (Stats method closes used) None = ⊤
WantsMemory (Stats method closes used) (Some (statistics text)) = is_json (stats_answer method text closes).body ≡ true
WantsMemory (Stats method closes used) (Some (check c)) = ⊥
WantsMemory Ended asked = ⊥
WantsMemory CutShort asked = ⊥

-- 500 in the place of an answer that takes memory, which closes; its body is sent just where that answer's would be
pub record IsNoMemory (t : Turn) : Type 0 where
  pub may_ask : MayAsk t.front t.asked
  pub wants : WantsMemory t.front t.asked
  pub answer : t.answer ≡ plain 500 None (sends t.front) true

-- an answer of a connection, the last that may come or an earlier one
abbrev pub IsTurn : Bool → Turn → Type 0
IsTurn is_last t = Answers is_last t.front t.asked t.answer ⊎ IsNoMemory t

-- ---- one after the other

-- the next answer after so many, where these bytes come next; the front waits for none
pub record IsNext (before : ℕ) (bytes : List ℕ) (t : Turn) : Type 0 where
  pub front : IsFront bytes t.front
  pub settled : is_waiting t.front ≡ false
  pub turn : IsTurn (before + 1 == answers_max) t

-- Answers that leave the connection open, each to the front of the bytes behind those of the one before; and the bytes after
-- them all. So many answers came before.
abbrev pub AreAnswers : ℕ → List ℕ → List Turn → List ℕ → Type 0
AreAnswers before bytes [] rest = rest ≡ bytes
AreAnswers before bytes (t ∷ turns) rest = IsNext before bytes t × (t.answer.closes ≡ false)
    × AreAnswers (before + 1) (drop (used_of t.front) bytes) turns rest

-- the bytes of one answer
abbrev pub turn_bytes : Turn → List ℕ
turn_bytes t = answer_bytes t.answer

-- ---- the checks

-- what was asked, in order
abbrev pub asked_in : List Turn → List Asked
asked_in turns = flat_map (λ t. option_to_list t.asked) turns

-- the checks among it
abbrev pub checks_in : List Asked → List Checked
checks_in [] = []
checks_in (check c ∷ asked) = c ∷ checks_in asked
checks_in (statistics text ∷ asked) = checks_in asked

-- what answers checks does: from a state, what is asked comes to this and leaves a state
abbrev pub CheckStep : Type 0 → Type 1
CheckStep S = S → Asked → S → Type 0

-- each thing that is asked leads from the state that the one before it left
abbrev pub Lead : {S : Type 0} → CheckStep S → S → List Asked → S → Type 0
Lead answers old [] new = new ≡ old
Lead {S} answers old (a ∷ asked) new = (next : S) × answers old a next × Lead answers next asked new
