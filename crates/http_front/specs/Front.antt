-- What stands at the front of a connection's bytes.
use Rattle.std.specs.Prelude.{◌≡◌, ℕ, ◌+◌, Bool, true, false, ◌==◌, nat_lt, nat_le, List, length, take, drop, Option, Some, None}
use Rattle.std.specs.Prelude.{if◌then◌else◌, MatchOption, MatchBool, option_map, Result, Ok, Err}
use Rattle.serde_json.specs.Data.{null}
use Rattle.httparse.specs.Grammar.{RequestHead}
use Rattle.rate_types.specs.Requests.{RequestParts}
use Rattle.rate_types.specs.declared.refused.Refused.{Refused}
use Rattle.reply_text.specs.Texts.{refused_data}
use Rattle.http_front.specs.Head.{head_max, head_length, after_blank, has_too_many_lines, HeadReads}
use Rattle.http_front.specs.Asks.{asks_of}
use Rattle.http_front.specs.Requests.{body_reading, refusal_text}
use Rattle.http_front.specs.declared.asks.Method.{Method}
use Rattle.http_front.specs.declared.asks.Method.TheVariants.{Get, Head, Post, Other}
use Rattle.http_front.specs.declared.asks.Target.{Target}
use Rattle.http_front.specs.declared.asks.Target.TheVariants.{Json, Healthcheck, Stats as StatsTarget, Unknown}
use Rattle.http_front.specs.declared.asks.BodyLength.{BodyLength}
use Rattle.http_front.specs.declared.asks.BodyLength.TheVariants.{Absent, Unclear, Given}
use Rattle.http_front.specs.declared.asks.Asks.{Asks}
use Rattle.http_front.specs.declared.answer.Allow.{Allow}
use Rattle.http_front.specs.declared.answer.Allow.TheVariants as allow
use Rattle.http_front.specs.declared.answer.Body.{Body}
use Rattle.http_front.specs.declared.answer.Body.TheVariants as body
use Rattle.http_front.specs.declared.answer.HttpAnswer.{HttpAnswer}
use Rattle.http_front.specs.declared.front.Front.{Front}
use Rattle.http_front.specs.declared.front.Front.TheVariants.{Ended, CutShort, Fixed, Check, Stats}

-- the most bytes of a body
abbrev pub body_max : ℕ
body_max = 1048576

-- ---- answers

-- an answer whose body is its phrase
abbrev pub plain : ℕ → Option Allow → Bool → Bool → HttpAnswer
plain status allow sends closes = record { status = status; allow = allow; body = body.Phrase; sends_body = sends; closes = closes }

-- an answer whose body is this JSON text
abbrev pub json : ℕ → List ℕ → Bool → HttpAnswer
json status text closes = record { status = status; allow = None; body = body.Json text; sends_body = true; closes = closes }

-- the body of an answer is sent, but to HEAD
abbrev pub sends_body : Method → Bool
sends_body Head = false
sends_body Get = true
sends_body Post = true
sends_body Other = true

abbrev pub is_post : Method → Bool
is_post Post = true
is_post Get = false
is_post Head = false
is_post Other = false

abbrev pub is_get : Method → Bool
is_get Get = true
is_get Post = false
is_get Head = false
is_get Other = false

-- the answer to a request for the statistics: as of an unknown target where there are none, else their text, which GET alone takes
abbrev pub stats_answer : Method → Option (List ℕ) → Bool → HttpAnswer
stats_answer method None closes = plain 404 None (sends_body method) closes
stats_answer method (Some text) closes =
    if is_get method then json 200 text closes else plain 405 (Some allow.Get) (sends_body method) closes

-- ---- fronts, each with the number of bytes before the rest

-- a refusal by the head alone, after which the connection closes
abbrev pub refusal : ℕ → Asks → ℕ → Front
refusal status asks used = Fixed (plain status None (sends_body asks.method) true) used

-- the check that a body asks for, or its refusal; a reading without a fault has a request
abbrev pub json_front : Asks → ℕ → Result (Option RequestParts) Refused → Front
json_front asks used (Ok (Some request)) = Check request asks.closes used
json_front asks used (Ok None) = Fixed (json 400 (refusal_text null) asks.closes) used
json_front asks used (Err refused) = Fixed (json 400 (refusal_text (refused_data refused)) asks.closes) used

-- a method that the target doesn't take
abbrev pub not_allowed : Allow → Asks → ℕ → Front
not_allowed allow asks used = Fixed (plain 405 (Some allow) (sends_body asks.method) asks.closes) used

-- what a whole request asks for, with its body
abbrev pub routed : Asks → Target → ℕ → List ℕ → Front
routed asks Json used body =
    if is_post asks.method then json_front asks used (body_reading body) else not_allowed allow.Post asks used
routed asks Healthcheck used body =
    if is_get asks.method then Fixed (plain 200 None true asks.closes) used else not_allowed allow.Get asks used
routed asks StatsTarget used body = Stats asks.method asks.closes used
routed asks Unknown used body = Fixed (plain 404 None (sends_body asks.method) asks.closes) used

-- with a body of so many bytes, where these follow the head: nothing is answered before it is whole
abbrev pub with_body : Asks → ℕ → ℕ → List ℕ → Front
with_body asks count used after =
    if nat_lt (length after) count then CutShort else routed asks asks.target (used + count) (take count after)

-- by the length that the head gives
abbrev pub by_length : Asks → BodyLength → ℕ → List ℕ → Front
by_length asks Absent used after = if is_post asks.method then refusal 411 asks used else with_body asks 0 used after
by_length asks Unclear used after = refusal 400 asks used
by_length asks (Given count) used after = if nat_lt body_max count then refusal 413 asks used else with_body asks count used after

-- by a head of `used` bytes, which these bytes follow
abbrev pub after_head : Option Asks → ℕ → List ℕ → Front
after_head None used after = Fixed (plain 400 None true true) used
after_head (Some asks) used after = if asks.has_coding then refusal 411 asks used else by_length asks asks.length used after

-- where no head ends in the first bytes: too long, the end at a border, or the end inside a request
abbrev pub headless : List ℕ → Front
headless bytes =
    if nat_le head_max (length bytes) then Fixed (plain 431 None true true) head_max
    else (if length (after_blank bytes) == 0 then Ended else CutShort)

-- by the bytes of a head, and those after it
abbrev pub IsFrontAfter : List ℕ → List ℕ → Front → Type 0
IsFrontAfter head after front = MatchBool (has_too_many_lines head)
    (front ≡ Fixed (plain 431 None true true) (length head))
    ((read : Option RequestHead) × HeadReads head read × (front ≡ after_head (option_map asks_of read) (length head) after))

-- What stands at the front of these bytes, after which the input ends.
abbrev pub IsFront : List ℕ → Front → Type 0
IsFront bytes front = MatchOption (head_length (take head_max bytes))
    (front ≡ headless bytes)
    (λ n. IsFrontAfter (take n bytes) (drop n bytes) front)

-- ---- what is seen of a front

-- the number of bytes before the rest
abbrev pub used_of : Front → ℕ
used_of (Fixed answer used) = used
used_of (Check request closes used) = used
used_of (Stats method closes used) = used
used_of Ended = 0
used_of CutShort = 0

-- more bytes are wanted, unless the input ends here
abbrev pub is_waiting : Front → Bool
is_waiting Ended = true
is_waiting CutShort = true
is_waiting (Fixed answer used) = false
is_waiting (Check request closes used) = false
is_waiting (Stats method closes used) = false

-- the body of this front's answer is sent
abbrev pub sends : Front → Bool
sends (Fixed answer used) = answer.sends_body
sends Ended = true
sends CutShort = true
sends (Check request closes used) = true
sends (Stats method closes used) = sends_body method

-- a body that is JSON
abbrev pub is_json : Body → Bool
is_json body.Phrase = false
is_json (body.Json text) = true

-- the request had a JSON body that was read: only there memory is wanted
abbrev pub has_json : Front → Bool
has_json (Check request closes used) = true
has_json (Stats method closes used) = false
has_json (Fixed answer used) = is_json answer.body
has_json Ended = false
has_json CutShort = false
