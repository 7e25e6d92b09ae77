-- The answers of a connection, one after the other.
use Rattle.std.specs.Prelude.{option_to_list, map, Ok, Err, Result, OnOk, OnErr}
use Rattle.std.specs.List.{flat_map}
use Rattle.std.proofs.Common.{◌≡◌, ℕ, suc, ◌+◌, ◌==◌, true, false, List, [], ◌∷◌, ◌++◌, length, take, drop, Option, Some, None, refl, sym, ap, ◌∙◌, subst, append-nil, append_assoc}
use Rattle.std.proofs.Common.{length-append, arith, le_trans}
use Rattle.std.proofs.lemmas.List.{drop-append-le, map-append}
use Rattle.std.proofs.lemmas.Grind.{flat_map-append}
use Rattle.std.specs.Io.KnownBytes.{Consumes}
use Rattle.rate_io.specs.Causes.{HasCause}
use Rattle.rate_io.specs.Content.{Appends, AppendsPart}
use Rattle.rate_io.specs.Events.{Event, wrote, write_failed, given, has_ended, has_failed, has_write_failed, pieces_written, write_event}
use Rattle.rate_io.specs.Links.{LinkState, StaysLink, IsLinkWrite}
use Rattle.http_front.specs.Front.{IsFront, used_of}
use Rattle.http_front.specs.Part.{Stands}
use Rattle.http_front.specs.declared.front.Front.{Front}
use Rattle.http_front.specs.declared.front.Front.TheVariants.{Ended, CutShort}
use Rattle.http_endpoint.specs.Answers.{answers_max, Asked, check, statistics, Turn, IsTurn, IsNext, AreAnswers, turn_bytes, asked_in, CheckStep, Lead}
use Rattle.http_endpoint.specs.Order.{ReadsOn, told_for, OffersWithin, Calls}
use Rattle.http_endpoint.specs.Served.{Wrote, EndsBy, Serves}
use Rattle.http_endpoint.specs.Steps.{Drew, Tells, FoundEnd, FailedToRead, StandAnswers, Goes}
use Rattle.http_endpoint.specs.declared.link_end.LinkCause.{LinkCause}
use Rattle.http_endpoint.specs.declared.link_end.LinkCause.TheVariants as cause
use Rattle.http_endpoint.proofs.ReadLemmas.{reads_more, given-append, ended-append, failed-append, pieces-append, unfailed-append, write_failed-append, consumes_more, consumes_same}
use Rattle.http_endpoint.proofs.ReadLemmas.{rose_earlier, stays_more}
use Rattle.http_endpoint.proofs.TurnLemmas.{lead_more}

-- ---- answers

-- a front that stands stands when more bytes come
pub stands_more : (bytes more : List ℕ) (front : Front) → Stands bytes front → Stands (bytes ++ more) front
stands_more bytes more front x = record {
  front_is = x.stays more;
  settled = x.settled;
  within = omega (arith, x.within, length-append bytes more);
  stays = λ rest. subst (λ (ys : List ℕ). IsFront ys front) (sym (append_assoc bytes more rest)) (x.stays (more ++ rest));
  only = λ rest other at. x.only (more ++ rest) other (subst (λ (ys : List ℕ). IsFront ys other) (append_assoc bytes more rest) at);
}

-- answers stay when more bytes come
pub answers_more : (n : ℕ) (bytes more : List ℕ) (turns : List Turn) (rest : List ℕ) → StandAnswers n bytes turns rest → StandAnswers n (bytes ++ more) turns (rest ++ more)
answers_more n bytes more [] rest x = ap (λ xs. xs ++ more) x
answers_more n bytes more (t ∷ turns) rest x =
    let room = x.0.within in
    (stands_more bytes more t.front x.0, x.1, x.2, rw (drop-append-le (used_of t.front) bytes more room) (answers_more (n + 1) (drop (used_of t.front) bytes) more turns rest x.3))

-- one answer more
pub answers_on : (n : ℕ) (bytes : List ℕ) (turns : List Turn) (mid : List ℕ) (t : Turn) → StandAnswers n bytes turns mid
    → Stands mid t.front → IsTurn (n + length turns + 1 == answers_max) t → t.answer.closes ≡ false
    → StandAnswers n bytes (turns ++ t ∷ []) (drop (used_of t.front) mid)
answers_on n bytes [] mid t x stands turn stays =
    let same : n + 0 + 1 ≡ n + 1 = omega arith in
    (subst (λ (ys : List ℕ). Stands ys t.front) x stands, subst (λ (k : ℕ). IsTurn (k == answers_max) t) same turn, stays, ap (λ ys. drop (used_of t.front) ys) x)
answers_on n bytes (s ∷ turns) mid t x stands turn stays =
    let same : n + suc (length turns) + 1 ≡ n + 1 + length turns + 1 = omega arith in
    (x.0, x.1, x.2, answers_on (n + 1) (drop (used_of s.front) bytes) turns mid t x.3 stands (subst (λ (k : ℕ). IsTurn (k == answers_max) t) same turn) stays)

-- such answers are the answers to the bytes
pub answers_are : (n : ℕ) (bytes : List ℕ) (turns : List Turn) (rest : List ℕ) → StandAnswers n bytes turns rest → AreAnswers n bytes turns rest
answers_are n bytes [] rest x = x
answers_are n bytes (t ∷ turns) rest x =
    (record { front = x.0.front_is; settled = x.0.settled; turn = x.1 }, x.2, answers_are (n + 1) (drop (used_of t.front) bytes) turns rest x.3)

-- what is listed for one answer more
pub one_more : {X : Type 0} (f : Turn → List X) (turns : List Turn) (t : Turn) → flat_map f (turns ++ t ∷ []) ≡ flat_map f turns ++ f t
one_more f turns t = flat_map-append f turns (t ∷ []) ∙ ap (λ xs. flat_map f turns ++ xs) (append-nil (f t))

-- ---- what was written

pub appends_more : (a b c : Option (List ℕ)) (xs ys : List ℕ) → Appends a b xs → Appends b c ys → Appends a c (xs ++ ys)
appends_more a b None xs ys h k = tt
appends_more None None (Some ws) xs ys h k = absurd k
appends_more (Some us) None (Some ws) xs ys h k = absurd k
appends_more None (Some vs) (Some ws) xs ys h k = absurd h
appends_more (Some us) (Some vs) (Some ws) xs ys h k = k ∙ (ap (λ zs. zs ++ ys) h ∙ append_assoc us xs ys)

-- what was told for a check, and one write: both hand out no byte
given_told : (asked : Option Asked) (piece : List ℕ) → given (told_for asked ++ wrote piece ∷ []) ≡ []
given_told None piece = refl
given_told (Some (check c)) piece = refl
given_told (Some (statistics text)) piece = refl

given_told_failed : (asked : Option Asked) (piece : List ℕ) → given (told_for asked ++ write_failed piece ∷ []) ≡ []
given_told_failed None piece = refl
given_told_failed (Some (check c)) piece = refl
given_told_failed (Some (statistics text)) piece = refl

pieces_told : (asked : Option Asked) (piece : List ℕ) → pieces_written (told_for asked ++ wrote piece ∷ []) ≡ piece ∷ []
pieces_told None piece = refl
pieces_told (Some (check c)) piece = refl
pieces_told (Some (statistics text)) piece = refl

pieces_told_failed : (asked : Option Asked) (piece : List ℕ) → pieces_written (told_for asked ++ write_failed piece ∷ []) ≡ []
pieces_told_failed None piece = refl
pieces_told_failed (Some (check c)) piece = refl
pieces_told_failed (Some (statistics text)) piece = refl

unfailed_told : (asked : Option Asked) (piece : List ℕ) → has_write_failed (told_for asked ++ wrote piece ∷ []) ≡ false
unfailed_told None piece = refl
unfailed_told (Some (check c)) piece = refl
unfailed_told (Some (statistics text)) piece = refl

failed_told : (asked : Option Asked) (piece : List ℕ) → has_write_failed (told_for asked ++ write_failed piece ∷ []) ≡ true
failed_told None piece = refl
failed_told (Some (check c)) piece = refl
failed_told (Some (statistics text)) piece = refl

given_wrote : (events : List Event) (asked : Option Asked) (piece : List ℕ) → given (events ++ (told_for asked ++ wrote piece ∷ [])) ≡ given events
given_wrote events asked piece = given-append events (told_for asked ++ wrote piece ∷ [])
    ∙ (ap (λ (ys : List ℕ). given events ++ ys) (given_told asked piece) ∙ append-nil (given events))

given_failed : (events : List Event) (asked : Option Asked) (piece : List ℕ) → given (events ++ (told_for asked ++ write_failed piece ∷ [])) ≡ given events
given_failed events asked piece = given-append events (told_for asked ++ write_failed piece ∷ [])
    ∙ (ap (λ (ys : List ℕ). given events ++ ys) (given_told_failed asked piece) ∙ append-nil (given events))

-- what the clock told for a check, and then a write that answered so
pub record IsAnswered {T E : Type 0} (old new : LinkState) (result : Result T E) (asked : Option Asked) (piece : List ℕ) : Type 0 where
  pub done : OnOk result (Appends old.written new.written piece)
  pub part : OnErr result (AppendsPart old.written new.written piece)
  pub within : OffersWithin old.bounds asked
  pub left : new.left ≡ old.left
  pub history : new.history ≡ old.history ++ (told_for asked ++ write_event result piece ∷ [])
  pub cause : HasCause old.faults new.faults result
  pub stays : StaysLink old new

pub answered : {T E : Type 0} (a b c : LinkState) (result : Result T E) (asked : Option Asked) (piece : List ℕ)
    → Tells a b asked → IsLinkWrite b c result piece → IsAnswered a c result asked piece
answered a b c result asked piece x y = record {
  done = subst (λ (w : Option (List ℕ)). OnOk result (Appends w c.written piece)) x.written y.done;
  part = subst (λ (w : Option (List ℕ)). OnErr result (AppendsPart w c.written piece)) x.written y.part;
  within = x.within;
  left = y.left ∙ x.left;
  history = y.history ∙ (ap (λ (h : List Event). h ++ write_event result piece ∷ []) x.history
      ∙ append_assoc a.history (told_for asked) (write_event result piece ∷ []));
  cause = subst (λ (n : ℕ). HasCause n c.faults result) x.faults y.cause;
  stays = stays_more a b c x.stays y.stays;
}

-- ---- the order

behind : (events reads told later tail : List Event) (e : Event) → events ≡ reads ++ (told ++ e ∷ later) → events ++ tail ≡ reads ++ (told ++ e ∷ (later ++ tail))
behind events reads told later tail e is = ap (λ (es : List Event). es ++ tail) is
    ∙ (append_assoc reads (told ++ e ∷ later) tail ∙ ap (λ (es : List Event). reads ++ es) (append_assoc told (e ∷ later) tail))

-- more was read
calls_grow : (bounds : Option (ℕ × ℕ)) (bytes : List ℕ) (turns : List Turn) (events more : List Event) (rest : List ℕ)
    → Calls bounds bytes turns events rest → ReadsOn rest more → Calls bounds bytes turns (events ++ more) (rest ++ given more)
calls_grow bounds bytes [] events more rest c r = (
  reads_more bytes events more c.0 (subst (λ (bs : List ℕ). ReadsOn bs more) c.1 r),
  ap (λ (bs : List ℕ). bs ++ given more) c.1 ∙ (append_assoc bytes (given events) (given more) ∙ ap (λ (bs : List ℕ). bytes ++ bs) (sym (given-append events more))),
)
calls_grow bounds bytes (t ∷ turns) events more rest c r = (
  c.0,
  c.1 ++ more,
  behind events c.0 (told_for t.asked) c.1 more (wrote (turn_bytes t)) c.2,
  c.3,
  c.4,
  c.5,
  calls_grow bounds (drop (used_of t.front) (bytes ++ given c.0)) turns c.1 more rest c.6 r,
)

-- one answer more
calls_on : (bounds : Option (ℕ × ℕ)) (bytes : List ℕ) (turns : List Turn) (events : List Event) (mid : List ℕ) (t : Turn)
    → Calls bounds bytes turns events mid → IsFront mid t.front → OffersWithin bounds t.asked
    → Calls bounds bytes (turns ++ t ∷ []) (events ++ (told_for t.asked ++ wrote (turn_bytes t) ∷ [])) (drop (used_of t.front) mid)
calls_on bounds bytes [] events mid t c front within = (
  events,
  [],
  refl,
  c.0,
  subst (λ (bs : List ℕ). IsFront bs t.front) c.1 front,
  within,
  (tt, ap (λ (bs : List ℕ). drop (used_of t.front) bs) c.1 ∙ sym (append-nil (drop (used_of t.front) (bytes ++ given events)))),
)
calls_on bounds bytes (s ∷ turns) events mid t c front within = (
  c.0,
  c.1 ++ (told_for t.asked ++ wrote (turn_bytes t) ∷ []),
  behind events c.0 (told_for s.asked) c.1 (told_for t.asked ++ wrote (turn_bytes t) ∷ []) (wrote (turn_bytes s)) c.2,
  c.3,
  c.4,
  c.5,
  calls_on bounds (drop (used_of s.front) (bytes ++ given c.0)) turns c.1 mid t c.6 front within,
)

-- one answer more was written
wrote_more : {E : Type 0} (a b c : LinkState) (events : List Event) (turns : List Turn) (t : Turn) (piece : List ℕ) (done : Unit {0})
    → Wrote a b events turns → IsAnswered {E = E} b c (Ok done) t.asked piece → piece ≡ turn_bytes t
    → Wrote a c (events ++ (told_for t.asked ++ wrote piece ∷ [])) (turns ++ t ∷ [])
wrote_more a b c events turns t piece done w x is = record {
  pieces = pieces-append events (told_for t.asked ++ wrote piece ∷ []) ∙ (ap (λ p. pieces_written events ++ p) (pieces_told t.asked piece)
      ∙ (ap (λ p. p ++ piece ∷ []) w.pieces ∙ (ap (λ p. map turn_bytes turns ++ p ∷ []) is ∙ sym (map-append turn_bytes turns (t ∷ [])))));
  unfailed = unfailed-append events (told_for t.asked ++ wrote piece ∷ []) w.unfailed (unfailed_told t.asked piece);
  told = subst (λ (bytes : List ℕ). Appends a.written c.written bytes) (sym (one_more turn_bytes turns t))
      (appends_more a.written b.written c.written (flat_map turn_bytes turns) (turn_bytes t) w.told (subst (λ (bytes : List ℕ). Appends b.written c.written bytes) is x.done));
}

-- ---- the connection

-- nothing was answered yet
pub goes_first : {S : Type 0} (answers : CheckStep S) (checks : S) (a : LinkState) → Goes answers checks checks a a 0 []
goes_first answers checks a = record {
  events = [];
  turns = [];
  history = sym (append-nil a.history);
  are_answers = refl;
  calls = (tt, refl);
  wrote = record { pieces = refl; unfailed = refl; told = same a.written };
  lead = refl;
  left = consumes_same a.left;
  later = omega arith;
  stays = record { can_fail = refl; is_shut = refl; bounds = refl; sure = λ sure. refl };
  count_is = refl;
}
  where
    same : (o : Option (List ℕ)) → Appends o o []
    same None = tt
    same (Some xs) = sym (append-nil xs)

-- more was read
pub grown : {S : Type 0} (answers : CheckStep S) (checks now : S) (a b c : LinkState) (count : ℕ) (unread : List ℕ) (more : List Event)
    → (g : Goes answers checks now a b count unread) → Drew unread b c more
    → (goes : Goes answers checks now a c count (unread ++ given more)) × (goes.events ≡ g.events ++ more)
grown answers checks now a b c count unread more g d = (
  record {
    events = g.events ++ more;
    turns = g.turns;
    history = d.history ∙ (ap (λ h. h ++ more) g.history ∙ append_assoc a.history g.events more);
    are_answers = subst (λ (bytes : List ℕ). StandAnswers 0 bytes g.turns (unread ++ given more)) (sym (given-append g.events more))
        (answers_more 0 (given g.events) (given more) g.turns unread g.are_answers);
    calls = calls_grow a.bounds [] g.turns g.events more unread g.calls d.on;
    wrote = record {
      pieces = pieces-append g.events more ∙ (ap (λ p. pieces_written g.events ++ p) d.quiet ∙ (append-nil (pieces_written g.events) ∙ g.wrote.pieces));
      unfailed = unfailed-append g.events more g.wrote.unfailed d.unfailed;
      told = subst (λ (w : Option (List ℕ)). Appends a.written w (flat_map turn_bytes g.turns)) (sym d.written) g.wrote.told;
    };
    lead = g.lead;
    left = subst (λ (bytes : List ℕ). Consumes a.left c.left bytes) (sym (given-append g.events more)) (consumes_more a.left b.left c.left (given g.events)
        (given more) g.left d.left);
    later = le_trans g.later d.later;
    stays = stays_more a b c g.stays d.stays;
    count_is = g.count_is;
  },
  refl,
)

-- the next answer of a connection
pub next_of : (n : ℕ) (bytes : List ℕ) (t : Turn) → Stands bytes t.front → IsTurn (n + 1 == answers_max) t → IsNext n bytes t
next_of n bytes t stands turn = record { front = stands.front_is; settled = stands.settled; turn = turn }

-- one answer more, after which it goes on
pub goes_on : {S E : Type 0} (answers : CheckStep S) (checks now after : S) (a b c : LinkState) (count : ℕ) (bytes unread : List ℕ) (t : Turn)
    (piece : List ℕ) (done : Unit {0})
    → Goes answers checks now a b count bytes → Stands bytes t.front → IsTurn (count + 1 == answers_max) t → t.answer.closes ≡ false → unread ≡ drop (used_of t.front) bytes
    → Lead answers now (option_to_list t.asked) after → IsAnswered {E = E} b c (Ok done) t.asked piece → piece ≡ turn_bytes t
    → Goes answers checks after a c (count + 1) unread
goes_on answers checks now after a b c count bytes unread t piece done g stands turn stays rest lead w is = record {
  events = g.events ++ (told_for t.asked ++ wrote piece ∷ []);
  turns = g.turns ++ t ∷ [];
  history = w.history ∙ (ap (λ h. h ++ (told_for t.asked ++ wrote piece ∷ [])) g.history ∙ append_assoc a.history g.events (told_for t.asked ++ wrote piece ∷ []));
  are_answers = subst (λ (read : List ℕ). StandAnswers 0 read (g.turns ++ t ∷ []) unread) (sym (given_wrote g.events t.asked piece))
      (subst (λ (ys : List ℕ). StandAnswers 0 (given g.events) (g.turns ++ t ∷ []) ys) (sym rest)
      (answers_on 0 (given g.events) g.turns bytes t g.are_answers stands (subst (λ (k : ℕ). IsTurn (k + 1 == answers_max) t) (g.count_is ∙ sym (zero_first
      (length g.turns))) turn) stays));
  calls = subst (λ (p : List ℕ). Calls a.bounds [] (g.turns ++ t ∷ []) (g.events ++ (told_for t.asked ++ wrote p ∷ [])) unread) (sym is)
      (subst (λ (ys : List ℕ). Calls a.bounds [] (g.turns ++ t ∷ []) (g.events ++ (told_for t.asked ++ wrote (turn_bytes t) ∷ [])) ys) (sym rest)
      (calls_on a.bounds [] g.turns g.events bytes t g.calls stands.front_is (subst (λ (bs : Option (ℕ × ℕ)). OffersWithin bs t.asked) g.stays.bounds w.within)));
  wrote = wrote_more a b c g.events g.turns t piece done g.wrote w is;
  lead = subst (λ (qs : List Asked). Lead answers checks qs after) (sym (one_more (λ x. option_to_list x.asked) g.turns t))
      (lead_more answers checks now after (asked_in g.turns) (option_to_list t.asked) g.lead lead);
  left = subst (λ (read : List ℕ). Consumes a.left c.left read) (sym (given_wrote g.events t.asked piece)) (subst (λ (l : Option (List ℕ)). Consumes a.left l (given g.events))
      (sym w.left) g.left);
  later = le_trans g.later w.cause.later;
  stays = stays_more a b c g.stays w.stays;
  count_is = ap (λ n. n + 1) g.count_is ∙ sym (length-append g.turns (t ∷ []));
}
  where
    zero_first : (n : ℕ) → 0 + n ≡ n
    zero_first n = omega arith

-- it ended with no answer more
pub serves_none : {S : Type 0} (answers : CheckStep S) (checks now after : S) (a b : LinkState) (cause : LinkCause) (count : ℕ) (unread : List ℕ)
    → (g : Goes answers checks now a b count unread) → after ≡ now → EndsBy cause a b g.events g.turns None unread count
    → Serves answers checks after a b cause count
serves_none {S = S} answers checks now after a b cause count unread g same ends = record {
  events = g.events;
  turns = g.turns;
  last = None;
  rest = unread;
  history = g.history;
  are_answers = answers_are 0 (given g.events) g.turns unread g.are_answers;
  is_next = tt;
  in_order = g.calls;
  lead = subst (λ (qs : List Turn). Lead answers checks (asked_in qs) after) (sym (append-nil g.turns)) (subst (λ (s : S). Lead answers checks
      (asked_in g.turns) s) (sym same) g.lead);
  ends = ends;
  left = g.left;
  stays = g.stays;
}

-- it ended between two requests
pub serves_ended : {S : Type 0} (answers : CheckStep S) (checks now after : S) (a b c : LinkState) (count : ℕ) (unread : List ℕ) (more : List Event)
    → Goes answers checks now a b count unread → Drew unread b c more → IsFront (unread ++ given more) Ended → FoundEnd c more → after ≡ now
    → Serves answers checks after a c cause.Ended count
serves_ended answers checks now after a b c count unread more g d front end same =
    let goes = grown answers checks now a b c count unread more g d in
    serves_none answers checks now after a c cause.Ended count (unread ++ given more) goes.0 same
    (refl, front, ap has_ended goes.1 ∙ ended-append g.events more end.ended, end.empty, goes.0.wrote, goes.0.count_is)

-- it ended inside a request
pub serves_cut : {S : Type 0} (answers : CheckStep S) (checks now after : S) (a b c : LinkState) (count : ℕ) (unread : List ℕ) (more : List Event)
    → Goes answers checks now a b count unread → Drew unread b c more → IsFront (unread ++ given more) CutShort → FoundEnd c more → after ≡ now
    → Serves answers checks after a c cause.CutShort count
serves_cut answers checks now after a b c count unread more g d front end same =
    let goes = grown answers checks now a b c count unread more g d in
    serves_none answers checks now after a c cause.CutShort count (unread ++ given more) goes.0 same
    (refl, front, ap has_ended goes.1 ∙ ended-append g.events more end.ended, end.empty, goes.0.wrote, goes.0.count_is)

-- it ended in a read that failed
pub serves_read_fault : {S : Type 0} (answers : CheckStep S) (checks now after : S) (a b c : LinkState) (count : ℕ) (unread : List ℕ) (more : List Event)
    → Goes answers checks now a b count unread → Drew unread b c more → FailedToRead b c more → after ≡ now
    → Serves answers checks after a c cause.ReadFault count
serves_read_fault answers checks now after a b c count unread more g d fails same =
    let goes = grown answers checks now a b c count unread more g d in
    serves_none answers checks now after a c cause.ReadFault count (unread ++ given more) goes.0 same
    (refl, ap has_failed goes.1 ∙ failed-append g.events more fails.failed, rose_earlier a.faults b.faults c.faults g.later fails.rose, goes.0.wrote, goes.0.count_is)

-- it ended behind an answer that closes
pub serves_closed : {S E : Type 0} (answers : CheckStep S) (checks now after : S) (a b c : LinkState) (count : ℕ) (bytes : List ℕ) (t : Turn)
    (piece : List ℕ) (done : Unit {0})
    → Goes answers checks now a b count bytes → IsNext count bytes t → t.answer.closes ≡ true
    → Lead answers now (option_to_list t.asked) after → IsAnswered {E = E} b c (Ok done) t.asked piece → piece ≡ turn_bytes t
    → Serves answers checks after a c cause.Closed (count + 1)
serves_closed answers checks now after a b c count bytes t piece done g next closes lead w is = record {
  events = g.events ++ (told_for t.asked ++ wrote piece ∷ []);
  turns = g.turns;
  last = Some t;
  rest = bytes;
  history = w.history ∙ (ap (λ h. h ++ (told_for t.asked ++ wrote piece ∷ [])) g.history ∙ append_assoc a.history g.events (told_for t.asked ++ wrote piece ∷ []));
  are_answers = subst (λ (read : List ℕ). AreAnswers 0 read g.turns bytes) (sym (given_wrote g.events t.asked piece)) (answers_are 0 (given g.events) g.turns bytes g.are_answers);
  is_next = subst (λ (k : ℕ). IsNext k bytes t) g.count_is next;
  in_order = (g.events, wrote piece, refl, is, subst (λ (bs : Option (ℕ × ℕ)). OffersWithin bs t.asked) g.stays.bounds w.within, g.calls);
  lead = subst (λ (qs : List Asked). Lead answers checks qs after) (sym (one_more (λ x. option_to_list x.asked) g.turns t))
      (lead_more answers checks now after (asked_in g.turns) (option_to_list t.asked) g.lead lead);
  ends = (t, refl, closes, wrote_more a b c g.events g.turns t piece done g.wrote w is, ap (λ n. n + 1) g.count_is);
  left = subst (λ (read : List ℕ). Consumes a.left c.left read) (sym (given_wrote g.events t.asked piece)) (subst (λ (l : Option (List ℕ)). Consumes a.left l (given g.events))
      (sym w.left) g.left);
  stays = stays_more a b c g.stays w.stays;
}

-- it ended in a write that failed
pub serves_failed : {S E : Type 0} (answers : CheckStep S) (checks now after : S) (a b c : LinkState) (count : ℕ) (bytes : List ℕ) (t : Turn)
    (piece : List ℕ) (e : E)
    → Goes answers checks now a b count bytes → IsNext count bytes t
    → Lead answers now (option_to_list t.asked) after → IsAnswered {T = Unit {0}} b c (Err e) t.asked piece → piece ≡ turn_bytes t
    → Serves answers checks after a c cause.WriteFault count
serves_failed answers checks now after a b c count bytes t piece e g next lead w is = record {
  events = g.events ++ (told_for t.asked ++ write_failed piece ∷ []);
  turns = g.turns;
  last = Some t;
  rest = bytes;
  history = w.history ∙ (ap (λ h. h ++ (told_for t.asked ++ write_failed piece ∷ [])) g.history ∙ append_assoc a.history g.events (told_for t.asked ++ write_failed piece ∷ []));
  are_answers = subst (λ (read : List ℕ). AreAnswers 0 read g.turns bytes) (sym (given_failed g.events t.asked piece)) (answers_are 0 (given g.events) g.turns bytes g.are_answers);
  is_next = subst (λ (k : ℕ). IsNext k bytes t) g.count_is next;
  in_order = (g.events, write_failed piece, refl, is, subst (λ (bs : Option (ℕ × ℕ)). OffersWithin bs t.asked) g.stays.bounds w.within, g.calls);
  lead = subst (λ (qs : List Asked). Lead answers checks qs after) (sym (one_more (λ x. option_to_list x.asked) g.turns t))
      (lead_more answers checks now after (asked_in g.turns) (option_to_list t.asked) g.lead lead);
  ends = (
    t,
    refl,
    record {
      pieces = pieces-append g.events (told_for t.asked ++ write_failed piece ∷ []) ∙ (ap (λ p. pieces_written g.events ++ p) (pieces_told_failed t.asked piece)
          ∙ (append-nil (pieces_written g.events) ∙ g.wrote.pieces));
      failed = write_failed-append g.events (told_for t.asked ++ write_failed piece ∷ []) (failed_told t.asked piece);
      rose = rose_earlier a.faults b.faults c.faults g.later w.cause.failed;
      part = w.part.0;
      told = appends_more a.written b.written c.written (flat_map turn_bytes g.turns) (take w.part.0 (turn_bytes t)) g.wrote.told
          (subst (λ (ys : List ℕ). Appends b.written c.written (take w.part.0 ys)) is w.part.1);
    },
    g.count_is,
  );
  left = subst (λ (read : List ℕ). Consumes a.left c.left read) (sym (given_failed g.events t.asked piece)) (subst (λ (l : Option (List ℕ)). Consumes a.left l (given g.events))
      (sym w.left) g.left);
  stays = stays_more a b c g.stays w.stays;
}

-- nothing was told behind the reads
pub serves_at : {S : Type 0} (answers : CheckStep S) (checks after : S) (a mid new : LinkState) (cause : LinkCause) (count : ℕ)
    → new ≡ mid → Serves answers checks after a mid cause count → Serves answers checks after a new cause count
serves_at answers checks after a mid new cause count same x = subst (λ (l : LinkState). Serves answers checks after a l cause count) (sym same) x
