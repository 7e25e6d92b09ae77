-- A connection goes on.
use Rattle.std.specs.Prelude.{Ok, Err}
use Rattle.std.specs.List.{flat_map}
use Rattle.std.proofs.Common.{◌≡◌, ℕ, ◌+◌, ◌==◌, false, List, [], ◌∷◌, ◌++◌, length, take, drop, Option, Some, None, refl, sym, ap, ◌∙◌, subst, append-nil, append_assoc}
use Rattle.std.proofs.Common.{arith, le_trans}
use Rattle.std.specs.Io.KnownBytes.{Consumes}
use Rattle.rate_io.specs.Content.{Appends}
use Rattle.rate_io.specs.Events.{Event, wrote, write_failed, given}
use Rattle.rate_io.specs.Links.{LinkState, IsLinkWrite}
use Rattle.http_front.specs.Front.{used_of}
use Rattle.http_front.specs.Part.{Stands}
use Rattle.http_endpoint.specs.Answers.{answers_max, Asked, Turn, IsTurn, turn_bytes}
use Rattle.http_endpoint.specs.Order.{told_for, OffersWithin}
use Rattle.http_endpoint.specs.Steps.{Drew, Tells, FoundEnd, FailedToRead, StandAnswers}
use Rattle.http_endpoint.proofs.ReadLemmas.{given-append, unfailed-append, consumes_more, consumes_same, stays_more, stays_same, rose_earlier, end_later, failed-append}
use Rattle.http_endpoint.proofs.LinkLemmas.{answers_more, answers_on, appends_more, one_more}
use Rattle.conn_tasks.specs.Order.{bytes_written}
use Rattle.conn_tasks.specs.SoFar.{SoFar, Sends, FailsToSend, HasEnded, HasFailed}
use Rattle.conn_tasks.proofs.Orders.{written-append, writes_more, one_write, given_sent, written_sent, unfailed_sent, history_on, calls_grow, calls_on}
use Rattle.conn_tasks.proofs.Pieces.{take_more_by, take_rest_part}

appends_same : (o : Option (List ℕ)) → Appends o o []
appends_same None = tt
appends_same (Some xs) = sym (append-nil xs)

-- ---- reads

-- nothing was read or written yet
pub so_first : (a : LinkState) → SoFar a a [] []
so_first a = record {
  events = [];
  history = sym (append-nil a.history);
  answered = refl;
  calls = (tt, refl);
  written = refl;
  unfailed = refl;
  told = appends_same a.written;
  left = consumes_same a.left;
  later = omega arith;
  stays = stays_same a;
}

-- more was read
pub so_read : (first b c : LinkState) (turns : List Turn) (rest : List ℕ) (more : List Event)
    → (s : SoFar first b turns rest) → Drew rest b c more → (now : SoFar first c turns (rest ++ given more)) × (now.events ≡ s.events ++ more)
so_read first b c turns rest more s d = (
  record {
    events = s.events ++ more;
    history = history_on first.history b.history c.history s.events more s.history d.history;
    answered = subst (λ (bytes : List ℕ). StandAnswers 0 bytes turns (rest ++ given more)) (sym (given-append s.events more))
        (answers_more 0 (given s.events) (given more) turns rest s.answered);
    calls = calls_grow first.bounds [] turns s.events more rest s.calls d.on;
    written = written-append s.events more ∙ (ap (λ ps. bytes_written s.events ++ flat_map (λ (p : List ℕ). p) ps) d.quiet
        ∙ (append-nil (bytes_written s.events) ∙ s.written));
    unfailed = unfailed-append s.events more s.unfailed d.unfailed;
    told = subst (λ (w : Option (List ℕ)). Appends first.written w (flat_map turn_bytes turns)) (sym d.written) s.told;
    left = subst (λ (bytes : List ℕ). Consumes first.left c.left bytes) (sym (given-append s.events more))
        (consumes_more first.left b.left c.left (given s.events) (given more) s.left d.left);
    later = le_trans s.later d.later;
    stays = stays_more first b c s.stays d.stays;
  },
  refl,
)

-- the end was found
pub so_ended : (first b c : LinkState) (turns : List Turn) (rest : List ℕ) (more : List Event)
    → SoFar first b turns rest → Drew rest b c more → FoundEnd c more → given more ≡ [] → HasEnded first c turns rest
so_ended first b c turns rest more s d end none =
    let r = so_read first b c turns rest more s d in
    let same : rest ++ given more ≡ rest = ap (λ ys. rest ++ ys) none ∙ append-nil rest in
    subst (λ (ys : List ℕ). HasEnded first c turns ys) same
    (record { so_far = r.0; end = subst (λ (es : List Event). FoundEnd c es) (sym r.1) (end_later c s.events more end) })

-- a read failed
pub so_failed : (first b c : LinkState) (turns : List Turn) (rest : List ℕ) (more : List Event)
    → SoFar first b turns rest → Drew rest b c more → FailedToRead b c more → given more ≡ [] → HasFailed first c turns rest
so_failed first b c turns rest more s d fault none =
    let r = so_read first b c turns rest more s d in
    let same : rest ++ given more ≡ rest = ap (λ ys. rest ++ ys) none ∙ append-nil rest in
    let failed : FailedToRead first c (s.events ++ more) = record {
      failed = failed-append s.events more fault.failed;
      rose = rose_earlier first.faults b.faults c.faults s.later fault.rose;
    } in
    subst (λ (ys : List ℕ). HasFailed first c turns ys) same
    (record { so_far = r.0; fault = subst (λ (es : List Event). FailedToRead first c es) (sym r.1) failed })

-- ---- writes

-- nothing was written yet
pub sends_first : (a b : LinkState) (asked : Option Asked) → Tells a b asked → Sends a b asked []
sends_first a b asked x = record {
  writes = [];
  history = x.history ∙ ap (λ (es : List Event). a.history ++ es) (sym (append-nil (told_for asked)));
  are = record { are = tt; bytes_are = refl };
  within = x.within;
  told = subst (λ (w : Option (List ℕ)). Appends a.written w []) (sym x.written) (appends_same a.written);
  left = x.left;
  later = omega (arith, x.faults);
  stays = x.stays;
}

written_behind : (a b c told writes more : List Event) → b ≡ a ++ (told ++ writes) → c ≡ b ++ more → c ≡ a ++ (told ++ (writes ++ more))
written_behind a b c told writes more x y = history_on a b c (told ++ writes) more x y ∙ ap (λ (es : List Event). a ++ es) (append_assoc told writes more)

-- more was written
pub sends_more : {E : Type 0} (a b c : LinkState) (asked : Option Asked) (piece : List ℕ) (sent count : ℕ)
    → Sends a b asked (take sent piece) → IsLinkWrite {T = Unit {0}} {E = E} b c (Ok tt) (take count (drop sent piece))
    → Sends a c asked (take (sent + count) piece)
sends_more a b c asked piece sent count s w =
    let part = take count (drop sent piece) in
    subst (λ (ys : List ℕ). Sends a c asked ys) (take_more_by sent count piece)
    (record {
      writes = s.writes ++ wrote part ∷ [];
      history = written_behind a.history b.history c.history (told_for asked) s.writes (wrote part ∷ []) s.history w.history;
      are = writes_more (take sent piece) part s.writes (wrote part ∷ []) s.are (one_write part);
      within = s.within;
      told = appends_more a.written b.written c.written (take sent piece) part s.told w.done;
      left = w.left ∙ s.left;
      later = le_trans s.later w.cause.later;
      stays = stays_more a b c s.stays w.stays;
    })

-- the write of more failed
pub sends_failed : {E : Type 0} (a b c : LinkState) (asked : Option Asked) (piece : List ℕ) (sent count : ℕ) (e : E)
    → Sends a b asked (take sent piece) → IsLinkWrite {T = Unit {0}} {E = E} b c (Err e) (take count (drop sent piece))
    → FailsToSend a c asked piece
sends_failed a b c asked piece sent count e s w =
    let tail = take count (drop sent piece) in
    let m = take_rest_part sent w.part.0 count piece in
    let told = appends_more a.written b.written c.written (take sent piece) (take w.part.0 tail) s.told w.part.1 in
    record {
      writes = s.writes ++ write_failed tail ∷ [];
      history = written_behind a.history b.history c.history (told_for asked) s.writes (write_failed tail ∷ []) s.history w.history;
      are = record { done = s.writes; sent = sent; count = count; events_are = refl; first = s.are };
      within = s.within;
      part = m.0;
      told = subst (λ (ys : List ℕ). Appends a.written c.written ys) m.1 told;
      left = w.left ∙ s.left;
      rose = rose_earlier a.faults b.faults c.faults s.later w.cause.failed;
      stays = stays_more a b c s.stays w.stays;
    }

-- ---- answers

-- no byte more was handed out
pub left_same : (a b c : Option (List ℕ)) (events tail : List Event) → given tail ≡ [] → c ≡ b → Consumes a b (given events) → Consumes a c (given (events ++ tail))
left_same a b c events tail none same x =
    let is : given (events ++ tail) ≡ given events =
    given-append events tail ∙ (ap (λ (ys : List ℕ). given events ++ ys) none ∙ append-nil (given events)) in
    subst (λ (ys : List ℕ). Consumes a c ys) (sym is) (subst (λ (o : Option (List ℕ)). Consumes a o (given events)) (sym same) x)

pub answered_same : (events tail : List Event) (turns : List Turn) (rest : List ℕ) → given tail ≡ [] → StandAnswers 0 (given events) turns rest
    → StandAnswers 0 (given (events ++ tail)) turns rest
answered_same events tail turns rest none x =
    let is : given (events ++ tail) ≡ given events =
    given-append events tail ∙ (ap (λ (ys : List ℕ). given events ++ ys) none ∙ append-nil (given events)) in
    subst (λ (ys : List ℕ). StandAnswers 0 ys turns rest) (sym is) x

-- one answer more is written
pub written_on : (events tail : List Event) (turns : List Turn) (t : Turn) → bytes_written events ≡ flat_map turn_bytes turns → bytes_written tail ≡ turn_bytes t
    → bytes_written (events ++ tail) ≡ flat_map turn_bytes (turns ++ t ∷ [])
written_on events tail turns t x y = written-append events tail ∙ (ap (λ (ys : List ℕ). ys ++ bytes_written tail) x
    ∙ (ap (λ (ys : List ℕ). flat_map turn_bytes turns ++ ys) y ∙ sym (one_more turn_bytes turns t)))

-- and stands
pub so_on : (first b c : LinkState) (turns : List Turn) (rest : List ℕ) (t : Turn) → SoFar first b turns rest → Sends b c t.asked (turn_bytes t)
    → Stands rest t.front → IsTurn (length turns + 1 == answers_max) t → t.answer.closes ≡ false
    → SoFar first c (turns ++ t ∷ []) (drop (used_of t.front) rest)
so_on first b c turns rest t s w stands turn stays = record {
  events = s.events ++ (told_for t.asked ++ w.writes);
  history = history_on first.history b.history c.history s.events (told_for t.asked ++ w.writes) s.history w.history;
  answered = answered_same s.events (told_for t.asked ++ w.writes) (turns ++ t ∷ []) (drop (used_of t.front) rest) none
      (answers_on 0 (given s.events) turns rest t s.answered stands (subst (λ (k : ℕ). IsTurn (k + 1 == answers_max) t) (sym (zero_first (length turns))) turn) stays);
  calls = calls_on first.bounds [] turns s.events w.writes rest t s.calls stands.front_is
      (subst (λ (bs : Option (ℕ × ℕ)). OffersWithin bs t.asked) s.stays.bounds w.within) w.are;
  written = written_on s.events (told_for t.asked ++ w.writes) turns t s.written (written_sent t.asked (turn_bytes t) w.writes w.are);
  unfailed = unfailed-append s.events (told_for t.asked ++ w.writes) s.unfailed (unfailed_sent t.asked (turn_bytes t) w.writes w.are);
  told = subst (λ (ys : List ℕ). Appends first.written c.written ys) (sym (one_more turn_bytes turns t))
      (appends_more first.written b.written c.written (flat_map turn_bytes turns) (turn_bytes t) s.told w.told);
  left = left_same first.left b.left c.left s.events (told_for t.asked ++ w.writes) none w.left s.left;
  later = le_trans s.later w.later;
  stays = stays_more first b c s.stays w.stays;
}
  where
    zero_first : (n : ℕ) → 0 + n ≡ n
    zero_first n = omega arith

    none : given (told_for t.asked ++ w.writes) ≡ []
    none = given_sent t.asked (turn_bytes t) w.writes w.are
