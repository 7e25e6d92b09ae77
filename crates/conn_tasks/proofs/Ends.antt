-- A connection has ended.
use Rattle.std.specs.List.{flat_map}
use Rattle.std.proofs.Common.{◌≡◌, ℕ, ◌+◌, ◌==◌, true, List, [], ◌∷◌, ◌++◌, length, take, drop, Option, Some, None, refl, sym, ap, ◌∙◌, subst, append-nil, inl, inr}
use Rattle.rate_io.specs.Content.{Appends}
use Rattle.rate_io.specs.Events.{Event, given, has_write_failed, write_failed}
use Rattle.rate_io.specs.Links.{LinkState}
use Rattle.http_front.specs.Front.{IsFront}
use Rattle.http_front.specs.Part.{Stands}
use Rattle.http_front.specs.declared.front.Front.TheVariants.{Ended, CutShort}
use Rattle.http_endpoint.specs.Answers.{answers_max, Asked, Turn, IsTurn, IsNext, turn_bytes, asked_in}
use Rattle.http_endpoint.specs.Order.{told_for, OffersWithin}
use Rattle.http_endpoint.specs.declared.link_end.LinkCause.{LinkCause}
use Rattle.http_endpoint.specs.declared.link_end.LinkCause.TheVariants as cause
use Rattle.http_endpoint.proofs.ReadLemmas.{unfailed-append, write_failed-append, rose_earlier, stays_more}
use Rattle.http_endpoint.proofs.LinkLemmas.{answers_are, next_of, appends_more, one_more}
use Rattle.conn_tasks.specs.Order.{bytes_written}
use Rattle.conn_tasks.specs.SoFar.{SoFar, Sends, FailsToSend, HasEnded, HasFailed}
use Rattle.conn_tasks.specs.Tasks.{HasWritten, TaskEndsBy, TaskServed}
use Rattle.conn_tasks.proofs.Orders.{given_sent, given_up_to, written_sent, written_up_to, unfailed_sent, written-append, history_on}
use Rattle.conn_tasks.proofs.SoFars.{left_same, answered_same, written_on}

has_written : (first now : LinkState) (turns : List Turn) (rest : List ℕ) (s : SoFar first now turns rest) → HasWritten first now s.events turns
has_written first now turns rest s = record { written = s.written; unfailed = s.unfailed; told = s.told }

-- behind an answer that closes
pub served_closed : (first b c : LinkState) (asked : List Asked) (turns : List Turn) (rest : List ℕ) (t : Turn) (count : ℕ)
    → SoFar first b turns rest → Sends b c t.asked (turn_bytes t) → Stands rest t.front → IsTurn (count + 1 == answers_max) t → t.answer.closes ≡ true
    → count ≡ length turns → asked ≡ asked_in (turns ++ t ∷ []) → TaskServed first asked c cause.Closed (count + 1)
served_closed first b c asked turns rest t count s w stands turn closes is asked_is = record {
  events = s.events ++ (told_for t.asked ++ w.writes);
  turns = turns;
  last = Some t;
  rest = rest;
  history = history_on first.history b.history c.history s.events (told_for t.asked ++ w.writes) s.history w.history;
  are_answers = answers_are 0 (given (s.events ++ (told_for t.asked ++ w.writes))) turns rest
      (answered_same s.events (told_for t.asked ++ w.writes) turns rest none s.answered);
  is_next = subst (λ (k : ℕ). IsNext k rest t) is (next_of count rest t stands turn);
  in_order = (s.events, w.writes, refl, inl w.are, subst (λ (bs : Option (ℕ × ℕ)). OffersWithin bs t.asked) s.stays.bounds w.within, s.calls);
  asked_is = asked_is;
  ends = (
    t,
    refl,
    closes,
    record {
      written = written_on s.events (told_for t.asked ++ w.writes) turns t s.written (written_sent t.asked (turn_bytes t) w.writes w.are);
      unfailed = unfailed-append s.events (told_for t.asked ++ w.writes) s.unfailed (unfailed_sent t.asked (turn_bytes t) w.writes w.are);
      told = subst (λ (ys : List ℕ). Appends first.written c.written ys) (sym (one_more turn_bytes turns t))
          (appends_more first.written b.written c.written (flat_map turn_bytes turns) (turn_bytes t) s.told w.told);
    },
    ap (λ n. n + 1) is,
  );
  left = left_same first.left b.left c.left s.events (told_for t.asked ++ w.writes) none w.left s.left;
  stays = stays_more first b c s.stays w.stays;
}
  where
    none : given (told_for t.asked ++ w.writes) ≡ []
    none = given_sent t.asked (turn_bytes t) w.writes w.are

-- in a write that failed
pub served_failed : (first b c : LinkState) (asked : List Asked) (turns : List Turn) (rest : List ℕ) (t : Turn) (count : ℕ)
    → SoFar first b turns rest → FailsToSend b c t.asked (turn_bytes t) → Stands rest t.front → IsTurn (count + 1 == answers_max) t
    → count ≡ length turns → asked ≡ asked_in (turns ++ t ∷ []) → TaskServed first asked c cause.WriteFault count
served_failed first b c asked turns rest t count s w stands turn is asked_is =
    let sent = take w.are.sent (turn_bytes t) in
    let piece = take w.are.count (drop w.are.sent (turn_bytes t)) in
    let tail = told_for t.asked ++ w.writes in
    let tail_is : tail ≡ told_for t.asked ++ (w.are.done ++ write_failed piece ∷ []) = ap (λ (es : List Event). told_for t.asked ++ es) w.are.events_are in
    let none : given tail ≡ [] = ap given tail_is ∙ given_up_to t.asked sent piece w.are.done w.are.first in
    let wrote_is : bytes_written tail ≡ sent = ap bytes_written tail_is ∙ written_up_to t.asked sent piece w.are.done w.are.first in
    let failed : has_write_failed tail ≡ true = ap has_write_failed tail_is
    ∙ write_failed-append (told_for t.asked) (w.are.done ++ write_failed piece ∷ []) (write_failed-append w.are.done (write_failed piece ∷ []) refl) in
    record {
      events = s.events ++ tail;
      turns = turns;
      last = Some t;
      rest = rest;
      history = history_on first.history b.history c.history s.events tail s.history w.history;
      are_answers = answers_are 0 (given (s.events ++ tail)) turns rest (answered_same s.events tail turns rest none s.answered);
      is_next = subst (λ (k : ℕ). IsNext k rest t) is (next_of count rest t stands turn);
      in_order = (s.events, w.writes, refl, inr w.are, subst (λ (bs : Option (ℕ × ℕ)). OffersWithin bs t.asked) s.stays.bounds w.within, s.calls);
      asked_is = asked_is;
      ends = (
        t,
        refl,
        record {
          sent = w.are.sent;
          written = written-append s.events tail ∙ (ap (λ (ys : List ℕ). ys ++ bytes_written tail) s.written
              ∙ ap (λ (ys : List ℕ). flat_map turn_bytes turns ++ ys) wrote_is);
          failed = write_failed-append s.events tail failed;
          rose = rose_earlier first.faults b.faults c.faults s.later w.rose;
          part = w.part;
          told = appends_more first.written b.written c.written (flat_map turn_bytes turns) (take w.part (turn_bytes t)) s.told w.told;
        },
        is,
      );
      left = left_same first.left b.left c.left s.events tail none w.left s.left;
      stays = stays_more first b c s.stays w.stays;
    }

-- no answer is begun
none_begun : (first now : LinkState) (asked : List Asked) (turns : List Turn) (rest : List ℕ) (count : ℕ) (why : LinkCause)
    → (s : SoFar first now turns rest) → asked ≡ asked_in turns → TaskEndsBy why first now s.events turns None rest count
    → TaskServed first asked now why count
none_begun first now asked turns rest count why s asked_is ends = record {
  events = s.events;
  turns = turns;
  last = None;
  rest = rest;
  history = s.history;
  are_answers = answers_are 0 (given s.events) turns rest s.answered;
  is_next = tt;
  in_order = s.calls;
  asked_is = asked_is ∙ ap asked_in (sym (append-nil turns));
  ends = ends;
  left = s.left;
  stays = s.stays;
}

-- between two requests
pub served_ended : (first now : LinkState) (asked : List Asked) (turns : List Turn) (rest : List ℕ) (count : ℕ)
    → HasEnded first now turns rest → IsFront rest Ended → count ≡ length turns → asked ≡ asked_in turns → TaskServed first asked now cause.Ended count
served_ended first now asked turns rest count e front is asked_is =
    none_begun first now asked turns rest count cause.Ended e.so_far asked_is (refl, front, e.end.ended, e.end.empty, has_written first now turns rest e.so_far, is)

-- inside a request
pub served_cut : (first now : LinkState) (asked : List Asked) (turns : List Turn) (rest : List ℕ) (count : ℕ)
    → HasEnded first now turns rest → IsFront rest CutShort → count ≡ length turns → asked ≡ asked_in turns → TaskServed first asked now cause.CutShort count
served_cut first now asked turns rest count e front is asked_is =
    none_begun first now asked turns rest count cause.CutShort e.so_far asked_is (refl, front, e.end.ended, e.end.empty, has_written first now turns rest e.so_far, is)

-- in a read that failed
pub served_read_fault : (first now : LinkState) (asked : List Asked) (turns : List Turn) (rest : List ℕ) (count : ℕ)
    → HasFailed first now turns rest → count ≡ length turns → asked ≡ asked_in turns → TaskServed first asked now cause.ReadFault count
served_read_fault first now asked turns rest count e is asked_is =
    none_begun first now asked turns rest count cause.ReadFault e.so_far asked_is (refl, e.fault.failed, e.fault.rose, has_written first now turns rest e.so_far, is)
