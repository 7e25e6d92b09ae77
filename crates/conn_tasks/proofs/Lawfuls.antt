-- What may be written next.
use Rattle.std.specs.List.{flat_map}
use Rattle.std.proofs.Common.{◌≡◌, ℕ, ◌+◌, List, [], ◌∷◌, ◌++◌, take, drop, sym, ap, ◌∙◌, subst, append-nil, append_assoc}
use Rattle.std.proofs.lemmas.List.{take-append-drop, drop-drop}
use Rattle.rate_io.specs.Events.{Event, wrote, given}
use Rattle.rate_io.specs.Links.{LinkState}
use Rattle.rate_io.specs.Listeners.{IsNewLink}
use Rattle.http_endpoint.specs.Answers.{Asked, IsNext, AreAnswers, turn_bytes}
use Rattle.http_endpoint.specs.Order.{told_for}
use Rattle.http_endpoint.proofs.ReadLemmas.{given-append}
use Rattle.http_endpoint.proofs.LinkLemmas.{answers_are, next_of, one_more}
use Rattle.conn_tasks.specs.Lawful.{IsLawfulWrite, MayWrite}
use Rattle.conn_tasks.specs.Order.{bytes_written}
use Rattle.conn_tasks.specs.State.{TaskState}
use Rattle.conn_tasks.specs.Tasks.{IsGoing, IsWriting, Goes}
use Rattle.conn_tasks.specs.declared.conn.Mode.{Mode}
use Rattle.conn_tasks.specs.declared.conn.Mode.TheVariants.{Writing}
use Rattle.conn_tasks.proofs.Orders.{given_sent, written_sent, written-append, history_on}
use Rattle.conn_tasks.proofs.SoFars.{answered_same}

-- it stands in an answer
pub stands_writing : (s : TaskState) → IsGoing s → s.mode ≡ Writing
    → (first : LinkState) × (asked : List Asked) × IsNewLink first × IsWriting first asked s
stands_writing s g is = (g.0, g.1, g.2, subst (λ (m : Mode). Goes g.0 g.1 s m) is g.3)

-- the rest of that answer may be written
pub rest_lawful : (first : LinkState) (asked : List Asked) (s : TaskState) → IsNewLink first → (w : IsWriting first asked s)
    → IsLawfulWrite s.link.link.history asked (drop s.sent (turn_bytes w.t))
rest_lawful first asked s new w = subst (λ (h : List Event). IsLawfulWrite h asked (drop s.sent (turn_bytes w.t))) (sym whole) (record {
  turns = w.turns;
  last = w.t;
  rest = w.rest;
  are_answers = answers_are 0 (given (w.so_far.events ++ tail)) w.turns w.rest
      (answered_same w.so_far.events tail w.turns w.rest (given_sent w.t.asked sent w.sends.writes w.sends.are) w.so_far.answered);
  is_next = subst (λ (k : ℕ). IsNext k w.rest w.t) w.count (next_of s.answers w.rest w.t w.stands w.turn);
  asked_is = w.asked_is;
  later = [];
  is_first = one_more turn_bytes w.turns w.t ∙ (ap (λ (ys : List ℕ). before ++ ys) (sym (take-append-drop s.sent (turn_bytes w.t)))
      ∙ (sym (append_assoc before sent left) ∙ (ap (λ (ys : List ℕ). ys ++ left) (sym written) ∙ ap (λ (ys : List ℕ). bytes_written (w.so_far.events ++ tail) ++ ys) (sym (append-nil left)))));
})
  where
    tail : List Event
    tail = told_for w.t.asked ++ w.sends.writes

    sent : List ℕ
    sent = take s.sent (turn_bytes w.t)

    left : List ℕ
    left = drop s.sent (turn_bytes w.t)

    before : List ℕ
    before = flat_map turn_bytes w.turns

    whole : s.link.link.history ≡ w.so_far.events ++ tail
    whole = history_on first.history w.mid.history s.link.link.history w.so_far.events tail w.so_far.history w.sends.history
        ∙ ap (λ (h : List Event). h ++ (w.so_far.events ++ tail)) new.history

    written : bytes_written (w.so_far.events ++ tail) ≡ before ++ sent
    written = written-append w.so_far.events tail ∙ (ap (λ (ys : List ℕ). ys ++ bytes_written tail) w.so_far.written
        ∙ ap (λ (ys : List ℕ). before ++ ys) (written_sent w.t.asked sent w.sends.writes w.sends.are))

-- what may be written behind a piece may be written once that is
pub may_behind : (history : List Event) (xs ys : List ℕ) → MayWrite history (xs ++ ys) → MayWrite (history ++ wrote xs ∷ []) ys
may_behind history xs ys m = (
  m.0,
  record {
    turns = m.1.turns;
    last = m.1.last;
    rest = m.1.rest;
    are_answers = subst (λ (bytes : List ℕ). AreAnswers 0 bytes m.1.turns m.1.rest)
        (sym (given-append history (wrote xs ∷ []) ∙ append-nil (given history))) m.1.are_answers;
    is_next = m.1.is_next;
    asked_is = m.1.asked_is;
    later = m.1.later;
    is_first = m.1.is_first ∙ (ap (λ (zs : List ℕ). bytes_written history ++ zs) (append_assoc xs ys m.1.later)
        ∙ (sym (append_assoc (bytes_written history) xs (ys ++ m.1.later)) ∙ ap (λ (zs : List ℕ). zs ++ (ys ++ m.1.later)) (sym written)));
  },
)
  where
    written : bytes_written (history ++ wrote xs ∷ []) ≡ bytes_written history ++ xs
    written = written-append history (wrote xs ∷ []) ∙ ap (λ (zs : List ℕ). bytes_written history ++ zs) (append-nil xs)

-- more of a piece was written
pub may_more : (history after : List Event) (piece : List ℕ) (sent count : ℕ) → MayWrite history (drop sent piece)
    → after ≡ history ++ wrote (take count (drop sent piece)) ∷ [] → MayWrite after (drop (sent + count) piece)
may_more history after piece sent count m is =
    let xs = take count (drop sent piece) in
    let parts : drop sent piece ≡ xs ++ drop (sent + count) piece =
    sym (take-append-drop count (drop sent piece)) ∙ ap (λ (ys : List ℕ). xs ++ ys) (drop-drop count sent piece) in
    subst (λ (h : List Event). MayWrite h (drop (sent + count) piece)) (sym is)
    (may_behind history xs (drop (sent + count) piece) (subst (λ (ys : List ℕ). MayWrite history ys) parts m))
