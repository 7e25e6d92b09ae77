-- A task goes on.
use Rattle.std.specs.Prelude.{option_to_list}
use Rattle.std.proofs.Common.{◌≡◌, ℕ, ◌+◌, ◌==◌, ◌≤◌, false, List, [], ◌∷◌, ◌++◌, length, take, drop, Option, refl, sym, ap, ◌∙◌, subst, append-nil, arith}
use Rattle.rate_io.specs.Links.{LinkState}
use Rattle.http_front.specs.Front.{used_of}
use Rattle.http_front.specs.Part.{Stands}
use Rattle.http_front.specs.declared.front.Front.{Front}
use Rattle.http_endpoint.specs.Answers.{answers_max, Asked, Turn, turn_bytes, asked_in}
use Rattle.http_endpoint.specs.Printing.{printed_closes}
use Rattle.http_endpoint.specs.Steps.{Tells}
use Rattle.http_endpoint.proofs.ReadLemmas.{rose_earlier}
use Rattle.http_endpoint.proofs.LinkLemmas.{one_more}
use Rattle.conn_tasks.specs.Polls.{PollState}
use Rattle.conn_tasks.specs.Reading.{Holds}
use Rattle.conn_tasks.specs.SoFar.{SoFar, Sends}
use Rattle.conn_tasks.specs.State.{TaskState}
use Rattle.conn_tasks.specs.Tasks.{IsOn, Goes, IsReading, IsWriting, Steps}
use Rattle.http_endpoint.specs.declared.turn.Printed.TheVariants.{Text}
use Rattle.conn_tasks.specs.declared.reading.Awaited.TheVariants.{Head}
use Rattle.conn_tasks.specs.declared.conn.Mode.{Mode}
use Rattle.conn_tasks.specs.declared.conn.Mode.TheVariants.{Reading, Writing}
use Rattle.conn_tasks.specs.declared.conn.Step.{Step}
use Rattle.conn_tasks.specs.declared.conn.Step.TheVariants as step
use Rattle.conn_tasks.proofs.SoFars.{sends_first, so_first}
use Rattle.conn_tasks.proofs.Turns.{Printing}

-- the checks of one answer more
asked_more : (turns : List Turn) (t : Turn) → asked_in (turns ++ t ∷ []) ≡ asked_in turns ++ option_to_list t.asked
asked_more turns t = one_more (λ (x : Turn). option_to_list x.asked) turns t

pub on_reading : (first : LinkState) (asked : List Asked) (s : TaskState) → s.mode ≡ Reading → IsReading first asked s → IsOn first asked s
on_reading first asked s is r = subst (λ (m : Mode). Goes first asked s m) (sym is) r

pub on_writing : (first : LinkState) (asked : List Asked) (s : TaskState) → s.mode ≡ Writing → IsWriting first asked s → IsOn first asked s
on_writing first asked s is w = subst (λ (m : Mode). Goes first asked s m) (sym is) w

-- an answer is printed
pub starts_writing : (first mid : LinkState) (asked : List Asked) (s : TaskState) (turns : List Turn) (rest : List ℕ) (front : Front) (one : Option Asked)
    → SoFar first mid turns rest → Tells mid s.link.link one → Stands rest front → Printing (s.answers + 1 == answers_max) front one s.out s.printed
    → s.sent ≡ 0 → s.closes ≡ printed_closes s.printed
    → (printed_closes s.printed ≡ false → Holds (drop (used_of front) rest) s.awaited s.kept)
    → s.answers ≡ length turns → asked ≡ asked_in turns → IsWriting first (asked ++ option_to_list one) s
starts_writing first mid asked s turns rest front one so_far tells stands p none closes behind count asked_is = record {
  turns = turns;
  rest = rest;
  t = p.t;
  mid = mid;
  so_far = so_far;
  sends = subst (λ (ys : List ℕ). Sends mid s.link.link p.t.asked ys) nothing
      (subst (λ (o : Option Asked). Sends mid s.link.link o []) (sym p.asked_is) (sends_first mid s.link.link one tells));
  stands = subst (λ (f : Front). Stands rest f) (sym p.front_is) stands;
  turn = p.turn;
  prints = p.prints;
  within = omega (arith, none);
  closes = closes ∙ p.prints.closes;
  behind = λ still. subst (λ (f : Front). Holds (drop (used_of f) rest) s.awaited s.kept) (sym p.front_is) (behind (p.prints.closes ∙ still));
  count = count;
  asked_is = ap (λ xs. xs ++ option_to_list one) asked_is ∙ (ap (λ o. asked_in turns ++ option_to_list o) (sym p.asked_is) ∙ sym (asked_more turns p.t));
}
  where
    nothing : [] ≡ take s.sent (turn_bytes p.t)
    nothing = sym (ap (λ (n : ℕ). take n (turn_bytes p.t)) none)

-- where no check was made
pub none_asked : (first : LinkState) (asked : List Asked) (s : TaskState) → IsWriting first (asked ++ []) s → IsWriting first asked s
none_asked first asked s w = subst (λ (qs : List Asked). IsWriting first qs s) (append-nil asked) w

-- a step that began earlier
pub steps_earlier : (first : LinkState) (asked : List Asked) (old mid : ℕ) (new : TaskState) (came : Step) → old ≤ mid
    → Steps first asked mid new came → Steps first asked old new came
steps_earlier first asked old mid new step.On later x = x
steps_earlier first asked old mid new step.Wait later x = (x.0, rose_earlier old mid new.link.waits later x.1)
steps_earlier first asked old mid new (step.Check request now) later x = x
steps_earlier first asked old mid new (step.Stats method) later x = x
steps_earlier first asked old mid new (step.End link_end) later x = x

-- a link of which nothing was read or written yet
abbrev pub unused : PollState → TaskState
unused l = record {
  link = l;
  mode = Reading;
  answers = 0;
  closes = false;
  awaited = Head;
  kept = [];
  printed = Text false;
  out = [];
  sent = 0;
}

pub starts : (l : PollState) → IsOn l.link [] (unused l)
starts l = record { turns = []; rest = []; so_far = so_first l.link; holds = refl; count = refl; last = refl; asked_is = refl }
