-- What is kept of a request that is still coming.
use Rattle.std.proofs.Common.{◌≡◌, ℕ, ◌+◌, ◌<◌, ◌≤◌, Bool, true, false, nat_le, List, [], ◌++◌, length, sym, ap, ◌∙◌, refl, subst, append-nil, append_assoc, length-append, arith, if◌then◌else◌}
use Rattle.std.proofs.lemmas.Bool.Decides.{nat_tests}
use Rattle.http_front.specs.Head.{head_max}
use Rattle.http_front.specs.Front.{IsFront, sends, used_of}
use Rattle.http_front.specs.Part.{Stands, EndsAt}
use Rattle.http_front.specs.declared.front.Front.{Front}
use Rattle.http_front.specs.declared.front.Front.TheVariants.{Ended, CutShort}
use Rattle.http_endpoint.specs.Steps.{Awaits}
use Rattle.http_endpoint.proofs.RestLemmas.{long_wants}
use Rattle.conn_tasks.specs.Reading.{IsAwaited, Holds, Looks}
use Rattle.conn_tasks.specs.declared.reading.Awaited.{Awaited}
use Rattle.conn_tasks.specs.declared.reading.Awaited.TheVariants.{Head, Body, Dropped}
use Rattle.conn_tasks.specs.declared.reading.Look.{Look}
use Rattle.conn_tasks.specs.declared.reading.Look.TheVariants as look
use Rattle.rate_io.specs.Links.{LinkState}
use Rattle.http_endpoint.specs.Answers.{Turn}
use Rattle.conn_tasks.specs.Polls.{PollState}
use Rattle.conn_tasks.specs.SoFar.{HasEnded, Nexts}
use Rattle.conn_tasks.specs.declared.front.NextPoll.TheVariants as next

-- more of it came
pub awaited_more : (bytes more : List ℕ) (total : ℕ) (sent : Bool) → IsAwaited bytes total sent → length (bytes ++ more) ≤ total → IsAwaited (bytes ++ more) total sent
awaited_more bytes more total sent x room = record {
  within = room;
  until = λ rest short. subst (λ (ys : List ℕ). IsFront ys CutShort) (sym (append_assoc bytes more rest))
      (x.until (more ++ rest) (subst (λ (ys : List ℕ). length ys < total) (append_assoc bytes more rest) short));
  later = λ rest enough. subst (λ (ys : List ℕ). (front : Front) × Stands ys front × (used_of front ≡ total) × (sent ≡ sends front)) (sym (append_assoc bytes more rest))
      (x.later (more ++ rest) (subst (λ (ys : List ℕ). total ≤ length ys) (append_assoc bytes more rest) enough));
}

-- its head came
pub awaited_first : (bytes : List ℕ) (total : ℕ) (sent : Bool) → EndsAt bytes total sent → IsAwaited bytes total sent
awaited_first bytes total sent x = record { within = omega (arith, x.short); until = x.until; later = x.later }

-- an end here cuts it short
pub awaited_cut : (bytes : List ℕ) (total : ℕ) (sent : Bool) → IsAwaited bytes total sent → length bytes < total → IsFront bytes CutShort
awaited_cut bytes total sent x short =
    subst (λ (ys : List ℕ). IsFront ys CutShort) (append-nil bytes) (x.until [] (subst (λ (ys : List ℕ). length ys < total) (sym (append-nil bytes)) short))

-- all of it came
pub awaited_all : (bytes : List ℕ) (total : ℕ) (sent : Bool) → IsAwaited bytes total sent → head_max < total → total ≤ length bytes → Awaits bytes sent
awaited_all bytes total sent x long enough =
    let f = x.later [] (subst (λ (ys : List ℕ). total ≤ length ys) (sym (append-nil bytes)) enough) in
    (f.0, subst (λ (ys : List ℕ). Stands ys f.0) (append-nil bytes) f.1, f.3, long_wants f.0 f.1.settled (omega (arith, f.2, long)))

pub first_look : (bytes : List ℕ) (total : ℕ) (sent : Bool) → EndsAt bytes total sent → Looks bytes (Body total sent) bytes (look.More false)
first_look bytes total sent x = ((refl, awaited_first bytes total sent x), awaited_cut bytes total sent (awaited_first bytes total sent x) x.short)

-- what is found at what is kept is found at the bytes
pub looks_kept : (bytes kept : List ℕ) (awaited : Awaited) (left : List ℕ) (found : Look) → bytes ≡ kept → Looks kept awaited left found → Looks bytes awaited left found
looks_kept bytes kept awaited left found same x = subst (λ (ys : List ℕ). Looks ys awaited left found) (sym same) x

pub body_short : (bytes kept : List ℕ) (total : ℕ) (sent : Bool) → Holds bytes (Body total sent) kept → length kept < total → Looks bytes (Body total sent) kept (look.More false)
body_short bytes kept total sent h short = (h, awaited_cut bytes total sent h.1 (subst (λ (ys : List ℕ). length ys < total) (sym h.0) short))

pub dropped_short : (bytes kept : List ℕ) (have total : ℕ) (sent : Bool) → Holds bytes (Dropped have total sent) kept → have < total
    → Looks bytes (Dropped have total sent) kept (look.More false)
dropped_short bytes kept have total sent h short = (h, awaited_cut bytes total sent h.1 (subst (λ (n : ℕ). n < total) (sym h.0) short))

pub dropped_all : (bytes kept : List ℕ) (have total : ℕ) (sent : Bool) → Holds bytes (Dropped have total sent) kept → total ≤ have → Awaits bytes sent
dropped_all bytes kept have total sent h enough = awaited_all bytes total sent h.1 h.2 (subst (λ (n : ℕ). total ≤ n) (sym h.0) enough)

-- ---- more is kept

pub head_kept : (before kept bytes new : List ℕ) → Holds before Head kept → new ≡ kept ++ bytes → Holds (before ++ bytes) Head new
head_kept before kept bytes new h is = ap (λ ys. ys ++ bytes) h ∙ sym is

pub body_kept : (before kept bytes new : List ℕ) (total : ℕ) (sent : Bool) → Holds before (Body total sent) kept → length kept + length bytes ≤ total
    → new ≡ kept ++ bytes → Holds (before ++ bytes) (Body total sent) new
body_kept before kept bytes new total sent h room is = (
  ap (λ ys. ys ++ bytes) h.0 ∙ sym is,
  awaited_more before bytes total sent h.1 (omega (arith, length-append before bytes, ap length h.0)),
)

pub body_dropped : (before kept bytes new : List ℕ) (total : ℕ) (sent : Bool) → Holds before (Body total sent) kept → length kept + length bytes ≤ total
    → head_max < total → Holds (before ++ bytes) (Dropped (length kept + length bytes) total sent) new
body_dropped before kept bytes new total sent h room long = (
  length-append before bytes ∙ ap (λ n. n + length bytes) (ap length h.0),
  awaited_more before bytes total sent h.1 (omega (arith, length-append before bytes, ap length h.0)),
  long,
)

-- a request for which there was no room has more bytes than a head may have
pub long_body : (kept bytes : List ℕ) (total : ℕ) → length kept + length bytes ≤ total → (was_kept : Bool) → was_kept ≡ false
    → (length kept + length bytes ≤ head_max → was_kept ≡ true) → head_max < total
long_body kept bytes total room true lost kept_all = absurd (cc)
long_body kept bytes total room false lost kept_all = by (nat_le (length kept + length bytes) head_max) refl
  where
    by : (t : Bool) → nat_le (length kept + length bytes) head_max ≡ t → head_max < total
    by true few = absurd (let same = kept_all (grind (arith, nat_tests)) in cc)
    by false few = let many : head_max < length kept + length bytes = grind (arith, nat_tests) in omega (arith, many, room)

pub dropped_more : (before kept bytes : List ℕ) (have total : ℕ) (sent : Bool) → Holds before (Dropped have total sent) kept → have + length bytes ≤ total
    → Holds (before ++ bytes) (Dropped (have + length bytes) total sent) kept
dropped_more before kept bytes have total sent h room = (
  length-append before bytes ∙ ap (λ n. n + length bytes) h.0,
  awaited_more before bytes total sent h.1 (omega (arith, length-append before bytes, h.0)),
  h.2,
)

-- the input ends, where a request was begun or not
pub nexts_end : (first : LinkState) (turns : List Turn) (rest : List ℕ) (old new : PollState) (awaited : Awaited) (kept : List ℕ) (is_blank : Bool)
    → HasEnded first new.link turns rest → IsFront rest (if is_blank then Ended else CutShort)
    → Nexts first turns old new awaited kept (if is_blank then next.Ended else next.CutShort)
nexts_end first turns rest old new awaited kept true e at = (rest, e, at)
nexts_end first turns rest old new awaited kept false e at = (rest, e, at)

-- behind a front, a head is awaited
pub holds_head : (bytes : List ℕ) (awaited : Awaited) (kept : List ℕ) → bytes ≡ kept → awaited ≡ Head → Holds bytes awaited kept
holds_head bytes awaited kept same is = subst (λ (a : Awaited). Holds bytes a kept) (sym is) same
