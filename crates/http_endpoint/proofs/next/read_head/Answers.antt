use Rattle.std.proofs.Common.{◌≡◌, ◌++◌, ◌∙◌, sym, ap, subst, List, ℕ, append_assoc, append-nil, true, if◌then◌else◌}
use Rattle.rate_io.specs.Events.{given}
use Rattle.http_front.specs.Front.{IsFront}
use Rattle.http_front.specs.declared.front.Front.TheVariants.{Ended, CutShort}
use Rattle.http_front.specs.Part.{Stands, EndsAt}
use Rattle.http_endpoint.specs.Steps.{Awaits}
use Rattle.http_endpoint.proofs.ReadLemmas.{drew_more, given-append, failed_later, end_later}
use Rattle.http_endpoint.proofs.RestLemmas.{head_end, waits_head}
use Rattle.http_endpoint.proofs.next.read_head.Goals as goal

pub returns-in-Whole : goal.returns-in-Whole
returns-in-Whole g c =
    let x = c.turns.invariant in
    (x.0, x.1, x.2, subst (λ (ys : List ℕ). Stands ys c.in-Whole.front) (c.unread.ensures ∙ x.2) c.in-Whole.ensures)

pub returns-in-Long : goal.returns-in-Long
returns-in-Long g c =
    let x = c.turns.invariant in
    (x.0, x.1, x.2, (subst (λ (ys : List ℕ). EndsAt ys c.in-Long.total c.in-Long.sends_body) (c.unread.ensures ∙ x.2) c.in-Long.ensures.0, c.in-Long.ensures.1))

pub returns-in-NoMemory : goal.returns-in-NoMemory
returns-in-NoMemory g c =
    let x = c.turns.invariant in
    (x.0, x.1, x.2, subst (λ (ys : List ℕ). Awaits ys c.in-NoMemory.sends_body) (c.unread.ensures ∙ x.2) c.in-NoMemory.ensures)

pub turns-preserved : goal.turns-preserved
turns-preserved g c =
    let x = c.turns.invariant in
    let y = c.in-More.ensures in (
      x.0 ++ y.0,
      drew_more c.args.inbox.now c.turns.inbox _ _ _ x.0 y.0 x.2 x.1 y.1,
      y.2 ∙ (ap (λ (xs : List ℕ). xs ++ given y.0) x.2
          ∙ (append_assoc c.args.inbox.now (given x.0) (given y.0) ∙ ap (λ (ys : List ℕ). c.args.inbox.now ++ ys) (sym (given-append x.0 y.0)))),
    )

pub returns-in-End : goal.returns-in-End
returns-in-End g c =
    let x = c.turns.invariant in
    let y = c.in-End.ensures in
    let p = c.in-Short.ensures in
    let inbox = y.2 ∙ (ap (λ (xs : List ℕ). xs ++ given y.0) x.2
    ∙ (append_assoc c.args.inbox.now (given x.0) (given y.0) ∙ ap (λ (ys : List ℕ). c.args.inbox.now ++ ys) (sym (given-append x.0 y.0)))) in
    let same : c.unread.result.now ≡ c.args.inbox.now ++ given (x.0 ++ y.0) = c.unread.ensures ∙ (sym (append-nil c.turns.inbox)
    ∙ (ap (λ (ys : List ℕ). c.turns.inbox ++ ys) (sym y.3.0) ∙ (sym y.2 ∙ inbox))) in
    let front = subst (λ (ys : List ℕ). IsFront ys (if c.in-Short.is_blank then Ended else CutShort)) same p.0 in (
      x.0 ++ y.0,
      drew_more c.args.inbox.now c.turns.inbox _ _ _ x.0 y.0 x.2 x.1 y.1,
      inbox,
      rw c.ended.ensures (head_end (c.args.inbox.now ++ given (x.0 ++ y.0)) (g.L.Link.state c.args.link.now)
          (g.L.Link.state c.fill.new.link) (x.0 ++ y.0) c.in-Short.is_blank front (end_later (g.L.Link.state c.fill.new.link) x.0 y.0 y.3.1)),
    )

pub returns-in-Failed : goal.returns-in-Failed
returns-in-Failed g c =
    let x = c.turns.invariant in
    let y = c.in-Failed.ensures in (
      x.0 ++ y.0,
      drew_more c.args.inbox.now c.turns.inbox _ _ _ x.0 y.0 x.2 x.1 y.1,
      y.2 ∙ (ap (λ (xs : List ℕ). xs ++ given y.0) x.2
          ∙ (append_assoc c.args.inbox.now (given x.0) (given y.0) ∙ ap (λ (ys : List ℕ). c.args.inbox.now ++ ys) (sym (given-append x.0 y.0)))),
      failed_later c.args.inbox.now
          (g.L.Link.state c.args.link.now) (g.L.Link.state c.turns.link) (g.L.Link.state c.fill.new.link) x.0 y.0 x.1 y.3,
    )

pub fill-requires-clause-waits : goal.fill-requires-clause-waits
fill-requires-clause-waits g c =
    let p = c.in-Short.ensures in
    waits_head c.turns.inbox c.in-Short.is_blank (subst (λ (ys : List ℕ). IsFront ys (if c.in-Short.is_blank then Ended else CutShort)) c.unread.ensures p.0)
