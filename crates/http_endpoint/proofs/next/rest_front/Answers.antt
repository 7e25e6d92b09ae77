use Rattle.std.proofs.Common.{◌≡◌, ◌<◌, ◌+◌, ◌++◌, length, ◌∙◌, sym, ap, subst, List, ℕ}
use Rattle.rate_io.specs.Events.{given}
use Rattle.http_endpoint.specs.Steps.{IsWhole, Comes, Drew, WaitsUntil}
use Rattle.http_endpoint.proofs.RestLemmas.{rest_comes, rest_dropped, rest_cut, whole_now, waits_until}
use Rattle.http_endpoint.proofs.next.rest_front.Goals as goal

pub returns-in_default : goal.returns-in_default
returns-in_default g c =
    let x = c.no_room.ensures in (
      x.0,
      subst (λ (ys : List ℕ). Drew ys (g.L.Link.state c.args.link.now) (g.L.Link.state c.no_room.new.link) x.0) c.unread-unread.ensures x.1,
      rest_dropped c.args.inbox.now c.args.inbox.now c.args.total c.args.sends_body (g.L.Link.state c.args.link.now)
          (g.L.Link.state c.no_room.new.link) x.0 c.no_room.result c.requires.ends c.requires.long (rw c.unread-unread.ensures at x.2),
    )

pub whole_front-requires : goal.whole_front-requires
whole_front-requires g c =
    let x = c.in-More.ensures in
    let kept = c.in-Some.ensures.items ∙ c.unread-unread.ensures in
    let whole : c.deref.result.now ≡ c.args.inbox.now ++ given x.0 = c.deref.ensures.value ∙ (x.2 ∙ ap (λ (ys : List ℕ). ys ++ given x.0) kept) in
    let count = subst (λ (ys : List ℕ). length ys + length (given x.0) ≡ c.args.total) kept x.3 in
    subst (λ (ys : List ℕ). IsWhole ys) (sym whole) (whole_now c.args.inbox.now (given x.0) c.args.total c.args.sends_body c.requires.ends count)

pub returns-in-More : goal.returns-in-More
returns-in-More g c =
    let x = c.in-More.ensures in
    let kept = c.in-Some.ensures.items ∙ c.unread-unread.ensures in
    let whole : c.deref.result.now ≡ c.args.inbox.now ++ given x.0 = c.deref.ensures.value ∙ (x.2 ∙ ap (λ (ys : List ℕ). ys ++ given x.0) kept) in
    let comes = subst (λ (ys : List ℕ). Comes ys c.whole_front.new.inbox c.whole_front.result) whole c.whole_front.ensures in (
      x.0,
      subst (λ (ys : List ℕ). Drew ys (g.L.Link.state c.args.link.now) (g.L.Link.state c.keep_body.new.link) x.0) (c.in-Some.ensures.items ∙ c.unread-unread.ensures) x.1,
      rest_comes (c.args.inbox.now ++ given x.0) c.whole_front.new.inbox (g.L.Link.state c.args.link.now)
          (g.L.Link.state c.keep_body.new.link) x.0 c.whole_front.result comes,
    )

pub returns-in-End : goal.returns-in-End
returns-in-End g c =
    let x = c.in-End.ensures in
    let kept = c.in-Some.ensures.items ∙ c.unread-unread.ensures in
    let less = subst (λ (ys : List ℕ). length ys + length (given x.0) < c.args.total) kept x.3.1 in
    (x.0, subst (λ (ys : List ℕ). Drew ys (g.L.Link.state c.args.link.now) (g.L.Link.state c.keep_body.new.link) x.0) (c.in-Some.ensures.items ∙ c.unread-unread.ensures) x.1, (rest_cut c.args.inbox.now (given x.0) c.args.total c.args.sends_body c.requires.ends less, x.3.0))

pub no_room-requires-clause-waits : goal.no_room-requires-clause-waits
no_room-requires-clause-waits g c =
    subst (λ (ys : List ℕ). WaitsUntil ys c.args.total) (sym c.unread-unread.ensures) (waits_until c.args.inbox.now c.args.total c.args.sends_body c.requires.ends)

pub keep_body-requires-clause-waits : goal.keep_body-requires-clause-waits
keep_body-requires-clause-waits g c =
    subst (λ (ys : List ℕ). WaitsUntil ys c.args.total) (sym (c.in-Some.ensures.items ∙ c.unread-unread.ensures))
    (waits_until c.args.inbox.now c.args.total c.args.sends_body c.requires.ends)
