use Rattle.std.proofs.Common.{◌++◌, drop, ◌∙◌, sym, ap, subst, List, ℕ, append_assoc}
use Rattle.rate_io.specs.Events.{given}
use Rattle.http_front.specs.Front.{used_of}
use Rattle.http_endpoint.specs.Steps.{Finds}
use Rattle.http_endpoint.proofs.ReadLemmas.{drew_more, given-append}
use Rattle.http_endpoint.proofs.RestLemmas.{finds_later}
use Rattle.http_endpoint.proofs.next.next_front.Goals as goal

pub take-requires : goal.take-requires
take-requires g c =
    let x = c.in-Whole.ensures in
    rw c.used.ensures (rw x.2 x.3.within)

pub returns-in-Whole : goal.returns-in-Whole
returns-in-Whole g c =
    let x = c.in-Whole.ensures in
    (x.0, x.1, (x.3, c.take.ensures ∙ (ap (λ (n : ℕ). drop n c.read_head.new.inbox) c.used.ensures ∙ ap (λ (ys : List ℕ). drop (used_of c.in-Whole.front) ys) x.2)))

pub returns-in-NoBody : goal.returns-in-NoBody
returns-in-NoBody g c =
    let x = c.in-NoBody.ensures in
    let y = c.rest_front.ensures in
    let bytes = ap (λ (ys : List ℕ). ys ++ given y.0) x.2
    ∙ (append_assoc c.args.inbox.now (given x.0) (given y.0) ∙ ap (λ (ys : List ℕ). c.args.inbox.now ++ ys) (sym (given-append x.0 y.0))) in
    let a = g.L.Link.state c.args.link.now in
    let b = g.L.Link.state c.read_head.new.link in
    let e = g.L.Link.state c.rest_front.new.link in
    let finds = subst (λ (ys : List ℕ). Finds ys c.rest_front.new.inbox b e y.0 c.rest_front.result) bytes y.2 in (
      x.0 ++ y.0,
      drew_more c.args.inbox.now c.read_head.new.inbox a b e x.0 y.0 x.2 x.1 y.1,
      finds_later (c.args.inbox.now ++ given (x.0 ++ y.0)) c.rest_front.new.inbox c.args.inbox.now a b e x.0 y.0 c.rest_front.result x.1 finds,
    )
