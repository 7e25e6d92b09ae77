use Rattle.std.proofs.Common.{◌≡◌, ◌<◌, ◌≤◌, ◌==◌, true, false, ◌++◌, List, ℕ, [], ◌∷◌, length, take, drop, ◌∙◌, sym, ap, refl, subst, arith, append-nil, length-append}
use Rattle.std.proofs.lemmas.Bool.Decides.{nat_tests}
use Rattle.std.proofs.lemmas.List.{length-take, take-append-le}
use Rattle.std.specs.Result.{is_ok}
use Rattle.rate_io.specs.Events.{given, gave, read_failed, ended}
use Rattle.http_endpoint.specs.Order.{Waits}
use Rattle.http_endpoint.proofs.ReadLemmas.{drew_more, drew_failed, drew_end, drew_bytes, failed_later, end_later, grown_by, given_one}
use Rattle.http_endpoint.proofs.body.keep_body.Goals as goal

pub returns-in_default : goal.returns-in_default
returns-in_default g c =
    let x = c.turns.invariant.taken in
    let less : length c.turns.kept.items < c.args.total = omega arith in
    let waits = subst (λ (ys : List ℕ). Waits ys) (sym x.2) (c.requires.waits (given x.0) (subst (λ (ys : List ℕ). length ys < c.args.total) x.2 less)) in
    let a = g.L.Link.state c.args.link.now in
    let b = g.L.Link.state c.turns.link in
    let d = g.L.Link.state c.read.new.self in
    let old = c.args.kept.now.items in
    let mid = c.turns.kept.items in
    let y = drew_failed mid b d waits _ c.read.new.buf c.in_default.ensures in (
      x.0 ++ read_failed ∷ [],
      drew_more old mid a b d x.0 (read_failed ∷ []) x.2 x.1 y.0,
      grown_by mid old mid x.0 (read_failed ∷ []) x.2 (sym (append-nil mid)),
      failed_later old a b d x.0 (read_failed ∷ []) x.1 y.1,
    )

pub returns-then-count-eq0 : goal.returns-then-count-eq0
returns-then-count-eq0 g c =
    let x = c.turns.invariant.taken in
    let less : length c.turns.kept.items < c.args.total = omega arith in
    let waits = subst (λ (ys : List ℕ). Waits ys) (sym x.2) (c.requires.waits (given x.0) (subst (λ (ys : List ℕ). length ys < c.args.total) x.2 less)) in
    let a = g.L.Link.state c.args.link.now in
    let b = g.L.Link.state c.turns.link in
    let d = g.L.Link.state c.read.new.self in
    let old = c.args.kept.now.items in
    let mid = c.turns.kept.items in
    let room : 0 < length c.read.new.buf = omega (arith, length-take c.min-most.result c.turns.buf) in
    let y = drew_end mid b d waits c.in-Ok.count c.read.new.buf c.in-Ok.ensures (rw c.if-count-eq0.true refl) room in
    let grew = grown_by mid old mid x.0 (ended ∷ []) x.2 (sym (append-nil mid)) in (
      x.0 ++ ended ∷ [],
      drew_more old mid a b d x.0 (ended ∷ []) x.2 x.1 y.0,
      grew,
      (end_later d x.0 (ended ∷ []) y.1, (let n = ap length grew ∙ length-append old (given (x.0 ++ ended ∷ [])) in omega arith)),
    )

pub turns-preserved : goal.turns-preserved
turns-preserved g c =
    let x = c.turns.invariant.taken in
    let less : length c.turns.kept.items < c.args.total = omega arith in
    let waits = subst (λ (ys : List ℕ). Waits ys) (sym x.2) (c.requires.waits (given x.0) (subst (λ (ys : List ℕ). length ys < c.args.total) x.2 less)) in
    let a = g.L.Link.state c.args.link.now in
    let b = g.L.Link.state c.turns.link in
    let d = g.L.Link.state c.read.new.self in
    let old = c.args.kept.now.items in
    let mid = c.turns.kept.items in
    let some : (c.in-Ok.count == 0) ≡ false = grind (arith, nat_tests) in
    let bytes = take c.in-Ok.count c.read.new.buf in
    let y = drew_bytes mid b d waits c.in-Ok.count c.read.new.buf c.in-Ok.ensures some in
    let size = length-take c.min-most.result c.turns.buf in
    let fits : c.in-Ok.count ≤ length c.read.new.buf = c.in-Ok.ensures.bound.0 in
    let count = c.in-Ok.ensures.bound.1 in
    let slice = take-append-le c.in-Ok.count c.read.new.buf (drop c.min-most.result c.turns.buf) fits in
    let sized = ap length slice in
    let ok : is_ok c.extend_from_slice.result ≡ true = c.extend_from_slice.ensures.succeeds (omega (arith, size, fits, count, sized, c.turns.invariant.room)) in
    let kept : c.extend_from_slice.new.self.items ≡ mid ++ bytes = (rw ok at c.extend_from_slice.ensures.items) ∙ ap (λ (ys : List ℕ). mid ++ ys) slice in
    record {
      taken = (
        x.0 ++ gave bytes ∷ [],
        drew_more old mid a b d x.0 (gave bytes ∷ []) x.2 x.1 y,
        grown_by c.extend_from_slice.new.self.items old mid x.0 (gave bytes ∷ []) x.2 (kept ∙ ap (λ (ys : List ℕ). mid ++ ys) (sym (given_one bytes))),
      );
      within = (let n = ap length kept ∙ length-append mid bytes in omega (arith, size, fits, count, n));
      room = omega (arith, c.extend_from_slice.ensures.capacity);
    }
