use Rattle.std.proofs.Common.{◌≡◌, ◌<◌, ◌≤◌, ◌+◌, ◌==◌, false, ◌++◌, [], ◌∷◌, length, take, ap, refl, arith, length-append}
use Rattle.std.proofs.lemmas.Bool.Decides.{nat_tests}
use Rattle.std.proofs.lemmas.List.{length-take}
use Rattle.rate_io.specs.Events.{given, gave, read_failed, ended}
use Rattle.http_endpoint.proofs.ReadLemmas.{drew_more, drew_failed, drew_end, drew_bytes, failed_later, end_later, counted_by, given_one}
use Rattle.http_endpoint.proofs.body.drop_body.Goals as goal

pub returns-in_default : goal.returns-in_default
returns-in_default g c =
    let x = c.turns.invariant in
    let less : length c.args.unread.now + length (given x.0) < c.args.total = omega arith in
    let waits = c.requires.waits (given x.0) (omega (arith, less, length-append c.args.unread.now (given x.0))) in
    let a = g.L.Link.state c.args.link.now in
    let b = g.L.Link.state c.turns.link in
    let d = g.L.Link.state c.read.new.self in
    let old = c.args.unread.now in
    let mid = c.args.unread.now ++ given x.0 in
    let y = drew_failed mid b d waits _ c.read.new.buf c.in_default.ensures in (
      x.0 ++ read_failed ∷ [],
      drew_more old mid a b d x.0 (read_failed ∷ []) refl x.1 y.0,
      failed_later old a b d x.0 (read_failed ∷ []) x.1 y.1,
    )

pub returns-then-count-eq0 : goal.returns-then-count-eq0
returns-then-count-eq0 g c =
    let x = c.turns.invariant in
    let less : length c.args.unread.now + length (given x.0) < c.args.total = omega arith in
    let waits = c.requires.waits (given x.0) (omega (arith, less, length-append c.args.unread.now (given x.0))) in
    let a = g.L.Link.state c.args.link.now in
    let b = g.L.Link.state c.turns.link in
    let d = g.L.Link.state c.read.new.self in
    let old = c.args.unread.now in
    let mid = c.args.unread.now ++ given x.0 in
    let room : 0 < length c.read.new.buf = omega (arith, length-take c.min-most.result c.turns.buf) in
    let y = drew_end mid b d waits c.in-Ok.count c.read.new.buf c.in-Ok.ensures (rw c.if-count-eq0.true refl) room in (
      x.0 ++ ended ∷ [],
      drew_more old mid a b d x.0 (ended ∷ []) refl x.1 y.0,
      (end_later d x.0 (ended ∷ []) y.1, (let n = counted_by (length old) x.0 (ended ∷ []) in omega arith)),
    )

pub turns-preserved : goal.turns-preserved
turns-preserved g c =
    let x = c.turns.invariant in
    let less : length c.args.unread.now + length (given x.0) < c.args.total = omega arith in
    let waits = c.requires.waits (given x.0) (omega (arith, less, length-append c.args.unread.now (given x.0))) in
    let a = g.L.Link.state c.args.link.now in
    let b = g.L.Link.state c.turns.link in
    let d = g.L.Link.state c.read.new.self in
    let old = c.args.unread.now in
    let mid = c.args.unread.now ++ given x.0 in
    let some : (c.in-Ok.count == 0) ≡ false = grind (arith, nat_tests) in
    let bytes = take c.in-Ok.count c.read.new.buf in
    let y = drew_bytes mid b d waits c.in-Ok.count c.read.new.buf c.in-Ok.ensures some in
    let size = length-take c.min-most.result c.turns.buf in
    let fits : c.in-Ok.count ≤ length c.read.new.buf = c.in-Ok.ensures.bound.0 in
    let count = c.in-Ok.ensures.bound.1 in
    let n = counted_by (length old) x.0 (gave bytes ∷ []) in
    let one = ap length (given_one bytes) in (
      x.0 ++ gave bytes ∷ [],
      drew_more old mid a b d x.0 (gave bytes ∷ []) refl x.1 y,
      omega (arith, size, fits, count, n, one),
    )
