use Rattle.std.proofs.Common.{◌≡◌, ◌<◌, ◌==◌, true, false, ◌++◌, List, ℕ, [], ◌∷◌, length, take, drop, replicate, sym, refl, ◌∙◌, subst, arith, rules, append-nil}
use Rattle.std.proofs.lemmas.Bool.Decides.{nat_tests}
use Rattle.std.proofs.lemmas.List.{take-append-le}
use Rattle.rate_io.specs.Events.{given, gave, read_failed, ended}
use Rattle.http_endpoint.proofs.ReadLemmas.{drew_failed, drew_end, drew_bytes, given_one}
use Rattle.conn_tasks.specs.Reading.{Holds}
use Rattle.conn_tasks.proofs.reading.fill.Goals as goal

pub returns-in-Ready-Err-clause-drew : goal.returns-in-Ready-Err-clause-drew
returns-in-Ready-Err-clause-drew g c =
    let a = c.args.link.now.link in
    let b = c.poll_read.new.self.link in
    let w = rw c.in-Ready-Err.field-0-is at c.in-Ready-Err.ensures in (
      read_failed ∷ [],
      λ bytes waits. (drew_failed bytes a b waits c.in-Ready-Err.field-0-0 c.poll_read.new.buf w.0).0,
      (refl, record { failed = refl; rose = w.0.cause.failed }),
      λ before h. subst (λ (ys : List ℕ). Holds ys c.args.awaited.now c.args.inbox.now) (sym (append-nil before)) h,
    )

pub returns-then-count-eq0-clause-drew : goal.returns-then-count-eq0-clause-drew
returns-then-count-eq0-clause-drew g c =
    let a = c.args.link.now.link in
    let b = c.poll_read.new.self.link in
    let w = rw c.in-Ready-Ok.field-0-is at c.in-Ready-Ok.ensures in
    let zeroes : c.in-Ready-Ok.count ≡ 0 = c.if-count-eq0.true in
    let none : (c.in-Ready-Ok.count == 0) ≡ true = grind (arith, nat_tests) in
    let space : 0 < length c.poll_read.new.buf = search rules in (
      ended ∷ [],
      λ bytes waits. (drew_end bytes a b waits c.in-Ready-Ok.count c.poll_read.new.buf w.0 none space).0,
      (refl, record { ended = refl; empty = w.0.left.1 zeroes space }),
      λ before h. subst (λ (ys : List ℕ). Holds ys c.args.awaited.now c.args.inbox.now) (sym (append-nil before)) h,
    )

pub returns-else-count-eq0-clause-drew : goal.returns-else-count-eq0-clause-drew
returns-else-count-eq0-clause-drew g c =
    let a = c.args.link.now.link in
    let b = c.poll_read.new.self.link in
    let w = rw c.in-Ready-Ok.field-0-is at c.in-Ready-Ok.ensures in
    let bytes = take c.in-Ready-Ok.count c.poll_read.new.buf in
    let some : (c.in-Ready-Ok.count == 0) ≡ false = grind (arith, nat_tests) in
    let one : given (gave bytes ∷ []) ≡ bytes = given_one bytes in
    let slice = take-append-le c.in-Ready-Ok.count c.poll_read.new.buf (drop c.min-most.result (replicate 4096 0)) w.0.bound.0 in
    let more : 0 < length bytes = search rules in (
      gave bytes ∷ [],
      λ before waits. drew_bytes before a b waits c.in-Ready-Ok.count c.poll_read.new.buf w.0 some,
      subst (λ (ys : List ℕ). 0 < length ys) (sym one) more,
      λ before h. subst (λ (ys : List ℕ). Holds (before ++ ys) c.keep.new.awaited c.keep.new.inbox) (slice ∙ sym one) (c.keep.ensures.holds before h),
    )
