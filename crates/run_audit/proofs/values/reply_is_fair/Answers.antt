use Rattle.std.proofs.Common.{◌≡◌, ◌<◌, ◌+◌, ℕ, List, ◌∷◌, Bool, true, false, length, drop, get_or, sym, ap, ◌∙◌, subst, arith, inl, inr}
use Rattle.std.proofs.lemmas.Bool.{cases_lt}
use Rattle.std.proofs.lemmas.List.{drop_more, drop_all}
use Rattle.rate_types.specs.declared.request.Descriptor.{Descriptor}
use Rattle.run_audit.proofs.Learning.{Replies, Shows, reply_more, reply_no_more, reply_done}
use Rattle.run_audit.proofs.values.reply_is_fair.Goals as goal

drop_read : {X : Type 0} (xs : List X) (i : ℕ) (x : X) → i < length xs → x ≡ get_or xs i x → drop i xs ≡ x ∷ drop (i + 1) xs
drop_read xs i x within is = drop_more xs i x within ∙ ap (λ z. z ∷ drop (i + 1) xs) (sym is)

pub returns-then-not-fair : goal.returns-then-not-fair
returns-then-not-fair c =
    let ds = c.descriptors-descriptors.result.now in
    let ss = c.args.statuses.now in
    let d = c.index-descriptors-i.result in
    let s = c.status_at-status.result.now in
    let within_d : c.statuses.i < length ds = omega (arith, c.statuses-test.true, c.min-number.ensures) in
    let within_s : c.statuses.i < length ss = omega (arith, c.statuses-test.true, c.min-number.ensures) in
    let shows = subst (λ (b : Bool). Shows c.statuses.values.entries c.status_is_fair.new.values.entries c.args.worker b c.args.request.now c.args.moment d s)
    c.if-not-fair.true c.in_ok-fair.ensures in
    let step = reply_no_more c.statuses.values.entries c.status_is_fair.new.values.entries c.args.worker c.args.request.now c.args.moment d s
    (drop (c.statuses.i + 1) ds) (drop c.statuses.i ds) (drop (c.statuses.i + 1) ss) (drop c.statuses.i ss)
    (drop_read ds c.statuses.i d within_d c.index-descriptors-i.is) (drop_read ss c.statuses.i s within_s c.status_at-status.ensures) shows in
    subst (λ (ds : List Descriptor). Replies c.args.values.now.entries c.status_is_fair.new.values.entries c.args.worker false c.args.request.now
    c.args.moment ds ss) c.descriptors-descriptors.ensures.all (c.statuses.invariant c.status_is_fair.new.values.entries false step)

pub statuses-preserved : goal.statuses-preserved
statuses-preserved c = λ e b more.
    let ds = c.descriptors-descriptors.result.now in
    let ss = c.args.statuses.now in
    let d = c.index-descriptors-i.result in
    let s = c.status_at-status.result.now in
    let within_d : c.statuses.i < length ds = omega (arith, c.statuses-test.true, c.min-number.ensures) in
    let within_s : c.statuses.i < length ss = omega (arith, c.statuses-test.true, c.min-number.ensures) in
    let shows = subst (λ (t : Bool). Shows c.statuses.values.entries c.status_is_fair.new.values.entries c.args.worker t c.args.request.now c.args.moment d s)
    c.if-not-fair.false c.in_ok-fair.ensures in
    c.statuses.invariant e b (reply_more c.statuses.values.entries c.status_is_fair.new.values.entries e c.args.worker b c.args.request.now
    c.args.moment d s (drop (c.statuses.i + 1) ds) (drop c.statuses.i ds) (drop (c.statuses.i + 1) ss) (drop c.statuses.i ss)
    (drop_read ds c.statuses.i d within_d c.index-descriptors-i.is) (drop_read ss c.statuses.i s within_s c.status_at-status.ensures) shows more)

pub returns : goal.returns
returns c =
    let ds = c.descriptors-descriptors.result.now in
    let ss = c.args.statuses.now in
    let done = reply_done c.statuses.values.entries c.args.worker c.args.request.now c.args.moment (drop c.statuses.i ds) (drop c.statuses.i ss)
    (elim (cases_lt c.statuses.i (length ds)) [
      | inl more ↦ inr (drop_all c.statuses.i ss (omega (arith, c.statuses-test.false, c.min-number.ensures, more)))
      | inr over ↦ inl (drop_all c.statuses.i ds over)
    ]) in
    subst (λ (ds : List Descriptor). Replies c.args.values.now.entries c.statuses.values.entries c.args.worker true c.args.request.now
    c.args.moment ds ss) c.descriptors-descriptors.ensures.all (c.statuses.invariant c.statuses.values.entries true done)
