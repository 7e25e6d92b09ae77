use Rattle.std.proofs.Common.{◌∙◌, ◌==◌, true≢false, ℕ, List, [], sym, subst, ap, arith}
use Rattle.std.specs.Prelude.{Result, Ok, Err, OnOk}
use Rattle.rate_types.specs.Sums.{total, one_if}
use Rattle.counter_cells.specs.declared.answers.Spot.{Spot}
use Rattle.rate_limiter.specs.Asked.{is_to_count}
use Rattle.rate_limiter.specs.Counters.{Holds}
use Rattle.rate_limiter.specs.declared.asked.Asked.{Asked}
use Rattle.rate_limiter.proofs.AskedCounters.{none_at}
use Rattle.rate_limiter.proofs.Knowing.{at_less}
use Rattle.rate_limiter.proofs.hold.hold_known.Goals as goal

both_ok : {A E : Type 0} {P Q R : Type 0} (r : Result A E) → (P → Q → R) → OnOk r P → OnOk r Q → OnOk r R
both_ok (Ok x) f p q = f p q
both_ok (Err e) f p q = tt

pub returns-in-Some-clause-over : goal.returns-in-Some-clause-over
returns-in-Some-clause-over g c = λ known none.
    let m = c.in-Some.ensures.0 in
    absurd (true≢false (sym m.missing ∙ known c.in-Some.place m.a (at_less c.args.asked.now c.in-Some.place m.a m.at) m.at))

pub returns-then-not-any_to_count-clause-held : goal.returns-then-not-any_to_count-clause-held
returns-then-not-any_to_count-clause-held g c =
    let cells = g.N.CellNaming.setup.cells in
    let v = c.args.counters.now.cells in
    let nothing : Holds cells [] v = record {
      within = λ k d l. absurd (omega arith);
      pins = λ k. ap (total (λ (p : ℕ × ℕ). one_if (p.0 == k))) c.requires.bare;
    } in
    record {
      known = c.in_default.ensures;
      holds = subst (λ (l : List Spot). Holds cells l v) (sym c.empty.ensures) nothing;
      pinned = λ i a at to.
          absurd (true≢false (sym to ∙ none_at (λ (x : Asked). is_to_count x.found x.hits x.known) c.args.asked.now (sym c.if-not-any_to_count.ensures) i a at));
    }

pub returns-clause-held : goal.returns-clause-held
returns-clause-held g c =
    both_ok c.pin_each.result
    (λ holds pinned. record { known = c.in_default.ensures; holds = holds; pinned = λ i a at _. pinned i a (at_less c.args.asked.now i a at) at })
    c.pin_each.ensures.holds c.pin_each.ensures.pinned
