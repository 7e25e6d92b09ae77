use Rattle.std.proofs.Common.{◌≡◌, ◌+◌, ◌==◌, ℕ, Bool, true, false, cond, Some, refl, sym, ap, ap₂, ◌∙◌, is_eq, unwrap_or}
use Rattle.std.specs.Prelude.{Option}
use Rattle.std.specs.BTreeMap.{is_at}
use Rattle.std.specs.Map.{lookup}
use Rattle.script_run.specs.Moments.{offer_of}
use Rattle.script_run.specs.Views.{line_view}
use Rattle.script_run.specs.declared.line.Line.{Line}
use Rattle.run_audit.specs.declared.ticks.Ticker.{Ticker}
use Rattle.run_audit.specs.Ticks.{ticker_cmp}
use Rattle.run_audit.proofs.TickCounts.{tick_added}
use Rattle.run_audit.proofs.ticks.add_tick.Goals as goal

either_number : (b : Bool) (v : ℕ) (o : Option ℕ) → unwrap_or (cond b (Some v) o) 0 ≡ cond b v (unwrap_or o 0)
either_number true v o = refl
either_number false v o = refl

pub returns : goal.returns
returns c = λ m w.
    let old = c.args.ticks.now.entries in
    let k : Ticker = record { moment = c.get-moment.result; worker = c.args.worker } in
    let q : Ticker = record { moment = m; worker = w } in
    let put = ap (λ (o : Option ℕ). unwrap_or o 0) (c.in_ok-insert.ensures.updates.0 q)
    ∙ either_number (is_eq (ticker_cmp k q)) (c.ticks_in-number.result + 1) (lookup (is_at (ticker_cmp q)) old) in
    tick_added old c.insert.new.self.entries m w c.get-moment.result c.args.worker (c.ticks_in-number.result + 1)
    (ap (λ (n : ℕ). n + 1) c.ticks_in-number.ensures) put
    ∙ ap₂ (λ (n k : ℕ). n + cond (c.args.worker == w) k 0) refl
    (ap (λ (n : ℕ). cond (n == m) 1 0) c.get-moment.ensures.value ∙ sym (ap (λ (l : Line). offer_of m (line_view l)) c.in-Tick.is))
