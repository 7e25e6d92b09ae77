-- Inside: laws that proofs cite, here and in other crates. The meter answers as the whole list of requests does.
use Rattle.std.proofs.Common.{◌≡◌, ℕ, ◌+◌, ◌-◌, ◌*◌, ◌/◌, ◌<◌, ◌≤◌, ◌==◌, ◌&&◌, Bool, true, false, List, [], ◌∷◌, refl, ap, arith, lit<, if◌then◌else◌, nat_lt}
use Rattle.std.proofs.Common.{inl, inr, sym, ◌∙◌}
use Rattle.std.proofs.Math.Bool.{and-true}
use Rattle.std.proofs.Math.Nat.{add_comm}
use Rattle.std.proofs.lemmas.List.Sums.{sum_by-cons}
use Rattle.std.proofs.Math.Nat.{div-mul-le_self}
use Rattle.std.proofs.lemmas.Nat.{le-div}
use Rattle.std.proofs.lemmas.Bool.{cases_eq, ne_eqb, eq-eqb, and_right}
use Rattle.rate_types.specs.declared.unit.Unit.{Unit}
use Rattle.rate_types.specs.declared.unit.Unit.TheVariants.{Second, Minute, Hour, Day}
use Rattle.quota_bucket.specs.declared.strategy.Strategy.{Strategy}
use Rattle.quota_bucket.specs.declared.strategy.Strategy.TheVariants.{AllowAll, DenyAll, PerUnit, TokenBucket}
use Rattle.quota_bucket.specs.declared.meter.Meter.TheVariants.{Counted}
use Rattle.quota_bucket.specs.declared.meter.Verdict.{Verdict}
use Rattle.quota_bucket.specs.Strategies.{Decision, allows, allowed_in, interval_at, millis_of}
use Rattle.quota_bucket.specs.Meters.{judged, metered}
use Rattle.quota_bucket.specs.State.{meter_of}
use Rattle.quota_bucket.specs.TimeOrder.{Falls}

-- quotients rise with what is divided
pub div-le : (a b k : ℕ) → 0 < k → a ≤ b → a / k ≤ b / k
div-le a b k pos le =
    let under : a / k * k ≤ a = div-mul-le_self a k in
    le-div (a / k) b k pos (omega arith)

pub interval-le : (length effect a b : ℕ) → 0 < length → a ≤ b → interval_at length effect a ≤ interval_at length effect b
interval-le length effect a b pos le = div-le (a - effect) (b - effect) length pos (omega arith)

pub millis-pos : (unit : Unit) → 0 < millis_of unit
millis-pos Second = lit< tt
millis-pos Minute = lit< tt
millis-pos Hour = lit< tt
millis-pos Day = lit< tt

-- no request was allowed in an interval after that of the latest one
pub none_later : (length effect interval moment : ℕ) (requests : List Decision) → 0 < length → Falls moment requests
    → interval_at length effect moment < interval → allowed_in length effect interval requests ≡ 0
none_later length effect interval moment [] pos falls after = refl
none_later length effect interval moment (d ∷ ds) pos falls after =
    let below : interval_at length effect d.at ≤ interval_at length effect moment = interval-le length effect d.at moment pos falls.0 in
    let rest : allowed_in length effect interval ds ≡ 0 = none_later length effect interval d.at ds pos falls.1 (omega arith) in
    let other : (interval_at length effect d.at == interval) ≡ false = ne_eqb _ _ (λ e. omega arith) in
    rw (and_right d.allowed (interval_at length effect d.at == interval) other) rest

counted_at : (latest n interval m : ℕ) → (latest ≡ interval → n ≡ m) → ((latest ≡ interval → ⊥) → m ≡ 0)
    → metered (Counted latest n) interval ≡ m
counted_at latest n interval m same other =
    elim (cases_eq latest interval) [
      | inl e ↦ rw (eq-eqb latest interval e) (same e)
      | inr ne ↦ rw (ne_eqb latest interval ne) (sym (other ne))
    ]

-- the meter knows how many were allowed in the interval of a moment that isn't earlier
pub metered-meter_of : (count : ℕ) (unit : Unit) (effect at : ℕ) (requests : List Decision) → Falls at requests
    → metered (meter_of (PerUnit count unit) effect requests) (interval_at (millis_of unit) effect at)
    ≡ allowed_in (millis_of unit) effect (interval_at (millis_of unit) effect at) requests
metered-meter_of count unit effect at [] falls = refl
metered-meter_of count unit effect at (d ∷ ds) falls =
    let below : interval_at (millis_of unit) effect d.at ≤ interval_at (millis_of unit) effect at =
    interval-le (millis_of unit) effect d.at at (millis-pos unit) falls.0 in
    let now : Falls d.at (d ∷ ds) = (omega arith, falls.1) in
    counted_at _ _ _ _
    (λ e. ap (λ k. allowed_in (millis_of unit) effect k (d ∷ ds)) e)
    (λ ne. none_later (millis_of unit) effect _ d.at (d ∷ ds) (millis-pos unit) now (omega (arith, below)))

-- one more request in the latest interval
allowed_in-now : (length effect at : ℕ) (allowed : Bool) (ds : List Decision)
    → allowed_in length effect (interval_at length effect at) (record { at = at; allowed = allowed } ∷ ds)
    ≡ allowed_in length effect (interval_at length effect at) ds + (if allowed then 1 else 0)
allowed_in-now length effect at allowed ds =
    let first : allowed_in length effect (interval_at length effect at) (record { at = at; allowed = allowed } ∷ ds)
    ≡ (if (allowed && (interval_at length effect at == interval_at length effect at)) then 1 else 0)
    + allowed_in length effect (interval_at length effect at) ds =
    sum_by-cons (λ (d : Decision). if (d.allowed && (interval_at length effect d.at == interval_at length effect at)) then 1 else 0)
    (record { at = at; allowed = allowed }) ds in
    let itself : (interval_at length effect at == interval_at length effect at) ≡ true = eq-eqb _ _ refl in
    first ∙ rw (itself, and-true allowed) (add_comm (if allowed then 1 else 0) (allowed_in length effect (interval_at length effect at) ds))

per_unit : (count interval before listed more : ℕ) → before ≡ listed
    → more ≡ listed + (if nat_lt listed count then 1 else 0)
    → (let v : Verdict = record { allowed = nat_lt before count; meter = Counted interval (before + (if nat_lt before count then 1 else 0)) } in v)
    ≡ record { allowed = nat_lt listed count; meter = Counted interval more }
per_unit count interval before listed more same is = rw (is, same) refl

-- the answer by the meter is that by the whole list, and so is the meter after it
pub judged-meter_of : (strategy : Strategy) (effect at : ℕ) (requests : List Decision) → Falls at requests
    → judged strategy (meter_of strategy effect requests) (at - effect) ≡ record {
      allowed = allows strategy effect at requests;
      meter = meter_of strategy effect (record { at = at; allowed = allows strategy effect at requests } ∷ requests);
    }
judged-meter_of AllowAll effect at requests falls = refl
judged-meter_of DenyAll effect at requests falls = refl
judged-meter_of (PerUnit count unit) effect at requests falls =
    per_unit count (interval_at (millis_of unit) effect at) _ _ _ (metered-meter_of count unit effect at requests falls)
    (allowed_in-now (millis_of unit) effect at (allows (PerUnit count unit) effect at requests) requests)
judged-meter_of (TokenBucket max per_fill interval) effect at [] falls = refl
judged-meter_of (TokenBucket max per_fill interval) effect at (d ∷ ds) falls = refl
