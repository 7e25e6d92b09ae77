-- A number that isn't 0.
use Rattle.std.proofs.Common.{◌≡◌, ℕ, zero, suc, ◌<◌, Option, Some, None, refl, ap, ◌∙◌, arith}
use Rattle.std.proofs.Math.Bridge.{le_prop}
use Rattle.std.proofs.Math.Nat.{zero-lt-suc}
use Rattle.std.specs.Prelude.{MatchOption}
use Rattle.std.specs.declared.num.NonZeroU64.{NonZeroU64}
use Rattle.quota_settings_json.specs.ReadSettings.{positive}

of_value : (v : ℕ) (ok : 0 < v) (n : ℕ) → v ≡ n → ◌≡◌ {A = Option NonZeroU64} (Some (record { value = v; ok = ok })) (positive n)
of_value zero ok n e = absurd (omega (arith, ok))
of_value (suc m) ok zero e = absurd (omega (arith, e))
of_value (suc m) ok (suc n) e =
    let same : m ≡ n = omega (arith, e) in
    let any : ok ≡ zero-lt-suc m = le_prop ok (zero-lt-suc m) in
    ap (λ (o : 0 < suc m). Some (record { value = suc m; ok = o })) any ∙ ap (λ (k : ℕ). Some (record { value = suc k; ok = zero-lt-suc k })) same

pub positive_is : (made : Option NonZeroU64) (n : ℕ) → MatchOption made (n ≡ 0) (λ x. x.value ≡ n) → made ≡ positive n
positive_is None zero h = refl
positive_is None (suc n) h = absurd (omega (arith, h))
positive_is (Some x) n h = of_value x.value x.ok n h
