-- Two refusals are equal where their numbers and their places are.
use Rattle.std.proofs.Common.{◌≡◌, ℕ, ◌==◌, ◌&&◌, List, Bool, ap, ap₂}
use Rattle.std.specs.Str.{bytes_eq}
use Rattle.std.specs.Bool.{Decides}
use Rattle.std.proofs.lemmas.Bool.Decides.{Decides-eqb}
use Rattle.std.proofs.lemmas.Slice.Eq.{bytes_eq-Decides}
use Rattle.rate_types.specs.declared.refused.Refused.{Refused}
use Rattle.run_audit.proofs.Tests.{both, renamed}

pub same_refusal : (a b : Refused) (same : Bool) → same ≡ (a.number == b.number && bytes_eq a.at b.at) → Decides same (a ≡ b)
same_refusal a b same is =
    let d = both (a.number == b.number) (bytes_eq a.at b.at) (Decides-eqb a.number b.number) (bytes_eq-Decides a.at b.at) in
    renamed same (a.number == b.number && bytes_eq a.at b.at) is (
      λ h. ap₂ (λ (n : ℕ) (p : List ℕ). let r : Refused = record { at = p; number = n } in r) (d.0 h).0 (d.0 h).1,
      λ e. d.1 (ap (λ (r : Refused). r.number) e, ap (λ (r : Refused). r.at) e),
    )
