use Rattle.std.proofs.Common.{◌≡◌, List, [], ◌∷◌, ℕ, length, Some, None, Bool, false, refl, sym, subst, arith}
use Rattle.std.specs.List.{slice_get}
use Rattle.std.specs.Map.{lookup}
use Rattle.rate_types.specs.Counters.{same_text}
use Rattle.rule_lookup.proofs.roots.Roots.first_level.Goals as goal

-- none is found where there is one pair and its key isn't the one sought
lone_not_found : {K X : Type 0} (test : K → Bool) (entries : List (K × X)) (pair : K × X) → length entries ≡ 1 → slice_get entries 0 ≡ Some pair → test pair.0 ≡ false
    → None ≡ lookup test entries
lone_not_found test [] pair one there other = absurd (omega (arith, one))
lone_not_found test (e ∷ []) pair one there other =
    let same : e ≡ pair = cc in
    rw (subst (λ p. test p.0 ≡ false) (sym same) other) refl
lone_not_found test (e ∷ f ∷ entries) pair one there other = absurd (omega (arith, one))

pub returns-else-eq : goal.returns-else-eq
returns-else-eq c =
    lone_not_found (same_text c.args.domain.now) c.args.self.now.domains.entries (c.in_ok-only.only.now, c.in_ok-only.first.now)
    (let len = c.len.ensures.len in let one = c.if-len-ne1.false in omega arith) (sym c.in_ok-only.ensures.entry) (sym c.if-eq.ensures)
