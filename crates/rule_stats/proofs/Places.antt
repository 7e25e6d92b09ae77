-- Lists that are made longer by items that count nothing.
use Rattle.std.proofs.Common.{◌≡◌, ℕ, zero, suc, List, [], ◌∷◌, ◌++◌, get_or, refl}
use Rattle.rule_stats.specs.declared.numbers.RuleNumbers.{RuleNumbers}
use Rattle.rule_stats.specs.Statistics.{nothing}

-- one more item that is the default
pub stays : {X : Type 0} → (xs : List X) (i : ℕ) (d : X) → get_or (xs ++ d ∷ []) i d ≡ get_or xs i d
stays [] zero d = refl
stays [] (suc i) d = refl
stays (x ∷ xs) zero d = refl
stays (x ∷ xs) (suc i) d = stays xs i d

pub stays_nothing : (xs : List RuleNumbers) (i : ℕ) → get_or (xs ++ nothing ∷ []) i nothing ≡ get_or xs i nothing
stays_nothing xs i = stays xs i nothing

pub stays_empty : (xs : List (List RuleNumbers)) (i : ℕ) → get_or (xs ++ [] ∷ []) i [] ≡ get_or xs i []
stays_empty xs i = stays xs i []
