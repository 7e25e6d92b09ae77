-- Inside: what a view that stands for several tokens says of them.
use Rattle.std.specs.Prelude.{◌≡◌, ℕ, List, length, map, false}
use Rattle.rate_types.specs.Sums.{total, times}
use Rattle.told_list.specs.declared.rule.TokenView.{TokenView}

module _ {P T : Type 0} (list_known : P → List T) (places_of : P → List ℕ) where
  -- a view that stands for the tokens of these passes
  pub record JoinsTokens (passes : List P) (v : TokenView T) : Type 0 where
    pub tokens : v.tokens ≡ length passes
    pub joined_lists : v.joined_lists ≡ map list_known passes
    pub own : (n : ℕ) → times n v.own ≡ total (λ p. times n (places_of p)) passes
    pub rests : (v.holds ≡ false) × (v.unfilled ≡ false)
