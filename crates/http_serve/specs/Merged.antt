-- Inside: the links of several workers in the order of their numbers.
use Rattle.std.specs.Prelude.{◌≡◌, ℕ, ◌<◌, ◌==◌, List, [], ◌∷◌, ◌++◌, length, slice_set}
use Rattle.std.specs.List.{AllByRecursion}
use Rattle.std.specs.declared.option.Option.{Option}
use Rattle.std.specs.declared.option.Option.TheVariants.{Some}
use mathlib.Core.Option.{some}
use lib.ListN.{get_elem?}
use Rattle.rate_types.specs.Sums.{total, one_if}
use Rattle.http_serve.specs.Service.{Service}

-- the links of all lists, one list after the other
abbrev pub joined : List (List Service) → List Service
joined [] = []
joined (j ∷ js) = j ++ joined js

-- 1 where a link has this number, else 0
abbrev pub on_number : ℕ → Service → ℕ
on_number n s = one_if (s.number == n)

-- of so many numbers from 0 on each is that of one of these links, and there are no others
pub record EachNumberOnce (count : ℕ) (services : List Service) : Type 0 where
  pub once : (n : ℕ) → n < count → total (on_number n) services ≡ 1
  pub within : AllByRecursion (λ s. s.number < count) services

-- So many links in the order of their numbers: what is summed over them is what is summed over all lists.
pub record Merges (count : ℕ) (lists : List (List Service)) (services : List Service) : Type 0 where
  pub as_many : length services ≡ count
  pub numbered : (i : ℕ) (s : Service) → get_elem? services i ≡ some s → s.number ≡ i
  pub sums : (f : Service → ℕ) → total f services ≡ total (total f) lists

-- the places after each of these links was put at that of its number
abbrev pub all_placed : List (Option Service) → List Service → List (Option Service)
all_placed places [] = places
all_placed places (s ∷ ss) = all_placed (slice_set places s.number (Some s)) ss
