-- The handover of links: what was put, what the queue holds, and what each pass took.
use Rattle.std.specs.Prelude.{◌≡◌, ℕ, ◌+◌, ◌<◌, List, [], ◌∷◌, ◌++◌, true, false, replicate, ⊤}
use mathlib.Core.Option.{some}
use lib.ListN.{get_elem?}
use Rattle.std.specs.List.{AllByRecursion}
use Rattle.rate_types.specs.Sums.{total}
use Rattle.link_handover.specs.declared.taken.Taken.{Taken}
use Rattle.link_handover.specs.declared.taken.Taken.TheVariants.{Link, End}
use Rattle.link_handover.specs.declared.journal.Journal.{Journal}

-- the numbers rise: each is smaller than all behind it
abbrev pub AreRising : List ℕ → Type 0
AreRising [] = ⊤
AreRising (n ∷ ns) = AllByRecursion (λ m. n < m) ns × AreRising ns

module _ {N : Type 0} where
  -- these links under their numbers, from this one on
  abbrev pub numbered : ℕ → List N → List (Taken N)
  numbered k [] = []
  numbered k (x ∷ xs) = Link k x ∷ numbered (k + 1) xs

  -- so many links under their numbers, and then so many end marks
  abbrev pub put_in_all : List N → ℕ → List (Taken N)
  put_in_all links marks = numbered 0 links ++ replicate marks End

  -- the numbers of the links among these, in order
  abbrev pub numbers_in : List (Taken N) → List ℕ
  numbers_in [] = []
  numbers_in (End ∷ ms) = numbers_in ms
  numbers_in (Link n x ∷ ms) = n ∷ numbers_in ms

  -- one pass puts, and knows what it put
  abbrev pub KnowsPut : ℕ → List N → ℕ → ℕ → Journal N → Type 0
  KnowsPut putter links marks port v = v.puts ≡ true → (port ≡ putter) × (v.links ≡ links) × (v.marks ≡ marks)

  -- The rule. What was put are links, numbered from 0 in order, and then end marks. The first of these were taken, each by one pass and
  -- once, and the queue holds the others in order. Each pass took its numbers in rising order. The passes together are the one that puts
  -- and 64 that take.
  pub record HandoverLawful (items : List (Taken N)) (views : List (Journal N)) : Type 0 where
    pub links : List N
    pub marks : ℕ
    pub first : List (Taken N)
    pub putter : ℕ
    pub queue : put_in_all links marks ≡ first ++ items
    pub taken : (weight : Taken N → ℕ) → total (λ v. total weight v.taken) views ≡ total weight first
    pub puts : (port : ℕ) (v : Journal N) → get_elem? views port ≡ some v → KnowsPut putter links marks port v
    pub rising : (port : ℕ) (v : Journal N) → get_elem? views port ≡ some v → v.puts ≡ false → AreRising (numbers_in v.taken)
    pub passes : total (λ v. v.parts) views ≡ 65
    pub bare : (port : ℕ) (v : Journal N) → get_elem? views port ≡ some v → v.parts ≡ 0 → v.taken ≡ []
