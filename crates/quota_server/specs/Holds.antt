-- Inside: the counts of a client's live shares that may still become its greatest.
use Rattle.std.specs.Prelude.{ℕ, ◌==◌, ◌&&◌, List, [], ◌∷◌, ◌++◌, Bool, true, false, nat_lt, if◌then◌else◌}
use Rattle.quota_server.specs.Shares.{greatest}

-- the counts that are kept, and for how many more there is room
pub record OneHold : Type 0 where
  pub counts : List ℕ
  pub room : ℕ

-- whether there is none
abbrev pub is_none_of : List ℕ → Bool
is_none_of [] = true
is_none_of (n ∷ ns) = false

-- the first one, 0 where there is none
abbrev pub first_of : List ℕ → ℕ
first_of [] = 0
first_of (n ∷ ns) = n

-- the counts, oldest first, without those that a later one is greater than
abbrev pub skyline : List ℕ → List ℕ
skyline [] = []
skyline (n ∷ ns) = if nat_lt n (greatest ns) then skyline ns else n ∷ skyline ns

-- what is kept after the oldest count ended
abbrev pub after_end : ℕ → List ℕ → List ℕ
after_end n [] = []
after_end n (m ∷ ms) = if m == n then ms else m ∷ ms

-- these without the last ones that are smaller
abbrev pub without_smaller : ℕ → List ℕ → List ℕ
without_smaller n [] = []
without_smaller n (m ∷ ms) = if nat_lt m n && is_none_of (without_smaller n ms) then [] else m ∷ without_smaller n ms

-- what is kept after a count began
abbrev pub after_begin : ℕ → List ℕ → List ℕ
after_begin n ms = without_smaller n ms ++ n ∷ []

-- whether the last of these is below a count
abbrev pub ends_below : ℕ → List ℕ → Bool
ends_below n [] = false
ends_below n (m ∷ []) = nat_lt m n
ends_below n (m ∷ k ∷ ms) = ends_below n (k ∷ ms)
