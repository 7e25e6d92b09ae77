-- What contracts see of a pass of a directory.
use Rattle.std.specs.Prelude.{◌≡◌, ℕ, ◌+◌, ◌-◌, List, [], ◌++◌, length}
use mathlib.Core.List.{IsPrefix}
use Rattle.atomic_table.specs.Seated.{TableId}
use Rattle.told_list.specs.Lists.{count_from}
use Rattle.counter_directory.specs.declared.claim.Claim.{Claim}

-- what a pass knows of the claims: those known to it, the number of its turns at the lock, and the places of the claims that it made
pub record KnownClaims : Type 0 where
  pub known : List Claim
  pub turns : ℕ
  pub own : List ℕ

-- a pass: which list of claims it is of, and what it knows of it
pub record DirectoryPassView : Type 0 where
  pub list_id : TableId
  pub claims : KnownClaims

-- which list of claims a pass is of
abbrev pub list_of : DirectoryPassView → TableId
list_of pass = pass.list_id

-- what a pass knows of the claims
abbrev pub knows : DirectoryPassView → KnownClaims
knows pass = pass.claims

-- it knows no claim, and has done nothing yet
pub record IsFresh (v : KnownClaims) : Type 0 where
  pub known : v.known ≡ []
  pub turns : v.turns ≡ 0
  pub own : v.own ≡ []

-- One turn, which found one list of claims and left another: what was known is a prefix of the list found, the list left is known,
-- and the places of the claims that came to it are the pass's own
pub record HasTurned (found left : List Claim) (v w : KnownClaims) : Type 0 where
  pub knew : IsPrefix v.known found
  pub grew : IsPrefix found left
  pub known : w.known ≡ left
  pub turns : w.turns ≡ v.turns + 1
  pub own : w.own ≡ v.own ++ count_from (length found) (length left - length found)
