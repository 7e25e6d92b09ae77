-- What a call on the versions does with a pass.
use Rattle.std.specs.Prelude.{◌≡◌, ℕ, ◌+◌, ◌<◌, ◌≤◌, List, [], ◌∷◌, ◌++◌, length, slice_get, Some}
use mathlib.Core.List.{IsPrefix}
use Rattle.rate_types.specs.declared.limits.TheConstants.{MOST_VERSIONS}
use Rattle.told_list.specs.declared.rule.TokenView.{TokenView}

-- the state of a pass: the number of its version, that version, and what its token knows
pub record PassState (I : Type 0) : Type 0 where
  pub version : ℕ
  pub index : I
  pub view : TokenView I

module _ {I : Type 0} where
  -- the version with this number
  abbrev pub IsVersion : List I → ℕ → I → Type 0
  IsVersion versions number index = slice_get versions number ≡ Some index

  -- a pass at the first version, which has done nothing yet
  pub record IsFirst (first : I) (s : PassState I) : Type 0 where
    pub version : s.version ≡ 0
    pub index : s.index ≡ first
    pub known : s.view.known ≡ first ∷ []
    pub own : s.view.own ≡ []
    pub loads : s.view.loads ≡ 0
    pub shown : s.view.shown ≡ 0

  -- one turn at the lock, which found these versions: what the pass knew is a prefix of them, and its last load had shown no more
  pub record HasFound (found : List I) (s t : PassState I) : Type 0 where
    pub knew : IsPrefix s.view.known found
    pub saw : s.view.shown ≤ length found
    pub loads : t.view.loads ≡ s.view.loads
    pub shown : t.view.shown ≡ s.view.shown

  -- the version is there, as the newest, and the pass is at it; its number is the pass's own
  pub record HasInstalled (next : I) (number : ℕ) (s t : PassState I) : Type 0 where
    pub found : List I
    pub turn : HasFound found s t
    pub place : number ≡ length found
    pub room : number < MOST_VERSIONS
    pub known : t.view.known ≡ found ++ next ∷ []
    pub own : t.view.own ≡ s.view.own ++ number ∷ []
    pub version : t.version ≡ number
    pub index : t.index ≡ next
    pub rises : s.version < number

  -- the pass is at the newest version, and nothing was added
  pub record IsNewest (s t : PassState I) : Type 0 where
    pub turn : HasFound t.view.known s t
    pub own : t.view.own ≡ s.view.own
    pub version : t.version + 1 ≡ length t.view.known
    pub index : IsVersion t.view.known t.version t.index
    pub rises : s.version ≤ t.version

  -- the pass is at the version at which it was, and nothing was added
  pub record HasStayed (s t : PassState I) : Type 0 where
    pub turn : HasFound t.view.known s t
    pub own : t.view.own ≡ s.view.own
    pub version : t.version ≡ s.version
    pub index : t.index ≡ s.index

  -- one load, and nothing else changed
  pub record HasLoaded (s t : PassState I) : Type 0 where
    pub loads : t.view.loads ≡ s.view.loads + 1
    pub shown : (s.version < t.view.shown) × (length s.view.known ≤ t.view.shown) × (t.view.shown ≤ MOST_VERSIONS)
    pub known : t.view.known ≡ s.view.known
    pub own : t.view.own ≡ s.view.own
    pub version : t.version ≡ s.version
    pub index : t.index ≡ s.index
