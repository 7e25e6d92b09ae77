-- What contracts see of a list and of its tokens.
use Rattle.std.specs.Prelude.{◌≡◌, ℕ, ◌+◌, ◌-◌, ◌≤◌, List, [], ◌++◌, length}
use mathlib.Core.List.{IsPrefix}
use Rattle.atomic_table.specs.Seated.{TableId}
use Rattle.told_list.specs.declared.rule.TokenView.{TokenView}
use Rattle.told_list.specs.declared.seen.Seen.{Seen}
use Rattle.told_list.specs.declared.told.Told.{Told}
use Rattle.told_list.specs.Lists.{count_from}

module _ {K T : Type 0} where
  -- which list it is
  abbrev pub list_id : Told K T → TableId
  list_id told = told.table.shared.table_id

  -- the kept value that it was made of
  abbrev pub first_value : Told K T → K
  first_value told = told.table.shared.key.kept

  -- how many tokens were given
  abbrev pub tokens : Told K T → ℕ
  tokens told = told.table.shared.key.tokens

  -- which list a token is of
  abbrev pub list_of : Seen K T → TableId
  list_of seen = seen.seat.table_id

  -- what a token knows: the list `known`, the number of `loads` and what the last one `shown`, the number of `turns`, and its `own` places
  abbrev pub view : Seen K T → TokenView T
  view seen = seen.seat.me.0

  -- the list that a token knows
  abbrev pub known : Seen K T → List T
  known seen = seen.seat.me.0.known

module _ {T : Type 0} where
  -- a token that knows this list and has done nothing yet
  pub record IsFresh (xs : List T) (v : TokenView T) : Type 0 where
    pub known : v.known ≡ xs
    pub loads : v.loads ≡ 0
    pub shown : v.shown ≡ 0
    pub turns : v.turns ≡ 0
    pub own : v.own ≡ []

  -- one load, which showed at least what is known and at most the bound
  pub record HasLoaded (most : ℕ) (v w : TokenView T) : Type 0 where
    pub loads : w.loads ≡ v.loads + 1
    pub shown : (length v.known ≤ w.shown) × (w.shown ≤ most)
    pub known : w.known ≡ v.known
    pub turns : w.turns ≡ v.turns
    pub own : w.own ≡ v.own

  -- one turn, which found one list and left another: what was known is a prefix of the list found, which no load of the
  -- token had shown to be longer, the list left is known, and the places of what was added are the token's own
  pub record HasTurned (found left : List T) (v w : TokenView T) : Type 0 where
    pub knew : IsPrefix v.known found
    pub saw : v.shown ≤ length found
    pub grew : IsPrefix found left
    pub known : w.known ≡ left
    pub turns : w.turns ≡ v.turns + 1
    pub own : w.own ≡ v.own ++ count_from (length found) (length left - length found)
    pub loads : w.loads ≡ v.loads
    pub shown : w.shown ≡ v.shown
