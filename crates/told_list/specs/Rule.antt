-- Inside: the rule of a told list: one list that only grows, a word that is its length, and views that know prefixes of it.
use Rattle.std.specs.Prelude.{◌≡◌, ◌≢◌, ℕ, ◌+◌, ◌-◌, ◌≤◌, ◌⊎◌, List, [], ◌∷◌, ◌++◌, length, true, false}
use Rattle.std.specs.declared.option.Option.{Option}
use Rattle.std.specs.declared.option.Option.TheVariants.{None, Some}
use mathlib.Core.Option.{some}
use mathlib.Core.List.{IsPrefix}
use lib.ListN.{get_elem?}
use Rattle.atomic_table.specs.Seated.{TableId}
use Rattle.atomic_table.specs.Table.{State, Me}
use Rattle.told_list.specs.declared.rule.Setup.{Setup}
use Rattle.told_list.specs.declared.rule.TokenView.{TokenView}
use Rattle.rate_types.specs.Sums.{total, one_if, times}
use Rattle.told_list.specs.Lists.{count_from, IsOwnedOnce}

-- the seat is one of the table, which has two words and one slot
abbrev pub IsSeatOf : TableId → TableId → Type 0
IsSeatOf seat table = (seat ≡ table) × (table.words ≡ 2) × (table.slots ≡ 1)

module _ {T : Type 0} where
  -- a view that knows this list, stands for so many tokens and has done nothing
  abbrev pub idle_view : List T → ℕ → TokenView T
  idle_view xs n = record {
    known = xs;
    loads = 0;
    shown = 0;
    turns = 0;
    own = [];
    tokens = n;
    unfilled = false;
    holds = false;
    joined_lists = [];
  }

  -- the view of the first seat, before the value lies in the table
  abbrev pub first_view : List T → ℕ → TokenView T
  first_view xs n = record (idle_view xs n) { unfilled = true }

  -- a load raises the number of loads and leaves what is known
  abbrev pub loaded : TokenView T → ℕ → TokenView T
  loaded v n = record v { loads = v.loads + 1; shown = n }

  -- the first seat has the slot of the value, which is empty yet
  abbrev pub slot_taken : TokenView T → TokenView T
  slot_taken v = record v { unfilled = false; holds = true }

  -- a turn begins: the whole list is known
  abbrev pub begun : List T → TokenView T → TokenView T
  begun xs v = record v { holds = true; known = xs; turns = v.turns + 1 }

  -- the items are added behind the list, and their places are the view's own
  abbrev pub added : List T → TokenView T → TokenView T
  added xs v = record v { known = v.known ++ xs; own = v.own ++ count_from (length v.known) (length xs) }

  -- a turn ends
  abbrev pub ended : TokenView T → TokenView T
  ended v = record v { holds = false }

  -- the view after one token was split off
  abbrev pub one_less : TokenView T → TokenView T
  one_less v = record v { tokens = v.tokens - 1 }

  -- the view of the token split off, which knows what is known
  abbrev pub one_token : TokenView T → TokenView T
  one_token v = idle_view v.known 1

  -- one view now stands for the tokens of both, and has the lists that the other knew
  abbrev pub joined : TokenView T → TokenView T → TokenView T
  joined v w = record v { tokens = v.tokens + w.tokens; own = v.own ++ w.own; joined_lists = v.joined_lists ++ w.known ∷ [] }

  -- a view that stands for no token
  abbrev pub empty_view : TokenView T
  empty_view = idle_view [] 0

  -- the view has done nothing, but for tokens that were split off it
  abbrev pub IsIdle : TokenView T → Type 0
  IsIdle v = v ≡ idle_view v.known v.tokens

  -- what a load tells: it shows at least the length known, and at most the bound
  abbrev pub Loaded : ℕ → TokenView T → ℕ → TokenView T → Type 0
  Loaded most v n w = (w ≡ loaded v n) × (length v.known ≤ n) × (n ≤ most)

  -- what one view has to do with the list
  pub record Fits (log : List T) (v : TokenView T) : Type 0 where
    pub known : IsPrefix v.known log
    pub shown : v.shown ≤ length log
    pub start : v.unfilled ≡ true → v.known ≡ log
    pub whole : v.holds ≡ true → v.known ≡ log
    pub joined_lists : (i : ℕ) (xs : List T) → get_elem? v.joined_lists i ≡ some xs → IsPrefix xs log
    pub bare : v.tokens ≡ 0 → (v.own ≡ []) × (v.holds ≡ false) × (v.unfilled ≡ false)

module _ {K T F : Type 0} (items : K → List T) (fixed : K → F) where
  -- what the first step of a turn tells: the value found, of which `fact` holds, or that another token has its turn, and then `busy`
  abbrev pub Began : (K → Type 0) → Type 0 → Me (Option K) (TokenView T) → ℕ → Me (Option K) (TokenView T) → Type 0
  Began fact busy v n w =
      ((n ≡ 0) × (k : K) × (w ≡ (begun (items k) v.0, (0, Some k) ∷ [])) × IsPrefix v.0.known (items k) × (v.0.shown ≤ length (items k))
      × fact k)
      ⊎ ((n ≢ 0) × (w ≡ v) × busy)

  -- where the value is: in the table while no turn goes on, with the one view that has its turn, or not there yet
  pub data ValueState (first : K) (log : List T) (lock holding unfilled : ℕ) (s : State (Option K) (TokenView T)) : Type 0 where
    free : lock ≡ 0 → holding ≡ 0 → unfilled ≡ 0 → (k : K) → s.homes ≡ some (Some k) ∷ [] → items k ≡ log → fixed k ≡ fixed first
        → ValueState first log lock holding unfilled s
    taken : lock ≡ 1 → holding ≡ 1 → unfilled ≡ 0 → ValueState first log lock holding unfilled s
    awaited : lock ≡ 2 → holding ≡ 0 → unfilled ≡ 1 → s.homes ≡ some None ∷ [] → ValueState first log lock holding unfilled s

  -- what the value left in the end has to do with a view that stands for all tokens
  pub record IsLast (first : K) (v : TokenView T) (k : K) : Type 0 where
    pub joined_lists : (i : ℕ) (xs : List T) → get_elem? v.joined_lists i ≡ some xs → IsPrefix xs (items k)
    pub owned : (p : ℕ) → IsOwnedOnce (length (items first)) (length (items k)) p (times p v.own)
    pub stays : fixed k ≡ fixed first

  -- the rule: the first word is the length of the one list, which only grows and has at most so many items
  pub record IsLawful (most : ℕ) (o : Setup K) (s : State (Option K) (TokenView T)) : Type 0 where
    pub log : List T
    pub lock : ℕ
    pub words : s.words ≡ length log ∷ lock ∷ []
    pub few : length log ≤ most
    pub begins : length (items o.kept) ≤ length log
    pub each : (j : ℕ) (u : TokenView T) → get_elem? s.views j ≡ some u → Fits log u
    pub place : ValueState o.kept log lock (total (λ u. one_if u.holds) s.views) (total (λ u. one_if u.unfilled) s.views) s
    pub tokens : total (λ u. u.tokens) s.views ≡ o.tokens
    pub places : (p : ℕ) → IsOwnedOnce (length (items o.kept)) (length log) p (total (λ u. times p u.own) s.views)

  -- what the rule proves of the value that a view finds, and where it finds that another turn goes on
  pub record Justifies (most : ℕ) (o : Setup K) (id : ℕ) (v : TokenView T) (fact : K → Type 0) (busy : Type 0) : Type 0 where
    pub found : (s : State (Option K) (TokenView T)) (h : IsLawful most o s) → get_elem? s.views id ≡ some v → (k : K) → items k ≡ h.log
        → fixed k ≡ fixed o.kept → fact k
    pub going : (s : State (Option K) (TokenView T)) (h : IsLawful most o s) → get_elem? s.views id ≡ some v → h.lock ≢ 0 → busy
