-- Checks with new statistics, or with none, and what is left of them.
use Rattle.std.specs.Prelude.{◌≡◌, ℕ, ◌≤◌, ◌^◌, List, [], ◌∷◌, ◌++◌, All, Option, Some, None, length, ⊤}
use Rattle.std.specs.List.{flat_map}
use Rattle.rate_types.specs.declared.limits.TheConstants.{MOST_NODES}
use Rattle.rule_stats.specs.declared.numbers.RuleNumbers.{RuleNumbers}
use Rattle.shared_stats.specs.Passes.{stats_id, rules_of, passes_of, stats_of, noted_of, reads_of, IsFresh}
use Rattle.shared_stats.specs.Noted.{as_notes, hits_in}
use Rattle.shared_stats.specs.Reading.{numbered}
use Rattle.shared_stats.specs.Text.{stats_text}
use Rattle.shared_stats.specs.declared.pass.StatsPass.{StatsPass}
use Rattle.shared_stats.specs.declared.shared_stats.SharedStats.{SharedStats}
use Rattle.counted_checks.specs.Text.{IsTextBelow}
use Rattle.counted_checks.specs.Counting.{StatsView, Counting}

-- ---- new

-- the pass of new statistics, or none
abbrev pub unused : Option SharedStats → Option StatsView
unused None = None
unused (Some stats) = Some (record { id = stats_id stats; noted = []; told = [] })

-- checks with it
abbrev pub begun : {S : Type 0} → Option SharedStats → S → Counting S
begun stats checks = record { checks = checks; stats = unused stats }

-- a pass of these statistics that has done nothing, or none
abbrev pub IsUnused : Option SharedStats → Option StatsPass → Type 0
IsUnused None None = ⊤
IsUnused None (Some pass) = ⊥
IsUnused (Some stats) None = ⊥
IsUnused (Some stats) (Some pass) = (rules_of stats ≡ MOST_NODES) × (stats_of pass ≡ stats_id stats) × IsFresh pass

-- so many passes of these statistics that have done nothing, or none
abbrev pub AreUnused : ℕ → Option SharedStats → List StatsPass → Type 0
AreUnused count None passes = passes ≡ []
AreUnused count (Some stats) passes =
    (rules_of stats ≡ MOST_NODES) × (length passes ≡ count) × All (λ p. (stats_of p ≡ stats_id stats) × IsFresh p) passes

-- so many passes are all that were made
abbrev pub HasPasses : ℕ → Option SharedStats → Type 0
HasPasses count None = ⊤
HasPasses count (Some stats) = (rules_of stats ≡ MOST_NODES) × (passes_of stats ≡ count)

-- ---- in use

-- the text has the numbers of all rules, which were read one after the other
pub record WasRead (reads : List (ℕ × RuleNumbers)) (text : List ℕ) : Type 0 where
  pub numbers : List RuleNumbers
  pub count : length numbers ≡ MOST_NODES
  pub before : List (ℕ × RuleNumbers)
  pub behind : List (ℕ × RuleNumbers)
  pub among : reads ≡ before ++ (numbered 0 numbers ++ behind)
  pub spelled : text ≡ stats_text numbers

-- Inside: what contracts see of a pass that told these texts.
abbrev pub view_of : Option StatsPass → List (List ℕ) → Option StatsView
view_of None told = None
view_of (Some pass) told = Some (record { id = stats_of pass; noted = noted_of pass; told = told })

-- Inside: a pass of these statistics told these texts, or there are none.
abbrev pub GoesWith : Option SharedStats → Option StatsPass → List (List ℕ) → Type 0
GoesWith None None told = ⊤
GoesWith None (Some pass) told = ⊥
GoesWith (Some stats) None told = ⊥
GoesWith (Some stats) (Some pass) told = (rules_of stats ≡ MOST_NODES) × (stats_of pass ≡ stats_id stats) × All (WasRead (reads_of pass)) told

-- ---- given back

-- the pass, with all that it told
abbrev pub IsPassOf : StatsPass → StatsView → Type 0
IsPassOf pass v = (stats_of pass ≡ v.id) × (noted_of pass ≡ v.noted) × All (WasRead (reads_of pass)) v.told

-- the pass that was in use, or none
abbrev pub GivesBack : Option StatsPass → Option StatsView → Type 0
GivesBack None None = ⊤
GivesBack None (Some v) = ⊥
GivesBack (Some pass) None = ⊥
GivesBack (Some pass) (Some v) = IsPassOf pass v

-- the passes of all that were in use, in order
abbrev pub AreGivenBack : List StatsPass → List StatsView → Type 0
AreGivenBack [] [] = ⊤
AreGivenBack (p ∷ ps) (v ∷ vs) = IsPassOf p v × AreGivenBack ps vs
AreGivenBack ps vs = ⊥

-- ---- closed

-- all passes of these statistics, or none
abbrev pub AreOf : Option SharedStats → List StatsPass → Type 0
AreOf None passes = passes ≡ []
AreOf (Some stats) passes = (rules_of stats ≡ MOST_NODES) × (length passes ≡ passes_of stats) × All (λ p. stats_of p ≡ stats_id stats) passes

-- no number that a pass told is greater than the sum of what all of them noted, as long as none noted more than it adds
pub record HaveClosed (vs : List StatsView) : Type 0 where
  pub most : All (λ v. hits_in (as_notes v.noted) ≤ 2 ^ 57) vs → All (λ v. All (IsTextBelow (flat_map (λ w. as_notes w.noted) vs)) v.told) vs
