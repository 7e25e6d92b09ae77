-- The pools of a list, one behind the other.
use Rattle.std.proofs.Common.{◌≡◌, ℕ, ◌+◌, List, [], ◌∷◌, ◌++◌, Option, Some, None, Result, Ok, Err, refl, sym, ap, subst, ◌∙◌, length, arith}
use Rattle.rate_types.specs.Places as places
use Rattle.rate_types.specs.declared.refused.Refused.{Refused}
use Rattle.rate_types.specs.declared.fault.Fault.{Fault}
use Rattle.rate_types.specs.declared.fault.Fault.TheVariants as fault
use Rattle.rate_types.specs.Reading.{IsRefusal}
use Rattle.serde_json.specs.Data.{Data, Items, item}
use Rattle.serde_json.specs.View.{view, items_view}
use Rattle.serde_json.specs.declared.value.Value.{Value}
use Rattle.proto_json.specs.Said.{reading_of}
use Rattle.proto_json.specs.Laws.{then_read, reading_then}
use Rattle.quota_pools.specs.Pools.{OnePool}
use Rattle.quota_pools.specs.ReadPools.{pool, and_pool, pools_from}

-- one item, and then those behind it
from_item : (place : List ℕ) (index : ℕ) (earlier : List OnePool) (d : Data) (ds : Items)
    → reading_of (pools_from place index earlier (item d ds))
    ≡ then_read (reading_of (pool earlier (places.item place index) d))
    (λ p. reading_of (pools_from place (index + 1) (and_pool earlier p) ds))
unfolding pools_from
from_item place index earlier d ds =
    reading_then (pool earlier (places.item place index) d) (λ p. pools_from place (index + 1) (and_pool earlier p) ds)

-- these pools were read so far, and the rest is to be read from this index on
abbrev pub PoolsSoFar : List ℕ → List Value → List Value → ℕ → List OnePool → Type 0
PoolsSoFar place all rest index ps =
    reading_of (pools_from place index ps (items_view rest)) ≡ reading_of (pools_from place 0 [] (items_view all))

pub pools_more : (place : List ℕ) (all rest more : List Value) (index : ℕ) (ps : List OnePool) (v : Value) (p : OnePool)
    → PoolsSoFar place all rest index ps → rest ≡ v ∷ more → reading_of (pool ps (places.item place index) (view v)) ≡ Ok (Some p)
    → PoolsSoFar place all more (index + 1) (ps ++ p ∷ [])
pools_more place all rest more index ps v p so_far is one =
    sym (from_item place index ps (view v) (items_view more)
    ∙ ap (λ r. then_read r (λ q. reading_of (pools_from place (index + 1) (and_pool ps q) (items_view more)))) one)
    ∙ subst (λ (vs : List Value). PoolsSoFar place all vs index ps) is so_far

refused_first : (place : List ℕ) (index : ℕ) (ps : List OnePool) (d : Data) (ds : Items) (e : Fault Refused)
    → IsRefusal e (reading_of (pool ps (places.item place index) d)) → IsRefusal e (reading_of (pools_from place index ps (item d ds)))
refused_first place index ps d ds (fault.Refused r) is = from_item place index ps d ds
    ∙ ap (λ q. then_read q (λ p. reading_of (pools_from place (index + 1) (and_pool ps p) ds))) is
refused_first place index ps d ds fault.OutOfMemory is = tt

pub pools_refused : (place : List ℕ) (all rest more : List Value) (index : ℕ) (ps : List OnePool) (v : Value) (e : Fault Refused)
    → PoolsSoFar place all rest index ps → rest ≡ v ∷ more → IsRefusal e (reading_of (pool ps (places.item place index) (view v)))
    → IsRefusal e (reading_of (pools_from place 0 [] (items_view all)))
pools_refused place all rest more index ps v e so_far is refused =
    subst (λ (r : Result (Option (List OnePool)) Refused). IsRefusal e r)
    (subst (λ (vs : List Value). PoolsSoFar place all vs index ps) is so_far) (refused_first place index ps (view v) (items_view more) e refused)

pub pools_all : (place : List ℕ) (all rest : List Value) (index : ℕ) (ps : List OnePool) → PoolsSoFar place all rest index ps → rest ≡ []
    → reading_of (pools_from place 0 [] (items_view all)) ≡ Ok (Some ps)
unfolding pools_from
pools_all place all rest index ps so_far is = sym (subst (λ (vs : List Value). PoolsSoFar place all vs index ps) is so_far)

pub none_left : (vs : List Value) → length vs ≡ 0 → vs ≡ []
none_left [] h = λ i. []
none_left (v ∷ vs) h = absurd (omega (arith, h))
