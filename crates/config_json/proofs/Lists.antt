-- The nodes of a list, one after the other.
use Rattle.std.proofs.Common.{◌≡◌, ℕ, ◌+◌, List, [], ◌∷◌, ◌++◌, Option, Some, None, option_map, Result, Ok, Err, refl, sym, ap, ◌∙◌, length, arith}
use Rattle.serde_json.specs.Data.{Data, Items, no_items, item}
use Rattle.rate_types.specs.Places as places
use Rattle.rate_types.specs.declared.refused.Refused.{Refused}
use Rattle.rate_types.specs.declared.fault.Fault.{Fault}
use Rattle.rate_types.specs.declared.fault.Fault.TheVariants as fault
use Rattle.rate_types.specs.Reading.{IsRefusal}
use Rattle.proto_json.specs.Said.{reading_of}
use Rattle.proto_json.specs.Laws.{then_read}
use Rattle.proto_json.specs.Laws.{reading_then}
use Rattle.descriptor_tree.specs.Trees.{Branch, Branches, no_branches, and_branch, branches_of}
use Rattle.serde_json.specs.declared.value.Value.{Value}
use Rattle.config_json.specs.Trees.{node_at, nodes_at, with_branch}

-- these nodes before those
abbrev pub joined : List Branch → Branches → Branches
joined [] rs = rs
joined (r ∷ front) rs = and_branch r (joined front rs)

pub joined_none : (front : List Branch) → joined front no_branches ≡ branches_of front
joined_none [] = refl
joined_none (r ∷ front) = ap (and_branch r) (joined_none front)

pub joined_more : (front : List Branch) (r : Branch) (rs : Branches) → joined (front ++ r ∷ []) rs ≡ joined front (and_branch r rs)
joined_more [] r rs = refl
joined_more (x ∷ front) r rs = ap (and_branch x) (joined_more front r rs)

-- what the rest of a list says behind these nodes
abbrev pub behind : List Branch → Result (Option Branches) Refused → Result (Option Branches) Refused
behind front read = then_read read (λ rs. Ok (option_map (joined front) rs))

pub nodes_none : (place : List ℕ) (index : ℕ) (front : List Branch) → behind front (reading_of (nodes_at place index no_items)) ≡ Ok (Some (branches_of front))
unfolding nodes_at
nodes_none place index front = ap (λ rs. Ok (Some rs)) (joined_none front)

behind_more : (front : List Branch) (r : Branch) (read : Result (Option Branches) Refused)
    → behind front (then_read read (λ rs. Ok (with_branch (Some r) rs))) ≡ behind (front ++ r ∷ []) read
behind_more front r (Err e) = refl
behind_more front r (Ok None) = refl
behind_more front r (Ok (Some rs)) = ap (λ x. Ok (Some x)) (sym (joined_more front r rs))

-- one more node was read
pub nodes_more : (place : List ℕ) (index : ℕ) (front : List Branch) (d : Data) (ds : Items) (r : Branch) → reading_of (node_at (places.item place index) d) ≡ Ok (Some r)
    → behind front (reading_of (nodes_at place index (item d ds))) ≡ behind (front ++ r ∷ []) (reading_of (nodes_at place (index + 1) ds))
unfolding nodes_at
nodes_more place index front d ds r is =
    let one : reading_of (nodes_at place index (item d ds)) ≡ then_read (reading_of (nodes_at place (index + 1) ds)) (λ rs. Ok (with_branch (Some r) rs)) =
    simp (reading_then, is) in
    ap (behind front) one ∙ behind_more front r _

-- a node is refused, and so is the list
pub nodes_fail : (place : List ℕ) (index : ℕ) (front : List Branch) (d : Data) (ds : Items) (e : Refused) → reading_of (node_at (places.item place index) d) ≡ Err e
    → behind front (reading_of (nodes_at place index (item d ds))) ≡ Err e
unfolding nodes_at
nodes_fail place index front d ds e is =
    let one : reading_of (nodes_at place index (item d ds)) ≡ Err e = simp (reading_then, is) in
    ap (behind front) one

pub nodes_refused : (place : List ℕ) (index : ℕ) (front : List Branch) (d : Data) (ds : Items) (e : Fault Refused)
    → IsRefusal e (reading_of (node_at (places.item place index) d))
    → IsRefusal e (behind front (reading_of (nodes_at place index (item d ds))))
nodes_refused place index front d ds (fault.Refused r) is = nodes_fail place index front d ds r is
nodes_refused place index front d ds fault.OutOfMemory is = tt

pub none_left : (vs : List Value) → length vs ≡ 0 → vs ≡ []
none_left [] h = refl
none_left (v ∷ vs) h = absurd (omega (arith, h))
