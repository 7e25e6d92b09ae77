-- The items of a list of values, one after the other.
use Rattle.std.proofs.Common.{◌≡◌, ℕ, ◌+◌, List, [], ◌∷◌, ◌++◌, Option, Some, None, option_map, Result, Ok, Err, refl, sym, ap, subst, ◌∙◌, append_assoc, length, length-append}
use Rattle.std.proofs.Common.{arith}
use Rattle.std.proofs.lemmas.List.{append-nil}
use Rattle.rate_types.specs.Places as places
use Rattle.rate_types.specs.declared.refused.Refused.{Refused}
use Rattle.serde_json.specs.Data.{Data, Items, no_items, item}
use Rattle.serde_json.specs.View.{view, items_view}
use Rattle.serde_json.specs.declared.value.Value.{Value}
use Rattle.rate_types.specs.declared.fault.Fault.{Fault}
use Rattle.rate_types.specs.declared.fault.Fault.TheVariants as fault
use Rattle.rate_types.specs.Reading.{IsRefusal}
use Rattle.proto_json.specs.Said.{Said, says, reading_of, ◌>>=◌}
use Rattle.proto_json.specs.Laws.{then_read, reading_then}
use Rattle.proto_json.specs.Lists.{items_from, with_first}

-- what the rest of a list says behind these values
abbrev pub behind : {X : Type 0} → List X → Result (Option (List X)) Refused → Result (Option (List X)) Refused
behind front read = then_read read (λ xs. Ok (option_map (λ more. front ++ more) xs))

-- no item is left
pub items_none : {X : Type 0} (read : List ℕ → Data → Said (Option X)) (place : List ℕ) (index : ℕ) (front : List X)
    → behind front (reading_of (items_from read place index no_items)) ≡ Ok (Some front)
unfolding items_from
items_none read place index front = ap (λ xs. Ok (Some xs)) (append-nil front)

pub behind_more : {X : Type 0} (front : List X) (x : X) (read : Result (Option (List X)) Refused)
    → behind front (then_read read (λ xs. Ok (with_first (Some x) xs))) ≡ behind (front ++ x ∷ []) read
behind_more front x (Err e) = refl
behind_more front x (Ok None) = refl
behind_more front x (Ok (Some xs)) = ap (λ more. Ok (Some more)) (sym (append_assoc front (x ∷ []) xs))

-- one more item was read
pub items_more : {X : Type 0} (read : List ℕ → Data → Said (Option X)) (place : List ℕ) (index : ℕ) (front : List X) (d : Data) (ds : Items) (x : X)
    → reading_of (read (places.item place index) d) ≡ Ok (Some x)
    → behind front (reading_of (items_from read place index (item d ds))) ≡ behind (front ++ x ∷ []) (reading_of (items_from read place (index + 1) ds))
unfolding items_from
items_more {X = X} read place index front d ds x is = ap (behind front) one ∙ behind_more front x (reading_of (items_from read place (index + 1) ds))
  where
    rest : Option X → Said (Option (List X))
    rest y = items_from read place (index + 1) ds >>= λ xs. says (with_first y xs)

    one : reading_of (items_from read place index (item d ds)) ≡ then_read (reading_of (items_from read place (index + 1) ds)) (λ xs. Ok (with_first (Some x) xs))
    one = reading_then (read (places.item place index) d) rest ∙ ap (λ r. then_read r (λ y. reading_of (rest y))) is
        ∙ reading_then (items_from read place (index + 1) ds) (λ xs. says (with_first (Some x) xs))

-- an item is refused, and so is the list
pub items_refused : {X : Type 0} (read : List ℕ → Data → Said (Option X)) (place : List ℕ) (index : ℕ) (front : List X) (d : Data) (ds : Items) (e : Fault Refused)
    → IsRefusal e (reading_of (read (places.item place index) d))
    → IsRefusal e (behind front (reading_of (items_from read place index (item d ds))))
unfolding items_from
items_refused {X = X} read place index front d ds (fault.Refused r) is = ap (behind front) one
  where
    one : reading_of (items_from read place index (item d ds)) ≡ Err r
    one = reading_then (read (places.item place index) d) (λ y. items_from read place (index + 1) ds >>= λ xs. says (with_first y xs))
        ∙ ap (λ q. then_read q (λ y. reading_of (items_from read place (index + 1) ds >>= λ xs. says (with_first y xs)))) is
items_refused read place index front d ds fault.OutOfMemory is = tt

-- so far these were read, and the rest is to be read from this index on
abbrev pub ItemsSoFar : {X : Type 0} → (List ℕ → Data → Said (Option X)) → List ℕ → List Value → List Value → ℕ → List X → Type 0
ItemsSoFar read place all rest index xs = behind xs (reading_of (items_from read place index (items_view rest))) ≡ reading_of (items_from read place 0 (items_view all))

pub items_so_far_more : {X : Type 0} (read : List ℕ → Data → Said (Option X)) (place : List ℕ) (all rest more : List Value) (index : ℕ) (xs : List X) (v : Value) (x : X)
    → ItemsSoFar read place all rest index xs → rest ≡ v ∷ more → reading_of (read (places.item place index) (view v)) ≡ Ok (Some x)
    → ItemsSoFar read place all more (index + 1) (xs ++ x ∷ [])
items_so_far_more read place all rest more index xs v x so_far is one =
    sym (items_more read place index xs (view v) (items_view more) x one) ∙ subst (λ (vs : List Value). ItemsSoFar read place all vs index xs) is so_far

pub items_so_far_refused : {X : Type 0} (read : List ℕ → Data
    → Said (Option X)) (place : List ℕ) (all rest more : List Value) (index : ℕ) (xs : List X) (v : Value) (e : Fault Refused)
    → ItemsSoFar read place all rest index xs → rest ≡ v ∷ more → IsRefusal e (reading_of (read (places.item place index) (view v)))
    → IsRefusal e (reading_of (items_from read place 0 (items_view all)))
items_so_far_refused {X = X} read place all rest more index xs v e so_far is refused =
    subst (λ (r : Result (Option (List X)) Refused). IsRefusal e r) (subst
    (λ (vs : List Value). ItemsSoFar read place all vs index xs) is so_far) (items_refused read place index xs (view v) (items_view more) e refused)

pub items_so_far_all : {X : Type 0} (read : List ℕ → Data → Said (Option X)) (place : List ℕ) (all rest : List Value) (index : ℕ) (xs : List X)
    → ItemsSoFar read place all rest index xs → rest ≡ []
    → reading_of (items_from read place 0 (items_view all)) ≡ Ok (Some xs)
items_so_far_all read place all rest index xs so_far is = sym (subst (λ (vs : List Value). ItemsSoFar read place all vs index xs) is so_far) ∙ items_none read place index xs

pub none_left : (vs : List Value) → length vs ≡ 0 → vs ≡ []
none_left [] h = λ i. []
none_left (v ∷ vs) h = absurd (omega (arith, h))

pub one_longer : {X : Type 0} (xs : List X) (x : X) (n : ℕ) → length xs ≡ n → length (xs ++ x ∷ []) ≡ n + 1
one_longer xs x n is = omega (arith, is, length-append xs (x ∷ []))
