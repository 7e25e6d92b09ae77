-- Nodes that are numbered one after the other, up to the first fault.
use Rattle.std.proofs.Common.{◌≡◌, ℕ, ◌+◌, List, [], ◌∷◌, ◌++◌, length, map, Some, None, Ok, Err, refl, sym, ap, ◌∙◌, append_assoc, length-append, arith}
use Rattle.std.specs.List.{slice_get}
use Rattle.rate_types.specs.declared.refused.Refused.{Refused}
use Rattle.rate_types.specs.declared.refused.At.{At}
use Rattle.descriptor_tree.specs.Nodes.{PlacedNode}
use Rattle.rate_types.specs.Reading.{first_or}
use Rattle.descriptor_tree.specs.Faults.{in_file, nodes_faults, node_faults}
use Rattle.descriptor_tree.specs.Numbering.{next_number}

-- the first of some numbers at one place is the answer
pub first_number : {X : Type 0} (ns : List ℕ) (n : ℕ) (at : ℕ → Refused) (to : Refused → At) (more : List Refused) (x : X) → slice_get ns 0 ≡ Some n
    → first_or (map to (map at ns ++ more)) x ≡ Err (to (at n))
first_number [] n at to more x is = cc
first_number (m ∷ ns) n at to more x is = ap (λ k. Err (to (at k))) same
  where
    same : m ≡ n
    same = cc

-- no number, no fault
pub no_number : (ns : List ℕ) (at : ℕ → Refused) (more : List Refused) → slice_get ns 0 ≡ None → map at ns ++ more ≡ more
no_number [] at more is = refl
no_number (m ∷ ns) at more is = cc

pub faults_append : (number : ℕ) (xs ys : List PlacedNode) → nodes_faults number (xs ++ ys) ≡ nodes_faults number xs ++ nodes_faults (number + length xs) ys
faults_append number [] ys = ap (λ n. nodes_faults n ys) same
  where
    same : number ≡ number + length {A = PlacedNode} []
    same = omega arith
faults_append number (x ∷ xs) ys =
    ap (λ more. node_faults number x ++ more) (faults_append (number + 1) xs ys ∙ ap (λ n. nodes_faults (number + 1) xs ++ nodes_faults n ys) same)
    ∙ sym (append_assoc (node_faults number x) (nodes_faults (number + 1) xs) (nodes_faults (number + length (x ∷ xs)) ys))
  where
    same : number + 1 + length xs ≡ number + length (x ∷ xs)
    same = omega arith

map_append : (f : Refused → At) (xs ys : List Refused) → map f (xs ++ ys) ≡ map f xs ++ map f ys
map_append f [] ys = refl
map_append f (x ∷ xs) ys = ap (λ more. f x ∷ more) (map_append f xs ys)

-- the first fault of some faults is that of more, and where there is none the others decide
pub then_first : {X Y : Type 0} (xs ys : List At) (x : X) (y : Y) (at : At) → first_or xs x ≡ Err at → first_or (xs ++ ys) y ≡ Err at
then_first [] ys x y at is = cc
then_first (f ∷ fs) ys x y at is = ap Err same
  where
    same : f ≡ at
    same = cc

pub none_first : {X : Type 0} (xs : List At) (x z : X) → first_or xs x ≡ Ok z → (xs ≡ []) × (x ≡ z)
none_first [] x z is = (refl, cc)
none_first (f ∷ fs) x z is = cc

-- nodes without a fault, and then others
pub counted_then : (file number : ℕ) (xs ys : List PlacedNode) (n : ℕ) → next_number file number xs ≡ Ok n → next_number file number (xs ++ ys) ≡ next_number file n ys
counted_then file number xs ys n is =
    let none = none_first (map (in_file file) (nodes_faults number xs)) (number + length xs) n is in
    ap (λ fs. first_or fs (number + length (xs ++ ys))) (ap (map (in_file file)) (faults_append number xs ys)
    ∙ map_append (in_file file) (nodes_faults number xs) (nodes_faults (number + length xs) ys))
    ∙ ap (λ fs. first_or (fs ++ map (in_file file) (nodes_faults (number + length xs) ys)) (number + length (xs ++ ys))) none.0
    ∙ ap (λ m. first_or (map (in_file file) (nodes_faults m ys)) (number + length (xs ++ ys))) none.1
    ∙ ap (λ m. first_or (map (in_file file) (nodes_faults n ys)) m) rest
  where
    rest : number + length (xs ++ ys) ≡ n + length ys
    rest = omega (arith, length-append xs ys, (none_first (map (in_file file) (nodes_faults number xs)) (number + length xs) n is).1)

-- nodes of which one is refused
pub counted_refused : (file number : ℕ) (xs ys : List PlacedNode) (at : At) → next_number file number xs ≡ Err at → next_number file number (xs ++ ys) ≡ Err at
counted_refused file number xs ys at is =
    ap (λ fs. first_or fs (number + length (xs ++ ys))) (ap (map (in_file file)) (faults_append number xs ys)
    ∙ map_append (in_file file) (nodes_faults number xs) (nodes_faults (number + length xs) ys))
    ∙ then_first (map (in_file file) (nodes_faults number xs)) _ (number + length xs) (number + length (xs ++ ys)) at is
