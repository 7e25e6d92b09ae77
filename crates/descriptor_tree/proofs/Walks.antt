-- The walk over the nodes of a level: what is left to check answers as the whole level does.
use Rattle.std.proofs.Common.{◌≡◌, ℕ, suc, ◌+◌, ◌≤◌, ◌<◌, ◌&&◌, List, [], ◌∷◌, length, map, drop, get_or, Bool, true, Option, Some, None, option_map, Result, Ok, Err, Bor}
use Rattle.std.proofs.Common.{codes, refl, sym, ap, ◌∙◌, subst, add-one, append-nil, arith, not}
use Rattle.std.proofs.Math.Seq.{drop-cons}
use Rattle.std.specs.HashSet.{HashSet, Updates, contains}
use Rattle.std.specs.List.{slice_get, list_any}
use Rattle.std.specs.Option.{option_eq}
use Rattle.std.specs.Str.{bytes_eq}
use Rattle.std.specs.declared.hash.FoldHasher.{FoldHasher}
use Rattle.std.specs.declared.hash.BuildHasherDefault.{BuildHasherDefault}
use Rattle.rate_types.specs.Places.{child, item}
use Rattle.rate_types.specs.declared.limits.TheConstants.{MOST_NODES}
use Rattle.rate_types.specs.declared.refused.At.{At}
use Rattle.descriptor_tree.specs.declared.node.Node.{Node}
use Rattle.rate_types.specs.declared.fault.Fault.{Fault}
use Rattle.rate_types.specs.declared.fault.Fault.TheVariants as fault
use Rattle.descriptor_tree.specs.Trees.{NodeFields, Branch, branch, and_branch, branches_of, fields_of, below_of, node_view}
use Rattle.descriptor_tree.specs.Nodes.{PlacedNode, branch_nodes, forest_nodes}
use Rattle.rate_types.specs.Reading.{AnswersReading, first_or}
use Rattle.descriptor_tree.specs.Faults.{in_file, is_empty, is_twin, node_numbers, nodes_faults}
use Rattle.descriptor_tree.specs.Numbering.{next_number}
use Rattle.descriptor_tree.proofs.Seen.{Seen, seen_more, twin_from_new}
use Rattle.descriptor_tree.proofs.Counting.{first_number, no_number, counted_then, counted_refused}

-- a name in the code's set, and the sets of them
abbrev pub Name : Type 0
Name = Bor (List ℕ) × Option (Bor (List ℕ))

abbrev pub Names : Type 0
Names = HashSet Name (BuildHasherDefault FoldHasher)

abbrev pub name_eq : Name → Name → Bool
name_eq x y = bytes_eq x.0.now y.0.now && option_eq (λ a b. bytes_eq a.now b.now) x.1 y.1

abbrev pub has_name : NodeFields → Name → Bool
has_name e q = bytes_eq e.key q.0.now && option_eq bytes_eq e.value (option_map (λ v. v.now) q.1)

pub record Walked (file : ℕ) (place : List ℕ) (level start : ℕ) (all : List Node) (index number : ℕ) (names : Names) : Type 0 where
  pub earlier : List NodeFields
  pub seen : Seen name_eq has_name names earlier
  pub answer : next_number file number (forest_nodes place level index earlier (branches_of (map node_view (drop index all))))
      ≡ next_number file start (forest_nodes place level 0 [] (branches_of (map node_view all)))
  pub few : number ≤ MOST_NODES

option_eq_now : (a b : Option (Bor (List ℕ))) → option_eq (λ a b. bytes_eq a.now b.now) a b ≡ option_eq bytes_eq (option_map (λ v. v.now) a) (option_map (λ v. v.now) b)
option_eq_now None None = refl
option_eq_now None (Some b) = refl
option_eq_now (Some a) None = refl
option_eq_now (Some a) (Some b) = refl

named : (k : Name) (e : NodeFields) → k.0.now ≡ e.key → option_map (λ v. v.now) k.1 ≡ e.value → (q : Name) → name_eq k q ≡ has_name e q
named k e key value q = ap (λ b. bytes_eq k.0.now q.0.now && b) (option_eq_now k.1 q.1)
    ∙ ap (λ x. bytes_eq x q.0.now && option_eq bytes_eq (option_map (λ v. v.now) k.1) (option_map (λ v. v.now) q.1)) key
    ∙ ap (λ x. bytes_eq e.key q.0.now && option_eq bytes_eq x (option_map (λ v. v.now) q.1)) value

-- whether a node has a twin before it, from what the set answered
pub twin_is : (names : Names) (earlier : List NodeFields) (k : Name) (node : NodeFields) (new : Bool) → Seen name_eq has_name names earlier → k.0.now ≡ node.key
    → option_map (λ v. v.now) k.1 ≡ node.value
    → not new ≡ list_any (λ e. has_name e k) earlier → not new ≡ list_any (λ e. is_twin e node) earlier
twin_is names earlier k node new seen key value is = is
    ∙ ap (λ x. list_any (λ e. bytes_eq e.key x && option_eq bytes_eq e.value (option_map (λ v. v.now) k.1)) earlier) key
    ∙ ap (λ x. list_any (λ e. bytes_eq e.key node.key && option_eq bytes_eq e.value x) earlier) value

-- a node's own fault is the answer
pub node_refused : (file number : ℕ) (at : List ℕ) (level : ℕ) (earlier : List NodeFields) (b : Branch) (twin : Bool) (n : ℕ)
    → twin ≡ list_any (λ e. is_twin e (fields_of b)) earlier
    → slice_get (node_numbers (is_empty (fields_of b).key) twin level number) 0 ≡ Some n
    → next_number file number (branch_nodes at level earlier b) ≡ Err (in_file file (record { at = at; number = n }))
node_refused file number at level earlier (branch node below) twin n twin_is is =
    first_number (node_numbers (is_empty node.key) (list_any (λ e. is_twin e node) earlier) level number) n _ (in_file file) _ _
    (subst (λ (t : Bool). slice_get (node_numbers (is_empty node.key) t level number) 0 ≡ Some n) twin_is is)

-- a node without a fault of its own: the nodes below it come next
pub node_passes : (file number : ℕ) (at : List ℕ) (level : ℕ) (earlier : List NodeFields) (b : Branch) (twin : Bool)
    → twin ≡ list_any (λ e. is_twin e (fields_of b)) earlier
    → slice_get (node_numbers (is_empty (fields_of b).key) twin level number) 0 ≡ None
    → next_number file number (branch_nodes at level earlier b)
    ≡ next_number file (number + 1) (forest_nodes (child at (codes "descriptors")) (level + 1) 0 [] (below_of b))
node_passes file number at level earlier (branch node below) twin twin_is is =
    ap (λ fs. first_or (map (in_file file) fs) (number + length (s ∷ rest)))
    (no_number _ _ (nodes_faults (number + 1) rest) (subst (λ (t : Bool). slice_get (node_numbers (is_empty node.key) t level number) 0 ≡ None) twin_is is))
    ∙ ap (λ m. first_or (map (in_file file) (nodes_faults (number + 1) rest)) m) lengths
  where
    s : PlacedNode
    s = record { place = at; level = level; earlier = earlier; node = node }

    rest : List PlacedNode
    rest = forest_nodes (child at (codes "descriptors")) (level + 1) 0 [] below

    lengths : number + length (s ∷ rest) ≡ number + 1 + length rest
    lengths = omega arith

-- a level of one node answers as that node does
pub lone_node : (file number : ℕ) (place : List ℕ) (level : ℕ) (all : List Node) (node : Node) → length all ≡ 1 → node ≡ get_or all 0 node
    → next_number file number (branch_nodes (item place 0) level [] (node_view node)) ≡ next_number file number (forest_nodes place level 0 [] (branches_of (map node_view all)))
lone_node file number place level [] node one is = absurd (omega (arith, one))
lone_node file number place level (x ∷ []) node one is =
    ap (λ (y : Node). next_number file number (branch_nodes (item place 0) level [] (node_view y))) is
    ∙ ap (next_number file number) (sym (append-nil (branch_nodes (item place 0) level [] (node_view x))))
lone_node file number place level (x ∷ y ∷ more) node one is = absurd (omega (arith, one))

-- what is left, with its first node apart
pub walked_node : (file : ℕ) (place : List ℕ) (level start : ℕ) (all : List Node) (i number : ℕ) (names : Names) (node : Node)
    (w : Walked file place level start all i number names) → i < length all → node ≡ get_or all i node
    → next_number file number (forest_nodes place level i w.earlier (and_branch (node_view node) (branches_of (map node_view (drop (i + 1) all)))))
    ≡ next_number file start (forest_nodes place level 0 [] (branches_of (map node_view all)))
walked_node file place level start all i number names node w within is =
    let rest : drop i all ≡ node ∷ drop (i + 1) all = rw (add-one i) (drop-cons all i node within ∙ ap (λ (x : Node). x ∷ drop (suc i) all) (sym is)) in
    ap (λ (ns : List Node). next_number file number (forest_nodes place level i w.earlier (branches_of (map node_view ns)))) (sym rest) ∙ w.answer

-- the facts of one step: the node at hand, its name, and what the set answered
pub record Step (names : Names) (all : List Node) (i : ℕ) (node : Node) (k : Name) (new : Bool) : Type 0 where
  pub within : i < length all
  pub at : node ≡ get_or all i node
  pub key : k.0.now ≡ (fields_of (node_view node)).key
  pub value : option_map (λ v. v.now) k.1 ≡ (fields_of (node_view node)).value
  pub new_is : new ≡ not (contains name_eq names k)

twin_of : (file : ℕ) (place : List ℕ) (level start : ℕ) (all : List Node) (i number : ℕ) (names : Names) (node : Node) (k : Name) (new : Bool)
    (w : Walked file place level start all i number names) → Step names all i node k new
    → not new ≡ list_any (λ e. is_twin e (fields_of (node_view node))) w.earlier
twin_of file place level start all i number names node k new w s =
    twin_is names w.earlier k (fields_of (node_view node)) new w.seen s.key s.value (twin_from_new name_eq has_name names w.earlier k new w.seen s.new_is)

pub is_answer : (e : Fault At) (at : At) (read : Result ℕ At) → ((x : At) → e ≡ fault.Refused x → x ≡ at) → read ≡ Err at
    → AnswersReading {X = ℕ} {Y = ℕ} (λ n. n) (Err e) read
is_answer (fault.Refused x) at read only is = is ∙ ap Err (sym (only x refl))
is_answer fault.OutOfMemory at read only is = tt

-- the node at hand with those below it, and those behind them
abbrev here_nodes : List ℕ → ℕ → ℕ → List NodeFields → Node → List PlacedNode
here_nodes place level i earlier node = branch_nodes (item place i) level earlier (node_view node)

abbrev more_nodes : List ℕ → ℕ → ℕ → List NodeFields → List Node → Node → List PlacedNode
more_nodes place level i earlier all node = forest_nodes place level (i + 1) (fields_of (node_view node) ∷ earlier) (branches_of (map node_view (drop (i + 1) all)))

-- what the check of the node at hand answers
abbrev NodeAnswers : ℕ → List ℕ → ℕ → ℕ → ℕ → Node → Bool → Result ℕ (Fault At) → Type 0
NodeAnswers file place level i number node twin result = (earlier : List NodeFields) → twin ≡ list_any (λ e. is_twin e (fields_of (node_view node))) earlier
    → AnswersReading {X = ℕ} {Y = ℕ} (λ n. n) result (next_number file number (here_nodes place level i earlier node))

-- the node at hand, or one below it, is refused
pub walk_stops : (file : ℕ) (place : List ℕ) (level start : ℕ) (all : List Node) (i number : ℕ) (names : Names) (node : Node) (k : Name) (new : Bool)
    (w : Walked file place level start all i number names) → Step names all i node k new → (e : Fault At) → NodeAnswers file place level i number node (not new) (Err e)
    → AnswersReading {X = ℕ} {Y = ℕ} (λ n. n) (Err e) (next_number file start (forest_nodes place level 0 [] (branches_of (map node_view all))))
walk_stops file place level start all i number names node k new w s fault.OutOfMemory is = tt
walk_stops file place level start all i number names node k new w s (fault.Refused at) is =
    sym (walked_node file place level start all i number names node w s.within s.at)
    ∙ counted_refused file number (here_nodes place level i w.earlier node) (more_nodes place level i w.earlier all node) at
    (is w.earlier (twin_of file place level start all i number names node k new w s))

-- the node and those below it are right
pub walk_goes_on : (file : ℕ) (place : List ℕ) (level start : ℕ) (all : List Node) (i number : ℕ) (names after : Names) (node : Node) (k : Name) (new : Bool)
    (w : Walked file place level start all i number names) → Step names all i node k new → Updates name_eq names after k true
    → (next : ℕ) → NodeAnswers file place level i number node (not new) (Ok next) → next ≤ MOST_NODES → Walked file place level start all (i + 1) next after
walk_goes_on file place level start all i number names after node k new w s updates next is few = record {
  earlier = fields_of (node_view node) ∷ w.earlier;
  seen = seen_more name_eq has_name names after w.earlier k (fields_of (node_view node)) w.seen (named k (fields_of (node_view node)) s.key s.value) updates;
  answer = sym (counted_then file number (here_nodes place level i w.earlier node) (more_nodes place level i w.earlier all node) next
      (is w.earlier (twin_of file place level start all i number names node k new w s)))
      ∙ walked_node file place level start all i number names node w s.within s.at;
  few = few;
}
