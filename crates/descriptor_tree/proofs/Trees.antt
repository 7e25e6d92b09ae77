-- The walk over the trees: what is left to check answers as all trees do.
use Rattle.std.proofs.Common.{◌≡◌, ℕ, suc, ◌+◌, ◌≤◌, ◌<◌, List, [], ◌∷◌, ◌++◌, length, map, drop, get_or, Bool, true, not, Option, Some, None, Result, Ok, Err, Bor, refl, sym, ap}
use Rattle.std.proofs.Common.{◌∙◌, subst, add-one}
use Rattle.std.proofs.Math.Seq.{drop-cons}
use Rattle.std.specs.HashSet.{HashSet, Updates, contains}
use Rattle.std.specs.List.{slice_get, list_any}
use Rattle.std.specs.Str.{bytes_eq}
use Rattle.std.specs.declared.hash.FoldHasher.{FoldHasher}
use Rattle.std.specs.declared.hash.BuildHasherDefault.{BuildHasherDefault}
use Rattle.rate_types.specs.declared.refused.At.{At}
use Rattle.rate_types.specs.declared.limits.TheConstants.{MOST_NODES}
use Rattle.descriptor_tree.specs.declared.tree.Tree.{Tree}
use Rattle.rate_types.specs.declared.fault.Fault.{Fault}
use Rattle.rate_types.specs.declared.fault.Fault.TheVariants as fault
use Rattle.descriptor_tree.specs.Trees.{tree_view}
use Rattle.descriptor_tree.specs.Nodes.{tree_nodes}
use Rattle.rate_types.specs.Reading.{AnswersReading, first_or}
use Rattle.descriptor_tree.specs.Faults.{in_file, is_empty, domain_numbers, domain_faults, nodes_faults, trees_faults, config_faults}
use Rattle.descriptor_tree.specs.Numbering.{next_number}
use Rattle.descriptor_tree.proofs.Seen.{Seen, seen_more, twin_from_new}
use Rattle.descriptor_tree.proofs.Counting.{first_number, no_number, then_first, none_first}

abbrev pub Domain : Type 0
Domain = Bor (List ℕ)

abbrev pub Domains : Type 0
Domains = HashSet Domain (BuildHasherDefault FoldHasher)

abbrev pub domain_eq : Domain → Domain → Bool
domain_eq x y = bytes_eq x.now y.now

abbrev pub has_domain : List ℕ → Domain → Bool
has_domain d q = bytes_eq d q.now

pub record TreesWalked (all : List Tree) (file number : ℕ) (domains : Domains) : Type 0 where
  pub earlier : List (List ℕ)
  pub seen : Seen domain_eq has_domain domains earlier
  pub answer : first_or {X = Unit {0}} (trees_faults file earlier number (map tree_view (drop file all))) tt ≡ first_or (config_faults (map tree_view all)) tt
  pub few : number ≤ MOST_NODES

-- the facts of one step
pub record Step (domains : Domains) (all : List Tree) (i : ℕ) (tree : Tree) (k : Domain) (new : Bool) : Type 0 where
  pub within : i < length all
  pub at : tree ≡ get_or all i tree
  pub domain : k.now ≡ (tree_view tree).domain
  pub new_is : new ≡ not (contains domain_eq domains k)

-- what is left, with its first tree apart
walked_tree : (all : List Tree) (i number : ℕ) (domains : Domains) (tree : Tree) (w : TreesWalked all i number domains) → i < length all → tree ≡ get_or all i tree
    → first_or {X = Unit {0}} (trees_faults i w.earlier number (tree_view tree ∷ map tree_view (drop (i + 1) all))) tt ≡ first_or (config_faults (map tree_view all)) tt
walked_tree all i number domains tree w within is =
    let rest : drop i all ≡ tree ∷ drop (i + 1) all = rw (add-one i) (drop-cons all i tree within ∙ ap (λ (x : Tree). x ∷ drop (suc i) all) (sym is)) in
    ap (λ (ts : List Tree). first_or {X = Unit {0}} (trees_faults i w.earlier number (map tree_view ts)) tt) (sym rest) ∙ w.answer

twin_of : (all : List Tree) (i number : ℕ) (domains : Domains) (tree : Tree) (k : Domain) (new : Bool) (w : TreesWalked all i number domains) → Step domains all i tree k new
    → not new ≡ list_any (λ d. bytes_eq d (tree_view tree).domain) w.earlier
twin_of all i number domains tree k new w s = twin_from_new domain_eq has_domain domains w.earlier k new w.seen s.new_is ∙ ap (λ x. list_any (λ d. bytes_eq d x) w.earlier) s.domain

is_answer : (e : Fault At) (at : At) (read : Result (Unit {0}) At) → ((x : At) → e ≡ fault.Refused x → x ≡ at) → read ≡ Err at
    → AnswersReading {X = Unit {0}} {Y = Unit {0}} (λ u. u) (Err e) read
is_answer (fault.Refused x) at read only is = is ∙ ap Err (sym (only x refl))
is_answer fault.OutOfMemory at read only is = tt

numbers_of : (domain : List ℕ) (twin other : Bool) (found : Option ℕ) → twin ≡ other → slice_get (domain_numbers (is_empty domain) twin) 0 ≡ found
    → slice_get (domain_numbers (is_empty domain) other) 0 ≡ found
numbers_of domain twin other found same is = subst (λ (t : Bool). slice_get (domain_numbers (is_empty domain) t) 0 ≡ found) same is

-- the domain at hand is refused
pub domain_stops : (all : List Tree) (i number : ℕ) (domains : Domains) (tree : Tree) (k : Domain) (new : Bool) (w : TreesWalked all i number domains)
    → Step domains all i tree k new
    → (n : ℕ) → slice_get (domain_numbers (is_empty k.now) (not new)) 0 ≡ Some n
    → first_or {X = Unit {0}} (config_faults (map tree_view all)) tt ≡ Err (in_file i (record { at = []; number = n }))
domain_stops all i number domains tree k new w s n is =
    let mine : slice_get (domain_numbers (is_empty (tree_view tree).domain) (list_any (λ d. bytes_eq d (tree_view tree).domain) w.earlier)) 0 ≡ Some n =
    numbers_of (tree_view tree).domain _ _ (Some n) (twin_of all i number domains tree k new w s)
    (subst (λ (x : List ℕ). slice_get (domain_numbers (is_empty x) (not new)) 0 ≡ Some n) s.domain is) in
    sym (walked_tree all i number domains tree w s.within s.at)
    ∙ then_first (map (in_file i) (domain_faults w.earlier (tree_view tree) ++ nodes_faults number (tree_nodes (tree_view tree)))) _ tt tt _
    (first_number {X = Unit {0}} (domain_numbers (is_empty (tree_view tree).domain) (list_any (λ d. bytes_eq d (tree_view tree).domain) w.earlier)) n
    (λ m. record { at = []; number = m }) (in_file i) (nodes_faults number (tree_nodes (tree_view tree))) tt mine)

-- the domain at hand is right: its nodes come next
domain_passes : (all : List Tree) (i number : ℕ) (domains : Domains) (tree : Tree) (k : Domain) (new : Bool) (w : TreesWalked all i number domains) → Step domains all i tree k new
    → slice_get (domain_numbers (is_empty k.now) (not new)) 0 ≡ None
    → first_or {X = Unit {0}} (map (in_file i) (nodes_faults number (tree_nodes (tree_view tree)))
    ++ trees_faults (i + 1) ((tree_view tree).domain ∷ w.earlier) (number + length (tree_nodes (tree_view tree))) (map tree_view (drop (i + 1) all))) tt
    ≡ first_or (config_faults (map tree_view all)) tt
domain_passes all i number domains tree k new w s is =
    let mine : slice_get (domain_numbers (is_empty (tree_view tree).domain) (list_any (λ d. bytes_eq d (tree_view tree).domain) w.earlier)) 0 ≡ None =
    numbers_of (tree_view tree).domain _ _ None (twin_of all i number domains tree k new w s)
    (subst (λ (x : List ℕ). slice_get (domain_numbers (is_empty x) (not new)) 0 ≡ None) s.domain is) in
    ap (λ fs. first_or {X =
    Unit {0}} (map (in_file i) fs ++ trees_faults (i + 1) ((tree_view tree).domain ∷ w.earlier) (number + length (tree_nodes (tree_view tree)))
    (map tree_view (drop (i + 1) all))) tt)
    (sym (no_number (domain_numbers (is_empty (tree_view tree).domain) (list_any (λ d. bytes_eq d (tree_view tree).domain) w.earlier)) (λ m. record { at = []; number = m })
    (nodes_faults number (tree_nodes (tree_view tree))) mine))
    ∙ walked_tree all i number domains tree w s.within s.at

-- a node of the tree at hand is refused
pub tree_stops : (all : List Tree) (i number : ℕ) (domains : Domains) (tree : Tree) (k : Domain) (new : Bool) (w : TreesWalked all i number domains) → Step domains all i tree k new
    → slice_get (domain_numbers (is_empty k.now) (not new)) 0 ≡ None
    → (e : Fault At) → AnswersReading {X = ℕ} {Y = ℕ} (λ n. n) (Err e) (next_number i number (tree_nodes (tree_view tree)))
    → AnswersReading {X = Unit {0}} {Y = Unit {0}} (λ u. u) (Err e) (first_or (config_faults (map tree_view all)) tt)
tree_stops all i number domains tree k new w s none fault.OutOfMemory is = tt
tree_stops all i number domains tree k new w s none (fault.Refused at) is =
    sym (domain_passes all i number domains tree k new w s none)
    ∙ then_first (map (in_file i) (nodes_faults number (tree_nodes (tree_view tree)))) _ (number + length (tree_nodes (tree_view tree))) tt at is

-- the tree at hand is right
pub tree_goes_on : (all : List Tree) (i number : ℕ) (domains after : Domains) (tree : Tree) (k : Domain) (new : Bool) (w : TreesWalked all i number domains)
    → Step domains all i tree k new
    → slice_get (domain_numbers (is_empty k.now) (not new)) 0 ≡ None → Updates domain_eq domains after k true
    → (next : ℕ) → next_number i number (tree_nodes (tree_view tree)) ≡ Ok next → next ≤ MOST_NODES → TreesWalked all (i + 1) next after
tree_goes_on all i number domains after tree k new w s none updates next is few = record {
  earlier = (tree_view tree).domain ∷ w.earlier;
  seen = seen_more domain_eq has_domain domains after w.earlier k (tree_view tree).domain w.seen (λ q. ap (λ x. bytes_eq x q.now) s.domain) updates;
  answer = ap (λ fs. first_or {X = Unit {0}} (fs ++ trees_faults (i + 1) ((tree_view tree).domain ∷ w.earlier) next (map tree_view (drop (i + 1) all))) tt) (sym clean.0)
      ∙ ap (λ m. first_or {X = Unit {0}} (map (in_file i) (nodes_faults number (tree_nodes (tree_view tree)))
      ++ trees_faults (i + 1) ((tree_view tree).domain ∷ w.earlier) m (map tree_view (drop (i + 1) all))) tt) (sym clean.1)
      ∙ domain_passes all i number domains tree k new w s none;
  few = few;
}
  where
    clean : (map (in_file i) (nodes_faults number (tree_nodes (tree_view tree))) ≡ []) × (number + length (tree_nodes (tree_view tree)) ≡ next)
    clean = none_first (map (in_file i) (nodes_faults number (tree_nodes (tree_view tree)))) (number + length (tree_nodes (tree_view tree))) next is
