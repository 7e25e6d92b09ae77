-- A lawful configuration has no fault.
use Rattle.std.proofs.Common.{◌≡◌, ◌≢◌, ℕ, suc, ◌+◌, ◌≤◌, ◌<◌, ◌&&◌, ◌||◌, List, [], ◌∷◌, ◌++◌, length, map, Bool, true, false, nat_lt, nat_le, Option, Some, None, refl, sym, ap}
use Rattle.std.proofs.Common.{◌∙◌, true≢false, length-append, slice_index_or, Result, Ok, Err, arith}
use Rattle.std.specs.List.{All, list_any}
use Rattle.std.specs.Option.{option_eq}
use Rattle.std.specs.Str.{bytes_eq}
use Rattle.std.proofs.lemmas.Bool.Decides.{nat_tests}
use Rattle.std.proofs.lemmas.List.Elements.{All-nil, All-cons, All-head, All-tail}
use Rattle.std.proofs.lemmas.Slice.Eq.{bytes_eq-Decides}
use Rattle.rate_types.specs.declared.limits.TheConstants.{DEEPEST_LEVEL, MOST_NODES}
use Rattle.rate_types.specs.Reading.{IsRefusal, first_or}
use Rattle.rate_types.specs.declared.refused.At.{At}
use Rattle.rate_types.specs.declared.fault.Fault.{Fault}
use Rattle.rate_types.specs.declared.fault.Fault.TheVariants as fault
use Rattle.descriptor_tree.specs.Trees.{NodeFields, DomainTree}
use Rattle.descriptor_tree.specs.Nodes.{PlacedNode, tree_nodes, config_nodes}
use Rattle.descriptor_tree.specs.Faults.{is_empty, is_twin, node_numbers, node_faults, nodes_faults, domain_numbers, domain_faults, trees_faults, config_faults, in_file}
use Rattle.descriptor_tree.specs.Config.{IsLawfulNode, IsLawfulConfig}
use Rattle.descriptor_tree.proofs.Lawful.{Behind, All-first, All-second}

-- ---- a node

filled : (xs : List ℕ) → xs ≢ [] → is_empty xs ≡ false
filled [] some = absurd (some refl)
filled (x ∷ xs) some = refl

same_value : (v w : Option (List ℕ)) → option_eq bytes_eq v w ≡ true → v ≡ w
same_value None None is = refl
same_value None (Some w) is = absurd (true≢false (sym is))
same_value (Some v) None is = absurd (true≢false (sym is))
same_value (Some v) (Some w) is = ap (λ (x : List ℕ). Some x) ((bytes_eq-Decides v w).0 is)

no_twin : (e node : NodeFields) → (e.key ≡ node.key → e.value ≢ node.value) → is_twin e node ≡ false
no_twin e node differ = by (bytes_eq e.key node.key) refl (option_eq bytes_eq e.value node.value) refl
  where
    by : (a : Bool) → bytes_eq e.key node.key ≡ a → (b : Bool) → option_eq bytes_eq e.value node.value ≡ b → (a && b) ≡ false
    by true key true value = absurd (differ ((bytes_eq-Decides e.key node.key).0 key) (same_value e.value node.value value))
    by true key false value = refl
    by false key b value = refl

no_twins : (earlier : List NodeFields) (node : NodeFields) → All (λ e. e.key ≡ node.key → e.value ≢ node.value) earlier → list_any (λ e. is_twin e node) earlier ≡ false
no_twins [] node all = refl
no_twins (e ∷ es) node all =
    ap (λ b. b || list_any (λ x. is_twin x node) es) (no_twin e node (All-head (λ x. x.key ≡ node.key → x.value ≢ node.value) e es all))
    ∙ no_twins es node (All-tail (λ x. x.key ≡ node.key → x.value ≢ node.value) e es all)

no_numbers : (keyless twin : Bool) (level number : ℕ) → keyless ≡ false → twin ≡ false → level ≤ DEEPEST_LEVEL → number < MOST_NODES → node_numbers keyless twin level number ≡ []
no_numbers keyless twin level number keyed alone shallow few =
    let level_test : nat_lt DEEPEST_LEVEL level ≡ false = grind (arith, nat_tests) in
    let number_test : nat_le MOST_NODES number ≡ false = grind (arith, nat_tests) in
    rw (keyed, alone, level_test, number_test) refl

node_faultless : (number : ℕ) (s : PlacedNode) → IsLawfulNode s → number < MOST_NODES → node_faults number s ≡ []
node_faultless number s lawful few = ap (map (λ n. record { at = s.place; number = n }))
    (no_numbers (is_empty s.node.key) (list_any (λ e. is_twin e s.node) s.earlier) s.level number
    (filled s.node.key lawful.key_not_empty) (no_twins s.earlier s.node lawful.siblings_differ) lawful.level_bound few)

nodes_faultless : (number : ℕ) (nodes : List PlacedNode) → All IsLawfulNode nodes → number + length nodes ≤ MOST_NODES → nodes_faults number nodes ≡ []
nodes_faultless number [] all few = refl
nodes_faultless number (s ∷ more) all few =
    ap (λ fs. fs ++ nodes_faults (number + 1) more) (node_faultless number s (All-head IsLawfulNode s more all) (omega (arith, few)))
    ∙ nodes_faultless (number + 1) more (All-tail IsLawfulNode s more all) (omega (arith, few))

-- ---- trees one after the other

no_domain : (d domain : List ℕ) → d ≢ domain → bytes_eq d domain ≡ false
no_domain d domain differs = by (bytes_eq d domain) refl
  where
    by : (b : Bool) → bytes_eq d domain ≡ b → b ≡ false
    by true is = absurd (differs ((bytes_eq-Decides d domain).0 is))
    by false is = refl

no_domains : (earlier : List (List ℕ)) (domain : List ℕ) → All (λ d. d ≢ domain) earlier → list_any (λ d. bytes_eq d domain) earlier ≡ false
no_domains [] domain all = refl
no_domains (d ∷ ds) domain all =
    ap (λ b. b || list_any (λ x. bytes_eq x domain) ds) (no_domain d domain (All-head (λ x. x ≢ domain) d ds all))
    ∙ no_domains ds domain (All-tail (λ x. x ≢ domain) d ds all)

domain_numberless : (nameless twin : Bool) → nameless ≡ false → twin ≡ false → domain_numbers nameless twin ≡ []
domain_numberless nameless twin named alone = rw (named, alone) refl

domain_faultless : (earlier : List (List ℕ)) (t : DomainTree) → t.domain ≢ [] → All (λ d. d ≢ t.domain) earlier → domain_faults earlier t ≡ []
domain_faultless earlier t named apart = ap (map (λ n. record { at = []; number = n }))
    (domain_numberless (is_empty t.domain) (list_any (λ d. bytes_eq d t.domain) earlier) (filled t.domain named) (no_domains earlier t.domain apart))

-- one more domain before some trees
apart_more : (d : List ℕ) (earlier : List (List ℕ)) (trees : List DomainTree) → All (λ t. d ≢ t.domain) trees → All (λ t. All (λ x. x ≢ t.domain) earlier) trees
    → All (λ t. All (λ x. x ≢ t.domain) (d ∷ earlier)) trees
apart_more d earlier trees one others = λ k e within. All-cons (λ x. x ≢ (slice_index_or trees k e).domain) d earlier (one k e within) (others k e within)

trees_faultless : (file : ℕ) (earlier : List (List ℕ)) (number : ℕ) (trees : List DomainTree) → Behind earlier number trees → trees_faults file earlier number trees ≡ []
trees_faultless file earlier number [] b = refl
trees_faultless file earlier number (t ∷ more) b =
    ap (λ fs. map (in_file file) fs ++ trees_faults (file + 1) (t.domain ∷ earlier) (number + length (tree_nodes t)) more) own
    ∙ trees_faultless (file + 1) (t.domain ∷ earlier) (number + length (tree_nodes t)) more rest
  where
    whole : length (config_nodes (t ∷ more)) ≡ length (tree_nodes t) + length (config_nodes more)
    whole = length-append (tree_nodes t) (config_nodes more)

    own : domain_faults earlier t ++ nodes_faults number (tree_nodes t) ≡ []
    own = ap (λ fs. fs ++ nodes_faults number (tree_nodes t))
        (domain_faultless earlier t (All-head (λ u. u.domain ≢ []) t more b.named) (All-head (λ u. All (λ d. d ≢ u.domain) earlier) t more b.apart))
        ∙ nodes_faultless number (tree_nodes t) (All-first IsLawfulNode (tree_nodes t) (config_nodes more) b.nodes) (omega (arith, b.few, whole))

    rest : Behind (t.domain ∷ earlier) (number + length (tree_nodes t)) more
    rest = record {
      named = All-tail (λ u. u.domain ≢ []) t more b.named;
      apart = apart_more t.domain earlier more (λ k d within. b.differ 0 (suc k) d (omega arith) (omega (arith, within)))
          (All-tail (λ u. All (λ d. d ≢ u.domain) earlier) t more b.apart);
      differ = λ i j d below within. b.differ (suc i) (suc j) d (omega (arith, below)) (omega (arith, within));
      nodes = All-second IsLawfulNode (tree_nodes t) (config_nodes more) b.nodes;
      few = omega (arith, b.few, whole);
    }

pub lawful_is_faultless : (trees : List DomainTree) → IsLawfulConfig trees → config_faults trees ≡ []
unfolding config_faults
lawful_is_faultless trees lawful = trees_faultless 0 [] 0 trees (record {
  named = lawful.domains_not_empty;
  apart = λ k d within. All-nil (λ x. x ≢ (slice_index_or trees k d).domain);
  differ = lawful.domains_differ;
  nodes = lawful.nodes_lawful;
  few = omega (arith, lawful.nodes_few);
})

-- so what comes in its place is want of memory
pub lawful_accepted : (trees : List DomainTree) (e : Fault At) → IsLawfulConfig trees → IsRefusal {X = Unit {0}} e (first_or (config_faults trees) tt) → e ≡ fault.OutOfMemory
lawful_accepted trees fault.OutOfMemory lawful is = refl
lawful_accepted trees (fault.Refused at) lawful is = absurd (none (sym (ap (λ fs. first_or {X = Unit {0}} fs tt) (lawful_is_faultless trees lawful)) ∙ is))
  where
    none : ◌≡◌ {A = Result (Unit {0}) At} (Ok tt) (Err at) → ⊥
    none same = cc
