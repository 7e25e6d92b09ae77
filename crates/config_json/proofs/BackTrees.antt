-- What a printed node and a printed file read as.
use Rattle.std.proofs.Common.{◌≡◌, ◌≢◌, ℕ, ◌+◌, ◌≤◌, ◌||◌, List, [], ◌∷◌, length, Bool, true, false, Option, Some, None, option_map, unwrap_or, bytes_eq, codes, Result, Ok}
use Rattle.std.proofs.Common.{refl, sym, ap, ◌∙◌}
use Rattle.std.specs.List.{All, list_any}
use Rattle.std.proofs.lemmas.List.Elements.{All-head, All-tail}
use Rattle.std.proofs.lemmas.Slice.Eq.{bytes_eq-Decides}
use Rattle.rate_types.specs.Places as places
use Rattle.rate_types.specs.declared.refused.Refused.{Refused}
use Rattle.serde_json.specs.Data.{string, array, no_items, item}
use Rattle.proto_json.specs.Said.{Said, says, reading_of, ◌>>=◌}
use Rattle.proto_json.specs.Fields.{Object, take, ends, unless_null}
use Rattle.proto_json.specs.Kinds as kinds
use Rattle.proto_json.specs.Document.{json_of, json_said, document}
use Rattle.proto_json.specs.Laws.{then_read, reading_then}
use Rattle.descriptor_tree.specs.declared.policy.Policy.{Policy}
use Rattle.descriptor_tree.specs.declared.policy.Policy.TheVariants.{Limited, Unlimited}
use Rattle.descriptor_tree.specs.Config.{IsWellFormed, IsWellFormedBranch, AreWellFormed}
use Rattle.descriptor_tree.specs.Trees.{NodeFields, Branch, branch, Branches, no_branches, and_branch, DomainTree}
use Rattle.config_json.specs.Bounds.{IsSmall, IsBounded, IsBoundedBranch, AreBounded}
use Rattle.config_json.specs.FieldNames as names
use Rattle.config_json.specs.Rules.{Rule, replaces_itself, policy_kind}
use Rattle.config_json.specs.Trees.{node_at, nodes_at, nodes_in, nodes_kind, fields_with, or_none, with_branch, file_in, file_at, file}
use Rattle.config_json.specs.Printed.{members_there, text_there, true_there, list_there, rule_json, node_members, branch_json, branches_json, tree_json}
use Rattle.config_json.proofs.Chains.{ReadsAs, take_there}
use Rattle.config_json.proofs.Back.{text_back, true_back, text_reads, string_reads, true_reads}
use Rattle.config_json.proofs.BackRules.{IsNamed, name_is, rule_back}
use Rattle.config_json.proofs.Readings.{node_at_reads, node_reads}

then_ok : {X Y : Type 0} (r : Result X Refused) (v : X) (next : X → Result Y Refused) → r ≡ Ok v → then_read r next ≡ next v
then_ok r v next is = ap (λ q. then_read q next) is

-- ---- the parts of a node

itself_false : (name : Option (List ℕ)) (ns : List (List ℕ)) → All (λ n. name ≢ Some n) ns → replaces_itself name ns ≡ false
itself_false None ns all = refl
itself_false (Some name) [] all = refl
itself_false (Some name) (n ∷ ns) all = by (bytes_eq n name) refl (itself_false (Some name) ns (All-tail (λ m. Some name ≢ Some m) n ns all))
  where
    by : (b : Bool) → bytes_eq n name ≡ b → list_any (λ m. bytes_eq m name) ns ≡ false → (b || list_any (λ m. bytes_eq m name) ns) ≡ false
    by true is rest = absurd (All-head (λ m. Some name ≢ Some m) n ns all (ap (λ m. Some m) (sym ((bytes_eq-Decides n name).0 is))))
    by false is rest = rest

named_of : (node : NodeFields) → IsWellFormed node → IsBounded node → IsNamed node.name node.replaces
named_of node formed bounded = record {
  name_short = bounded.name_short;
  name_there = formed.name_not_empty;
  replaced = record { short = bounded.replaced_short; there = formed.replaced_not_empty; few = formed.replaces_few };
  others = itself_false node.name node.replaces formed.replaces_others;
}

abbrev spelled : Option Policy → Option (List ℕ) → List (List ℕ) → Option Rule
spelled p name ns = option_map (λ q. record { policy = q; name = name; replaces = ns }) p

rule_reads : (place : List ℕ) (p : Option Policy) (name : Option (List ℕ)) (ns : List (List ℕ)) → IsSmall p → IsNamed name ns
    → ReadsAs policy_kind place (option_map (λ q. rule_json q name ns) p) (spelled p name ns)
unfolding ReadsAs
rule_reads place None name ns small is = refl
rule_reads place (Some p) name ns small is = (there p, rule_back place p name ns small is)
  where
    there : (q : Policy) → unless_null [] (rule_json q name ns) ≡ Some ([], rule_json q name ns)
    there Unlimited = refl
    there (Limited limit u) = refl

abbrev below_back : Branches → Option Branches
below_back no_branches = None
below_back (and_branch b more) = Some (and_branch b more)

below_reads : (place : List ℕ) (bs : Branches) → ((at : List ℕ) → reading_of (nodes_at at 0 (branches_json bs)) ≡ Ok (Some bs))
    → ReadsAs nodes_kind place (list_there (branches_json bs)) (below_back bs)
unfolding ReadsAs kinds.and_read kinds.list
below_reads place no_branches back = refl
below_reads place (and_branch b more) back = (refl, reading_then (kinds.list place (array (branches_json (and_branch b more)))) (kinds.read_some nodes_in) ∙ back place)

text_is : (s : List ℕ) → unwrap_or (text_back s) [] ≡ s
text_is [] = refl
text_is (b ∷ bs) = refl

true_is : (b : Bool) → unwrap_or (true_back b) false ≡ b
true_is true = refl
true_is false = refl

below_is : (bs : Branches) → or_none (below_back bs) ≡ bs
below_is no_branches = refl
below_is (and_branch b more) = refl

same_fields : (node : NodeFields) (p : Option Policy) (name : Option (List ℕ)) (ns : List (List ℕ)) → p ≡ node.policy → name ≡ node.name → ns ≡ node.replaces
    → ◌≡◌ {A = NodeFields} (record { key = node.key; value = node.value; policy = p; name = name; replaces = ns; shadow = node.shadow }) node
same_fields node p name ns is_p is_name is_ns = rw (is_p, is_name, is_ns) refl

fields_is : (node : NodeFields) (p : Option Policy) → node.policy ≡ p → IsWellFormed node → fields_with node.key node.value (spelled p node.name node.replaces) node.shadow ≡ node
fields_is node None is formed = same_fields node None None [] (sym is) (sym (formed.named_by_rule is).0) (sym (formed.named_by_rule is).1)
fields_is node (Some p) is formed = same_fields node (Some p) node.name node.replaces (sym is) refl refl

-- ---- a node

node_back : (place : List ℕ) (node : NodeFields) (below : Branches) → IsWellFormed node → IsBounded node
    → ((at : List ℕ) → reading_of (nodes_at at 0 (branches_json below)) ≡ Ok (Some below))
    → reading_of (node_at place (branch_json (branch node below))) ≡ Ok (Some (branch node below))
unfolding ends ReadsAs kinds.message
node_back place node below formed bounded back =
    let d = list_there (branches_json below) in
    let k = text_there node.key in
    let r = option_map (λ q. rule_json q node.name node.replaces) node.policy in
    let s = true_there node.shadow in
    let v = option_map string node.value in
    let f1 = take_there (kinds.short_text 18) place (codes "key") (codes "key")
    ((codes "descriptors", d) ∷ (codes "key", k) ∷ (codes "rateLimit", r) ∷ (codes "shadowMode", s) ∷ (codes "value", v) ∷ []) (text_back node.key) refl refl
    (text_reads (places.child place (codes "key")) node.key bounded.key_short) in
    let f2 = take_there (kinds.short_text 18) place (codes "value") (codes "value")
    ((codes "descriptors", d) ∷ (codes "key", None) ∷ (codes "rateLimit", r) ∷ (codes "shadowMode", s) ∷ (codes "value", v) ∷ []) node.value refl refl
    (string_reads (places.child place (codes "value")) node.value bounded.value_short) in
    let f3 = take_there policy_kind place (codes "rateLimit") (codes "rate_limit")
    ((codes "descriptors", d) ∷ (codes "key", None) ∷ (codes "rateLimit", r) ∷ (codes "shadowMode", s) ∷ (codes "value", None) ∷ [])
    (spelled node.policy node.name node.replaces) refl refl
    (rule_reads (places.child place (codes "rateLimit")) node.policy node.name node.replaces bounded.limit_small (named_of node formed bounded)) in
    let f4 = take_there kinds.bool place (codes "shadowMode") (codes "shadow_mode")
    ((codes "descriptors", d) ∷ (codes "key", None) ∷ (codes "rateLimit", None) ∷ (codes "shadowMode", s) ∷ (codes "value", None) ∷ []) (true_back node.shadow) refl refl
    (true_reads (places.child place (codes "shadowMode")) node.shadow) in
    let f5 = take_there kinds.bool place (codes "detailedMetric") (codes "detailed_metric")
    ((codes "descriptors", d) ∷ (codes "key", None) ∷ (codes "rateLimit", None) ∷ (codes "shadowMode", None) ∷ (codes "value", None) ∷ []) None refl refl refl in
    let f6 = take_there nodes_kind place (codes "descriptors") (codes "descriptors")
    ((codes "descriptors", d) ∷ (codes "key", None) ∷ (codes "rateLimit", None) ∷ (codes "shadowMode", None) ∷ (codes "value", None) ∷ []) (below_back below) refl refl
    (below_reads (places.child place (codes "descriptors")) below back) in
    node_at_reads place (branch_json (branch node below))
    ∙ node_reads (record { place = place; members = members_there (node_members node d) })
    ∙ rw (f1, f2, f3, f4, f5, f6) (rw (
      text_is node.key,
      name_is node.value formed.value_not_empty,
      true_is node.shadow,
      below_is below,
      fields_is node node.policy refl formed,
    ) refl)

none_back : (place : List ℕ) (index : ℕ) → reading_of (nodes_at place index no_items) ≡ Ok (Some no_branches)
unfolding nodes_at
none_back place index = refl

more_back : (place : List ℕ) (index : ℕ) (b : Branch) (more : Branches) → reading_of (node_at (places.item place index) (branch_json b)) ≡ Ok (Some b)
    → reading_of (nodes_at place (index + 1) (branches_json more)) ≡ Ok (Some more)
    → reading_of (nodes_at place index (item (branch_json b) (branches_json more))) ≡ Ok (Some (and_branch b more))
unfolding nodes_at
more_back place index b more first others =
    reading_then (node_at (places.item place index) (branch_json b)) rest
    ∙ then_ok _ (Some b) (λ x. reading_of (rest x)) first
    ∙ reading_then (nodes_at place (index + 1) (branches_json more)) (λ xs. says (with_branch (Some b) xs))
    ∙ then_ok _ (Some more) (λ xs. Ok (with_branch (Some b) xs)) others
  where
    rest : Option Branch → Said (Option Branches)
    rest x = nodes_at place (index + 1) (branches_json more) >>= λ xs. says (with_branch x xs)

mutual
  branch_back : (place : List ℕ) (b : Branch) → IsWellFormedBranch b → IsBoundedBranch b → reading_of (node_at place (branch_json b)) ≡ Ok (Some b)
  branch_back place (branch node below) formed bounded = node_back place node below formed.0 bounded.0 (λ at. branches_back at 0 below formed.1 bounded.1)

  branches_back : (place : List ℕ) (index : ℕ) (bs : Branches) → AreWellFormed bs → AreBounded bs → reading_of (nodes_at place index (branches_json bs)) ≡ Ok (Some bs)
  branches_back place index no_branches formed bounded = none_back place index
  branches_back place index (and_branch b more) formed bounded =
      more_back place index b more (branch_back (places.item place index) b formed.0 bounded.0) (branches_back place (index + 1) more formed.1 bounded.1)

-- ---- a file

file_reads : (o : Object) → reading_of (file_in o) ≡ then_read (reading_of (take (kinds.short_text 18) names.name o)) (λ n.
    then_read (reading_of (take (kinds.short_text 18) names.domain n.1)) (λ d.
    then_read (reading_of (take nodes_kind names.descriptors d.1)) (λ b.
    then_read (reading_of (ends b.1)) (λ place. Ok (Some (record { domain = unwrap_or d.0 []; forest = or_none b.0 }))))))
unfolding file_in
file_reads o = simp reading_then

pub tree_back : (t : DomainTree) → length t.domain ≤ 1024 → AreWellFormed t.forest → AreBounded t.forest → reading_of (file_at [] (tree_json t)) ≡ Ok (Some t)
unfolding file_at tree_json ends ReadsAs kinds.message
tree_back t short formed bounded =
    let b = list_there (branches_json t.forest) in
    let f1 = take_there (kinds.short_text 18) [] (codes "name") (codes "name") ((codes "descriptors", b) ∷ (codes "domain", text_there t.domain) ∷ []) None refl refl refl in
    let f2 = take_there (kinds.short_text 18) [] (codes "domain") (codes "domain") ((codes "descriptors", b) ∷ (codes "domain", text_there t.domain) ∷ [])
    (text_back t.domain) refl refl (text_reads (places.child [] (codes "domain")) t.domain short) in
    let f3 = take_there nodes_kind [] (codes "descriptors") (codes "descriptors") ((codes "descriptors", b) ∷ (codes "domain", None) ∷ []) (below_back t.forest) refl refl
    (below_reads (places.child [] (codes "descriptors")) t.forest (λ at. branches_back at 0 t.forest formed bounded)) in
    reading_then (kinds.message [] (tree_json t)) (kinds.read_some file_in)
    ∙ file_reads (record { place = []; members = members_there ((codes "descriptors", b) ∷ (codes "domain", text_there t.domain) ∷ []) })
    ∙ rw (f1, f2, f3) (rw (text_is t.domain, below_is t.forest) refl)

-- a file whose bytes are the printed form
pub file_back : (bytes : List ℕ) (t : DomainTree) → json_of bytes ≡ Some (tree_json t) → reading_of (file_at [] (tree_json t)) ≡ Ok (Some t)
    → reading_of (file bytes) ≡ Ok (Some t)
unfolding file document
file_back bytes t is back = reading_then (document bytes) (kinds.read_some (file_at []))
    ∙ ap (λ o. then_read (reading_of (json_said o)) (λ d. reading_of (kinds.read_some (file_at []) d))) is ∙ back
