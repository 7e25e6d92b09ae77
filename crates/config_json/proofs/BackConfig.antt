-- A lawful configuration is printed to texts that nest no deeper than is read, and read back as it is.
use Rattle.std.proofs.Common.{◌≡◌, ℕ, zero, suc, String, Global, string_bytes, ◌+◌, ◌*◌, ◌≤◌, ◌<◌, max, Bool, true, false, codes, List, [], ◌∷◌, ◌++◌, map, length, take, get_or}
use Rattle.std.proofs.Common.{Option, Some, None, option_map, Ok, refl, sym, ap, subst, ◌∙◌, add-one, append_assoc, arith}
use Rattle.std.specs.Prelude.{⊤}
use Rattle.std.specs.List.{All}
use Rattle.std.proofs.Math.Seq.{take-suc}
use Rattle.std.proofs.lemmas.List.{map_push}
use Rattle.std.proofs.lemmas.List.Elements.{All-nil, All-cons, All-head, All-tail}
use Rattle.std.specs.Str.{IsUtf8}
use Rattle.std.proofs.lemmas.Str.{is_utf8-from_IsUtf8}
use Rattle.serde_json.specs.Data.{Data, boolean, string, array, Items, no_items, item, Members, depth, items_depth, members_depth}
use Rattle.serde_json.specs.Read.{read}
use Rattle.serde_json.specs.Written.{compact_text}
use Rattle.proto_json.specs.Document.{json_of}
use Rattle.proto_json.specs.Said.{reading_of}
use Rattle.descriptor_tree.specs.declared.policy.Policy.{Policy}
use Rattle.descriptor_tree.specs.declared.policy.Policy.TheVariants.{Limited, Unlimited}
use Rattle.descriptor_tree.specs.declared.tree.Tree.{Tree}
use Rattle.descriptor_tree.specs.Trees.{NodeFields, Branch, branch, Branches, no_branches, and_branch, fields_of, DomainTree, tree_view}
use Rattle.descriptor_tree.specs.Nodes.{branch_nodes, forest_nodes, tree_nodes, config_nodes}
use Rattle.descriptor_tree.specs.Config.{IsWellFormed, IsWellFormedBranch, AreWellFormed, IsLawfulNode, IsLawfulConfig}
use Rattle.rate_types.specs.Reading.{first_or}
use Rattle.descriptor_tree.specs.Faults.{config_faults}
use Rattle.rate_types.specs.declared.unit.Unit.{Unit}
use Rattle.rate_types.specs.declared.unit.Unit.TheVariants.{Second, Minute, Hour, Day}
use Rattle.config_json.specs.Printed.{and_member, members_there, text_there, number_there, true_there, list_there, names_json, unit_json, rule_json, node_members, branch_json}
use Rattle.config_json.specs.Printed.{branches_json, tree_json}
use Rattle.config_json.specs.Trees.{file}
use Rattle.config_json.specs.Reading as files
use Rattle.config_json.proofs.Chains.{Chain}
use Rattle.config_json.proofs.Printing.{texts_push}
use Rattle.config_json.proofs.Files.{behind, behind_more, reading_of_trees}

-- ---- levels

abbrev mutual
  levels_of : Branch → ℕ
  levels_of (branch node below) = suc (levels below)

  levels : Branches → ℕ
  levels no_branches = 0
  levels (and_branch b more) = max (levels_of b) (levels more)

All-first : {X : Type 0} (P : X → Type 0) (xs ys : List X) → All P (xs ++ ys) → All P xs
All-first P [] ys all = All-nil P
All-first P (x ∷ xs) ys all = All-cons P x xs (All-head P x (xs ++ ys) all) (All-first P xs ys (All-tail P x (xs ++ ys) all))

All-second : {X : Type 0} (P : X → Type 0) (xs ys : List X) → All P (xs ++ ys) → All P ys
All-second P [] ys all = all
All-second P (x ∷ xs) ys all = All-second P xs ys (All-tail P x (xs ++ ys) all)

mutual
  branch_formed : (place : List ℕ) (level : ℕ) (earlier : List NodeFields) (b : Branch) → All IsLawfulNode (branch_nodes place level earlier b) → IsWellFormedBranch b
      × (level + levels_of b ≤ 33)
  branch_formed place level earlier (branch node below) all =
      let here : IsLawfulNode (record { place = place; level = level; earlier = earlier; node = node }) = All-head IsLawfulNode _ _ all in
      let rest = forest_formed _ (level + 1) 0 [] below (All-tail IsLawfulNode _ _ all) in
      ((here.well_formed, rest.0), omega (arith, here.level_bound, rest.1))

  forest_formed : (place : List ℕ) (level index : ℕ) (earlier : List NodeFields) (bs : Branches) → All IsLawfulNode (forest_nodes place level index earlier bs)
      → AreWellFormed bs × (level ≤ 33 → level + levels bs ≤ 33)
  forest_formed place level index earlier no_branches all = (tt, λ h. omega arith)
  forest_formed place level index earlier (and_branch b more) all =
      let one = branch_formed _ level earlier b (All-first IsLawfulNode _ (forest_nodes place level (index + 1) (fields_of b ∷ earlier) more) all) in
      let rest = forest_formed place level (index + 1) (fields_of b ∷ earlier) more (All-second IsLawfulNode (branch_nodes _ level earlier b) _ all) in
      ((one.0, rest.0), λ h. omega (arith, one.1, rest.1 h))

-- ---- depth

shallow : (name : List ℕ) (o : Option Data) (more : Members) (n : ℕ) → ((d : Data) → o ≡ Some d → depth d ≤ n) → members_depth more ≤ n
    → members_depth (and_member name o more) ≤ n
shallow name None more n here rest = rest
shallow name (Some d) more n here rest = omega (arith, here d refl, rest)

abbrev AllShallow : ℕ → Chain → Type 0
AllShallow n [] = ⊤
AllShallow n (m ∷ more) = ((d : Data) → m.1 ≡ Some d → depth d ≤ n) × AllShallow n more

all_shallow : (ms : Chain) (n : ℕ) → AllShallow n ms → members_depth (members_there ms) ≤ n
all_shallow [] n all = omega arith
all_shallow (m ∷ more) n all = shallow m.0 m.1 (members_there more) n all.0 (all_shallow more n all.1)

text_shallow : (s : List ℕ) (n : ℕ) (d : Data) → text_there s ≡ Some d → depth d ≤ n
text_shallow [] n d is = cc
text_shallow (b ∷ bs) n d is = subst (λ (x : Data). depth x ≤ n) same (omega arith)
  where
    same : string (b ∷ bs) ≡ d
    same = cc

depth_of : (e d : Data) (n : ℕ) → ◌≡◌ {A = Option Data} (Some e) (Some d) → depth e ≤ n → depth d ≤ n
depth_of e d n is small = subst (λ (x : Data). depth x ≤ n) same small
  where
    same : e ≡ d
    same = cc

string_shallow : (o : Option (List ℕ)) (n : ℕ) (d : Data) → option_map string o ≡ Some d → depth d ≤ n
string_shallow None n d is = cc
string_shallow (Some s) n d is = depth_of (string s) d n is (omega arith)

list_shallow : (ds : Items) (n : ℕ) (d : Data) → list_there ds ≡ Some d → suc (items_depth ds) ≤ n → depth d ≤ n
list_shallow no_items n d is small = cc
list_shallow (item e ds) n d is small = depth_of (array (item e ds)) d n is small

number_shallow : (k n : ℕ) (d : Data) → number_there k ≡ Some d → depth d ≤ n
number_shallow zero n d is = cc
number_shallow (suc k) n d is = depth_of _ d n is (omega arith)

true_shallow : (b : Bool) (n : ℕ) (d : Data) → true_there b ≡ Some d → depth d ≤ n
true_shallow true n d is = depth_of _ d n is (omega arith)
true_shallow false n d is = cc

names_shallow : (ns : List (List ℕ)) → items_depth (names_json ns) ≤ 1
names_shallow [] = omega arith
names_shallow (n ∷ ns) = omega (arith, names_shallow ns)

unit_shallow : (u : Unit) (n : ℕ) (d : Data) → Some (unit_json u) ≡ Some d → depth d ≤ n
unit_shallow Second n d is = depth_of _ d n is (omega arith)
unit_shallow Minute n d is = depth_of _ d n is (omega arith)
unit_shallow Hour n d is = depth_of _ d n is (omega arith)
unit_shallow Day n d is = depth_of _ d n is (omega arith)

rule_shallow : (p : Policy) (name : Option (List ℕ)) (ns : List (List ℕ)) → depth (rule_json p name ns) ≤ 3
rule_shallow (Limited limit u) name ns =
    let ms : Chain = (codes "name", option_map string name) ∷ (codes "replaces", list_there (names_json ns)) ∷ (codes "requestsPerUnit", number_there limit) ∷
    (codes "unit", Some (unit_json u)) ∷ [] in
    let small : members_depth (members_there ms) ≤ 2 =
    all_shallow ms 2 (string_shallow name 2, (λ d is. list_shallow (names_json ns) 2 d is (omega (arith, names_shallow ns)), (number_shallow limit 2, (unit_shallow u 2, tt)))) in
    omega (arith, small)
rule_shallow Unlimited name ns =
    let ms : Chain = (codes "name", option_map string name) ∷ (codes "replaces", list_there (names_json ns)) ∷ (codes "unlimited", Some (boolean true)) ∷ [] in
    let small : members_depth (members_there ms) ≤ 2 =
    all_shallow ms 2 (
      string_shallow name 2,
      (
        λ d is. list_shallow (names_json ns) 2 d is (omega (arith, names_shallow ns)),
        (λ d is. depth_of (boolean true) d 2 is (omega arith), tt),
      ),
    ) in
    omega (arith, small)

rule_there_shallow : (p : Option Policy) (name : Option (List ℕ)) (ns : List (List ℕ)) (n : ℕ) (d : Data) → 3 ≤ n → option_map (λ q. rule_json q name ns) p ≡ Some d → depth d ≤ n
rule_there_shallow None name ns n d small is = cc
rule_there_shallow (Some p) name ns n d small is = depth_of (rule_json p name ns) d n is (omega (arith, rule_shallow p name ns))

mutual
  branch_shallow : (b : Branch) → depth (branch_json b) ≤ 2 * levels_of b + 2
  branch_shallow (branch node below) =
      let small : members_depth (members_there (node_members node (list_there (branches_json below)))) ≤ 2 * levels below + 3 =
      all_shallow (node_members node (list_there (branches_json below))) (2 * levels below + 3) (
        λ d is. list_shallow (branches_json below) (2 * levels below + 3) d is (omega (arith, branches_shallow below)),
        (
          text_shallow node.key (2 * levels below + 3),
          (
            λ d is. rule_there_shallow node.policy node.name node.replaces (2 * levels below + 3) d (omega arith) is,
            (true_shallow node.shadow (2 * levels below + 3), (string_shallow node.value (2 * levels below + 3), tt)),
          ),
        ),
      ) in
      omega (arith, small)

  branches_shallow : (bs : Branches) → items_depth (branches_json bs) ≤ 2 * levels bs + 2
  branches_shallow no_branches = omega arith
  branches_shallow (and_branch b more) = omega (arith, branch_shallow b, branches_shallow more)

tree_shallow : (t : DomainTree) → levels t.forest ≤ 32 → depth (tree_json t) ≤ 127
unfolding tree_json
tree_shallow t few =
    let ms : Chain = (codes "descriptors", list_there (branches_json t.forest)) ∷ (codes "domain", text_there t.domain) ∷ [] in
    let small : members_depth (members_there ms) ≤ 100 =
    all_shallow ms 100 (λ d is. list_shallow (branches_json t.forest) 100 d is (omega (arith, branches_shallow t.forest)), (text_shallow t.domain 100, tt)) in
    omega (arith, small)

-- ---- a tree of a lawful configuration

-- what printing asks of a tree
pub tree_formed : (trees : List Tree) (i : ℕ) (tree : Tree) → All IsLawfulNode (config_nodes (map tree_view trees)) → i < length trees → tree ≡ get_or trees i tree
    → AreWellFormed (tree_view tree).forest × (depth (tree_json (tree_view tree)) ≤ 127)
tree_formed [] i tree all within is = absurd (omega arith)
tree_formed (t ∷ trees) zero tree all within is = subst (λ (u : Tree). AreWellFormed (tree_view u).forest
    × (depth (tree_json (tree_view u)) ≤ 127)) (sym is) (facts.0, tree_shallow (tree_view t) (omega (arith, facts.1)))
  where
    both : AreWellFormed (tree_view t).forest × (1 ≤ 33 → 1 + levels (tree_view t).forest ≤ 33)
    both = forest_formed _ 1 0 [] (tree_view t).forest (All-first IsLawfulNode (tree_nodes (tree_view t)) (config_nodes (map tree_view trees)) all)

    facts : AreWellFormed (tree_view t).forest × (1 + levels (tree_view t).forest ≤ 33)
    facts = (both.0, both.1 (omega arith))
tree_formed (t ∷ trees) (suc i) tree all within is =
    tree_formed trees i tree (All-second IsLawfulNode (tree_nodes (tree_view t)) (config_nodes (map tree_view trees)) all) (omega arith) is

pub json_back : (bytes : List ℕ) (d : Data) → IsUtf8 bytes → read bytes ≡ Some d → json_of bytes ≡ Some d
unfolding json_of
json_back bytes d utf8 is = rw (is_utf8-from_IsUtf8 bytes utf8) is

-- ---- texts that read as trees, one by one

abbrev pub AllRead : List (List ℕ) → List DomainTree → Type 0
AllRead [] [] = ⊤
AllRead [] (t ∷ ts) = ⊥
AllRead (x ∷ xs) [] = ⊥
AllRead (x ∷ xs) (t ∷ ts) = (reading_of (file x) ≡ Ok (Some t)) × AllRead xs ts

pub read_push : (xs : List (List ℕ)) (ts : List DomainTree) (x : List ℕ) (t : DomainTree) → AllRead xs ts → reading_of (file x) ≡ Ok (Some t)
    → AllRead (xs ++ x ∷ []) (ts ++ t ∷ [])
read_push [] [] x t all is = (is, tt)
read_push [] (u ∷ ts) x t all is = absurd all
read_push (y ∷ xs) [] x t all is = absurd all
read_push (y ∷ xs) (u ∷ ts) x t all is = (all.0, read_push xs ts x t all.1 is)

behind_all : (front : List DomainTree) (index : ℕ) (xs : List (List ℕ)) (ts : List DomainTree) → AllRead xs ts → behind front index xs ≡ Ok (front ++ ts)
behind_all front index [] [] all = refl
behind_all front index [] (t ∷ ts) all = absurd all
behind_all front index (x ∷ xs) [] all = absurd all
behind_all front index (x ∷ xs) (t ∷ ts) all = behind_more front index x xs t all.0 ∙ behind_all (front ++ t ∷ []) (index + 1) xs ts all.1
    ∙ ap (λ us. Ok us) (append_assoc front (t ∷ []) ts)

-- texts that read as trees without a fault read as these trees
pub reading_back : (xs : List (List ℕ)) (ts : List DomainTree) → AllRead xs ts → config_faults ts ≡ [] → files.reading_of xs ≡ Ok ts
reading_back xs ts all none = reading_of_trees xs ts (behind_all [] 0 xs ts all) ∙ ap (λ fs. first_or fs ts) none

-- the nodes of a lawful configuration
pub all_of : (ts us : List DomainTree) → ts ≡ us → IsLawfulConfig us → All IsLawfulNode (config_nodes ts)
all_of ts us same lawful = subst (λ (xs : List DomainTree). All IsLawfulNode (config_nodes xs)) (sym same) lawful.nodes_lawful

-- one more text is printed
pub texts_more : (texts after : List (String Global)) (text : String Global) (trees : List Tree) (i : ℕ) (tree : Tree)
    → map string_bytes texts ≡ map (λ t. compact_text (tree_json t)) (map tree_view (take i trees)) → AllRead (map string_bytes texts) (map tree_view (take i trees))
    → string_bytes text ≡ compact_text (tree_json (tree_view tree)) → reading_of (file (string_bytes text)) ≡ Ok (Some (tree_view tree)) → after ≡ texts ++ text ∷ []
    → i < length trees → tree ≡ get_or trees i tree
    → (map string_bytes after ≡ map (λ t. compact_text (tree_json t)) (map tree_view (take (i + 1) trees)))
    × AllRead (map string_bytes after) (map tree_view (take (i + 1) trees))
texts_more texts after text trees i tree printed reads here back pushed within at =
    let bytes : map string_bytes after ≡ map string_bytes texts ++ string_bytes text ∷ [] = ap (map string_bytes) pushed ∙ map_push string_bytes texts text in
    let more : take (i + 1) trees ≡ take i trees ++ tree ∷ [] = rw (add-one i) (take-suc trees i tree within ∙ ap (λ (x : Tree). take i trees ++ x ∷ []) (sym at)) in
    let seen : map tree_view (take (i + 1) trees) ≡ map tree_view (take i trees) ++ tree_view tree ∷ [] = ap (map tree_view) more ∙ map_push tree_view (take i trees) tree in (
      bytes ∙ texts_push (map string_bytes texts) (string_bytes text) trees i tree (λ t. compact_text (tree_json t)) printed here within at,
      subst (λ (ts : List DomainTree). AllRead (map string_bytes after) ts) (sym seen) (subst
          (λ (xs : List (List ℕ)). AllRead xs (map tree_view (take i trees) ++ tree_view tree ∷ [])) (sym bytes)
          (read_push (map string_bytes texts) (map tree_view (take i trees)) (string_bytes text) (tree_view tree) reads back)),
    )
