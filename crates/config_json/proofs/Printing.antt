-- Values that are built member by member.
use Rattle.std.proofs.Common.{◌≡◌, ℕ, ◌+◌, ◌≤◌, ◌==◌, List, [], ◌∷◌, ◌++◌, map, length, take, ◌<◌, add-one, get_or, false, Option, Some, None, codes, Less, nat_cmp, true≢false}
use Rattle.std.proofs.Common.{refl, sym, ap, subst, ◌∙◌}
use Rattle.std.specs.Cmp.Lexicographic.{slice_cmp}
use Rattle.serde_json.specs.Data.{Data, array, string, object, Items, no_items, item, Members, no_members, member}
use Rattle.serde_json.specs.View.{view, items_view}
use Rattle.serde_json.specs.declared.value.Value.{Value}
use Rattle.descriptor_tree.specs.Trees.{Branch, branches_of, node_view, DomainTree, tree_view}
use Rattle.descriptor_tree.specs.declared.node.Node.{Node}
use Rattle.descriptor_tree.specs.declared.tree.Tree.{Tree}
use Rattle.std.proofs.Math.Seq.{take-suc}
use Rattle.std.proofs.lemmas.List.{map_push}
use Rattle.std.specs.List.{All}
use Rattle.std.proofs.lemmas.List.Elements.{All-push}
use Rattle.config_json.specs.Bounds.{IsBoundedBranch, AreBounded}
use Rattle.config_json.specs.Put.{put_there}
use Rattle.config_json.specs.Printed.{and_member, members_there, list_there, names_json, branch_json, branches_json}

pub some_array : (vs : List Value) (n : ℕ) → n ≡ length vs → (n == 0) ≡ false → Some (array (items_view vs)) ≡ list_there (items_view vs)
some_array [] n is not_zero = absurd (true≢false (subst (λ (m : ℕ). (m == 0) ≡ false) is not_zero))
some_array (v ∷ vs) n is not_zero = refl

-- ---- members that are put from the last name to the first

-- a name that stands before all of these
abbrev Below : List ℕ → List (List ℕ × Option Data) → Type 0
Below name [] = Unit {0}
Below name (m ∷ more) = (slice_cmp nat_cmp name m.0 ≡ Less) × Below name more

below_member : (name k : List ℕ) (o : Option Data) (more : Members) (d : Data) → slice_cmp nat_cmp name k ≡ Less → put_there name (Some d) more ≡ member name d more
    → put_there name (Some d) (and_member k o more) ≡ member name d (and_member k o more)
below_member name k None more d less rest = rest
below_member name k (Some e) more d less rest = rw less refl

put_first_some : (name : List ℕ) (d : Data) (ms : List (List ℕ × Option Data)) → Below name ms → put_there name (Some d) (members_there ms) ≡ member name d (members_there ms)
put_first_some name d [] below = refl
put_first_some name d (m ∷ more) below = below_member name m.0 m.1 (members_there more) d below.0 (put_first_some name d more below.1)

put_first : (name : List ℕ) (o : Option Data) (ms : List (List ℕ × Option Data)) → Below name ms → put_there name o (members_there ms) ≡ and_member name o (members_there ms)
put_first name None ms below = refl
put_first name (Some d) ms below = put_first_some name d ms below

-- two members, and three, and so on up to five
pub put_two : (a b : List ℕ) (x y : Option Data) → Below a ((b, y) ∷ []) → put_there a x (put_there b y no_members) ≡ members_there ((a, x) ∷ (b, y) ∷ [])
put_two a b x y below = ap (put_there a x) (put_first b y [] tt) ∙ put_first a x ((b, y) ∷ []) below

pub put_three : (a b c : List ℕ) (x y z : Option Data) → Below a ((b, y) ∷ (c, z) ∷ []) → Below b ((c, z) ∷ [])
    → put_there a x (put_there b y (put_there c z no_members)) ≡ members_there ((a, x) ∷ (b, y) ∷ (c, z) ∷ [])
put_three a b c x y z first second = ap (put_there a x) (put_two b c y z second) ∙ put_first a x ((b, y) ∷ (c, z) ∷ []) first

pub put_four : (a b c d : List ℕ) (x y z w : Option Data) → Below a ((b, y) ∷ (c, z) ∷ (d, w) ∷ []) → Below b ((c, z) ∷ (d, w) ∷ []) → Below c ((d, w) ∷ [])
    → put_there a x (put_there b y (put_there c z (put_there d w no_members))) ≡ members_there ((a, x) ∷ (b, y) ∷ (c, z) ∷ (d, w) ∷ [])
put_four a b c d x y z w first second third = ap (put_there a x) (put_three b c d y z w second third) ∙ put_first a x ((b, y) ∷ (c, z) ∷ (d, w) ∷ []) first

-- ---- the objects of a configuration

pub put_name : (x : Option Data) → put_there (codes "name") x no_members ≡ members_there ((codes "name", x) ∷ [])
put_name x = put_first (codes "name") x [] tt

pub put_file : (x y : Option Data)
    → put_there (codes "descriptors") x (put_there (codes "domain") y no_members) ≡ members_there ((codes "descriptors", x) ∷ (codes "domain", y) ∷ [])
put_file x y = put_two (codes "descriptors") (codes "domain") x y (refl, tt)

pub put_limited : (x y z w : Option Data)
    → put_there (codes "name") x (put_there (codes "replaces") y (put_there (codes "requestsPerUnit") z (put_there (codes "unit") w no_members)))
    ≡ members_there ((codes "name", x) ∷ (codes "replaces", y) ∷ (codes "requestsPerUnit", z) ∷ (codes "unit", w) ∷ [])
put_limited x y z w = put_four (codes "name") (codes "replaces") (codes "requestsPerUnit") (codes "unit") x y z w (refl, (refl, (refl, tt))) (refl, (refl, tt)) (refl, tt)

pub put_unlimited : (x y z : Option Data) → put_there (codes "name") x (put_there (codes "replaces") y (put_there (codes "unlimited") z no_members))
    ≡ members_there ((codes "name", x) ∷ (codes "replaces", y) ∷ (codes "unlimited", z) ∷ [])
put_unlimited x y z = put_three (codes "name") (codes "replaces") (codes "unlimited") x y z (refl, (refl, tt)) (refl, tt)

pub put_node : (x y z w v : Option Data)
    → put_there (codes "descriptors") x (put_there (codes "key") y (put_there (codes "rateLimit") z (put_there (codes "shadowMode") w (put_there (codes "value") v no_members))))
    ≡ members_there ((codes "descriptors", x) ∷ (codes "key", y) ∷ (codes "rateLimit", z) ∷ (codes "shadowMode", w) ∷ (codes "value", v) ∷ [])
put_node x y z w v =
    ap (put_there (codes "descriptors") x) (put_four (codes "key") (codes "rateLimit") (codes "shadowMode") (codes "value") y z w v (refl, (refl, (refl, tt))) (refl, (refl, tt))
    (refl, tt))
    ∙ put_first (codes "descriptors") x ((codes "key", y) ∷ (codes "rateLimit", z) ∷ (codes "shadowMode", w) ∷ (codes "value", v) ∷ []) (refl, (refl, (refl, (refl, tt))))

-- ---- lists that grow at their end

behind : Items → Data → Items
behind no_items e = item e no_items
behind (item d ds) e = item d (behind ds e)

items_push : (vs : List Value) (v : Value) → items_view (vs ++ v ∷ []) ≡ behind (items_view vs) (view v)
unfolding behind
items_push [] v = refl
items_push (w ∷ vs) v = ap (item (view w)) (items_push vs v)

branches_push : (bs : List Branch) (b : Branch) → branches_json (branches_of (bs ++ b ∷ [])) ≡ behind (branches_json (branches_of bs)) (branch_json b)
unfolding behind
branches_push [] b = refl
branches_push (a ∷ bs) b = ap (item (branch_json a)) (branches_push bs b)

-- one more node of a level is printed
pub nodes_push : (vs : List Value) (v : Value) (nodes : List Node) (i : ℕ) (node : Node) → items_view vs ≡ branches_json (branches_of (map node_view (take i nodes)))
    → view v ≡ branch_json (node_view node)
    → i < length nodes → node ≡ get_or nodes i node → items_view (vs ++ v ∷ []) ≡ branches_json (branches_of (map node_view (take (i + 1) nodes)))
nodes_push vs v nodes i node so_far here within at =
    let more : take (i + 1) nodes ≡ take i nodes ++ node ∷ [] = rw (add-one i) (take-suc nodes i node within ∙ ap (λ (x : Node). take i nodes ++ x ∷ []) (sym at)) in
    items_push vs v
    ∙ ap (λ ds. behind ds (view v)) so_far ∙ ap (behind (branches_json (branches_of (map node_view (take i nodes))))) here
    ∙ sym (branches_push (map node_view (take i nodes)) (node_view node))
    ∙ ap (λ (bs : List Branch). branches_json (branches_of bs)) (sym (map_push node_view (take i nodes) node))
    ∙ ap (λ (ns : List Node). branches_json (branches_of (map node_view ns))) (sym more)

names_behind : (ns : List (List ℕ)) (n : List ℕ) → names_json (ns ++ n ∷ []) ≡ behind (names_json ns) (object (members_there ((codes "name", Some (string n)) ∷ [])))
unfolding behind
names_behind [] n = refl
names_behind (m ∷ ns) n = ap (item (object (members_there ((codes "name", Some (string m)) ∷ [])))) (names_behind ns n)

-- one more replaced name is printed
pub names_push : (vs : List Value) (v : Value) (names : List (List ℕ)) (i : ℕ) (name : List ℕ) → items_view vs ≡ names_json (take i names)
    → view v ≡ object (members_there ((codes "name", Some (string name)) ∷ []))
    → i < length names → name ≡ get_or names i name → items_view (vs ++ v ∷ []) ≡ names_json (take (i + 1) names)
names_push vs v names i name so_far here within at =
    let more : take (i + 1) names ≡ take i names ++ name ∷ [] = rw (add-one i) (take-suc names i name within ∙ ap (λ (x : List ℕ). take i names ++ x ∷ []) (sym at)) in
    items_push vs v
    ∙ ap (λ ds. behind ds (view v)) so_far ∙ ap (behind (names_json (take i names))) here
    ∙ sym (names_behind (take i names) name)
    ∙ ap names_json (sym more)

-- one more tree is printed
pub texts_push : (texts : List (List ℕ)) (text : List ℕ) (trees : List Tree) (i : ℕ) (tree : Tree) (print : DomainTree → List ℕ)
    → texts ≡ map print (map tree_view (take i trees)) → text ≡ print (tree_view tree)
    → i < length trees → tree ≡ get_or trees i tree → texts ++ text ∷ [] ≡ map print (map tree_view (take (i + 1) trees))
texts_push texts text trees i tree print so_far here within at =
    let more : take (i + 1) trees ≡ take i trees ++ tree ∷ [] = rw (add-one i) (take-suc trees i tree within ∙ ap (λ (x : Tree). take i trees ++ x ∷ []) (sym at)) in
    ap (λ ts. ts ++ text ∷ []) so_far ∙ ap (λ x. map print (map tree_view (take i trees)) ++ x ∷ []) here
    ∙ sym (ap (map print) (map_push tree_view (take i trees) tree) ∙ map_push print (map tree_view (take i trees)) (tree_view tree))
    ∙ ap (λ (ts : List Tree). map print (map tree_view ts)) (sym more)

bounded_last : (bs : List Branch) (b : Branch) → AreBounded (branches_of bs) → IsBoundedBranch b → AreBounded (branches_of (bs ++ b ∷ []))
bounded_last [] b front last = (last, tt)
bounded_last (x ∷ bs) b front last = (front.0, bounded_last bs b front.1 last)

-- nodes within their bounds, and one more
pub bounded_push : (nodes : List Node) (i : ℕ) (node : Node) → AreBounded (branches_of (map node_view (take i nodes))) → IsBoundedBranch (node_view node) → i < length nodes
    → node ≡ get_or nodes i node → AreBounded (branches_of (map node_view (take (i + 1) nodes)))
bounded_push nodes i node so_far here within at =
    let more : take (i + 1) nodes ≡ take i nodes ++ node ∷ [] = rw (add-one i) (take-suc nodes i node within ∙ ap (λ (x : Node). take i nodes ++ x ∷ []) (sym at)) in
    subst (λ (ns : List Node). AreBounded (branches_of (map node_view ns))) (sym more)
    (subst (λ (bs : List Branch). AreBounded (branches_of bs)) (sym (map_push node_view (take i nodes) node))
    (bounded_last (map node_view (take i nodes)) (node_view node) so_far here))

pub short_push : (names : List (List ℕ)) (i : ℕ) (name : List ℕ) → All (λ n. length n ≤ 1024) (take i names) → length name ≤ 1024 → i < length names → name ≡ get_or names i name
    → All (λ n. length n ≤ 1024) (take (i + 1) names)
short_push names i name so_far here within at =
    let more : take (i + 1) names ≡ take i names ++ name ∷ [] = rw (add-one i) (take-suc names i name within ∙ ap (λ (x : List ℕ). take i names ++ x ∷ []) (sym at)) in
    subst (λ (ns : List (List ℕ)). All (λ n. length n ≤ 1024) ns) (sym more) (All-push (λ n. length n ≤ 1024) (take i names) name so_far here)
