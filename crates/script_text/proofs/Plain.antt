-- Places of nodes are of plain characters, so that their steps can be put behind another place.
use Rattle.std.proofs.Common.{take, ◌≡◌, ◌≢◌, ℕ, zero, suc, ◌+◌, ◌<◌, ◌==◌, ◌/◌, ◌%◌, List, [], ◌∷◌, ◌++◌, map, length, Bool, true, false, Err, refl, sym, ap, subst}
use Rattle.std.proofs.Common.{◌∙◌, codes, decimal, arith, append_assoc, slice_index}
use Rattle.std.proofs.lemmas.Bool.Decides.{nat_tests}
use Rattle.std.proofs.lemmas.Grind.{common_steps}
use Rattle.std.proofs.lemmas.Str.{chars-IsAscii, encode_ascii}
use Rattle.std.specs.List.{AllByRecursion, flat_map, list_any}
use Rattle.std.specs.Str.{IsAscii, bytes_eq}
use Rattle.std.specs.Fmt.{digits, digits_onto, digit_glyph}
use Rattle.rate_types.specs.Places.{child, item, escaped}
use Rattle.rate_types.specs.Reading.{first_or}
use Rattle.rate_types.specs.declared.refused.At.{At}
use Rattle.rate_types.specs.declared.refused.Refused.{Refused}
use Rattle.descriptor_tree.specs.Trees.{NodeFields, Branch, branch, Branches, no_branches, and_branch, fields_of, DomainTree}
use Rattle.descriptor_tree.specs.Nodes.{PlacedNode, branch_nodes, forest_nodes, tree_nodes}
use Rattle.descriptor_tree.specs.Faults.{in_file, node_numbers, node_faults, nodes_faults, domain_numbers, domain_faults, trees_faults, config_faults, is_empty, is_twin}
use Rattle.script_text.specs.Pointers.{IsStep, IsPlain}

-- ---- a step

ascii : (step : List ℕ) → IsStep step → IsAscii step
ascii [] plain = λ i. omega arith
ascii (b ∷ bs) plain = by (ascii bs plain.1)
  where
    by : IsAscii bs → (i : ℕ) → slice_index (b ∷ bs) i < 128
    by more zero = omega (arith, plain.0.0)
    by more (suc i) = more i

alone : (c : ℕ) → c < 126 → c ≢ 47 → escaped c ≡ c ∷ []
alone c low other =
    let tilde : (c == 126) ≡ false = grind (arith, nat_tests) in
    let slash : (c == 47) ≡ false = grind (arith, nat_tests) in
    rw (tilde, slash) (encode_ascii c (omega arith))

escapes : (step : List ℕ) → IsStep step → flat_map escaped step ≡ step
escapes [] plain = refl
escapes (b ∷ bs) plain = rw (alone b plain.0.0 plain.0.1, escapes bs plain.1) refl

pub plain_child : (place step : List ℕ) → IsStep step → child place step ≡ place ++ 47 ∷ step
unfolding child
plain_child place step plain = rw (chars-IsAscii step (ascii step plain), escapes step plain) refl

-- ---- steps behind one another

all_append : {X : Type 0} (P : X → Type 0) (xs ys : List X) → AllByRecursion P xs → AllByRecursion P ys → AllByRecursion P (xs ++ ys)
all_append P [] ys all more = more
all_append P (x ∷ xs) ys all more = (all.0, all_append P xs ys all.1 more)

abbrev AreLow : List ℕ → Type 0
AreLow bs = AllByRecursion (λ b. b < 126) bs

pub low_at : (bs : List ℕ) (i : ℕ) → AreLow bs → i < length bs → slice_index bs i < 126
low_at [] i low within = absurd (omega arith)
low_at (b ∷ bs) zero low within = low.0
low_at (b ∷ bs) (suc i) low within = low_at bs i low.1 (omega arith)

-- one more character of a step
pub step_more : (place base step after steps : List ℕ) (i : ℕ) → place ++ 47 ∷ step ≡ base ++ 47 ∷ take i steps → IsStep step
    → AreLow steps → i < length steps → slice_index steps i ≢ 47 → after ≡ step ++ slice_index steps i ∷ []
    → (place ++ 47 ∷ after ≡ base ++ 47 ∷ take (i + 1) steps) × IsStep after
step_more place base step after steps i far plain low within other is =
    let more : take (i + 1) steps ≡ take i steps ++ slice_index steps i ∷ [] = grind (arith, common_steps) in (
      ap (λ s. place ++ 47 ∷ s) is ∙ sym (append_assoc place (47 ∷ step) (slice_index steps i ∷ []))
          ∙ ap (λ s. s ++ slice_index steps i ∷ []) far ∙ append_assoc base (47 ∷ take i steps) (slice_index steps i ∷ [])
          ∙ ap (λ s. base ++ 47 ∷ s) (sym more),
      subst IsStep (sym is)
          (all_append (λ b. (b < 126) × (b ≢ 47)) step (slice_index steps i ∷ []) plain ((low_at steps i low within, other), tt)),
    )

low_append : (xs ys : List ℕ) → AreLow xs → AreLow ys → AreLow (xs ++ ys)
low_append [] ys low more = more
low_append (x ∷ xs) ys low more = (low.0, low_append xs ys low.1 more)

plain_append : (place step : List ℕ) → IsPlain place → AreLow step → IsPlain (place ++ 47 ∷ step)
plain_append [] step plain low = (refl, low)
plain_append (b ∷ bs) step plain low = (plain.0, low_append bs (47 ∷ step) plain.1 (omega arith, low))

step_low : (step : List ℕ) → IsStep step → AreLow step
step_low [] plain = tt
step_low (b ∷ bs) plain = (plain.0.0, step_low bs plain.1)

glyph_low : (d : ℕ) → d < 10 → digit_glyph false d < 126
glyph_low d small = grind (arith, nat_tests)

digits_low : (k n : ℕ) (acc : List ℕ) → AreLow acc → AreLow (digits_onto k 10 false n acc)
digits_low zero n acc low = low
digits_low (suc k) n acc low = by (digits_low k (n / 10) (digit_glyph false (n % 10) ∷ acc) more) (n / 10 == 0) refl
  where
    more : AreLow (digit_glyph false (n % 10) ∷ acc)
    more = (glyph_low (n % 10) (omega arith), low)

    by : AreLow (digits_onto k 10 false (n / 10) (digit_glyph false (n % 10) ∷ acc)) → (b : Bool) → (n / 10 == 0) ≡ b
        → AreLow (digits_onto (suc k) 10 false n acc)
    by further true is = rw is more
    by further false is = rw is further

decimal_low : (n : ℕ) → AreLow (decimal n)
unfolding digits
decimal_low n = digits_low 64 n [] tt

item_plain : (place : List ℕ) (index : ℕ) → IsPlain place → IsPlain (item place index)
unfolding item
item_plain place index plain = plain_append place (decimal index) plain (decimal_low index)

below_step : IsStep (codes "descriptors")
below_step = search (arith) depth 40

child_plain : (place : List ℕ) → IsPlain place → IsPlain (child place (codes "descriptors"))
child_plain place plain = subst IsPlain (sym (plain_child place (codes "descriptors") below_step))
    (plain_append place (codes "descriptors") plain (step_low (codes "descriptors") below_step))

-- ---- nodes and their faults

abbrev ArePlain : List PlacedNode → Type 0
ArePlain nodes = AllByRecursion (λ s. IsPlain s.place) nodes

mutual
  branch_plain : (place : List ℕ) (level : ℕ) (earlier : List NodeFields) (b : Branch) → IsPlain place → ArePlain (branch_nodes place level earlier b)
  branch_plain place level earlier (branch node below) plain =
      (plain, forest_plain (child place (codes "descriptors")) (level + 1) 0 [] below (child_plain place plain))

  forest_plain : (place : List ℕ) (level index : ℕ) (earlier : List NodeFields) (bs : Branches) → IsPlain place
      → ArePlain (forest_nodes place level index earlier bs)
  forest_plain place level index earlier no_branches plain = tt
  forest_plain place level index earlier (and_branch b more) plain =
      all_append (λ s. IsPlain s.place) (branch_nodes (item place index) level earlier b) (forest_nodes place level (index + 1) (fields_of b ∷ earlier) more)
      (branch_plain (item place index) level earlier b (item_plain place index plain))
      (forest_plain place level (index + 1) (fields_of b ∷ earlier) more plain)

abbrev AreRefusedPlain : List Refused → Type 0
AreRefusedPlain rs = AllByRecursion (λ r. IsPlain r.at) rs

refused_plain : (place : List ℕ) (ns : List ℕ) → IsPlain place → AreRefusedPlain (map (λ n. record { at = place; number = n }) ns)
refused_plain place [] plain = tt
refused_plain place (n ∷ ns) plain = (plain, refused_plain place ns plain)

nodes_plain : (number : ℕ) (nodes : List PlacedNode) → ArePlain nodes → AreRefusedPlain (nodes_faults number nodes)
nodes_plain number [] plain = tt
nodes_plain number (s ∷ more) plain = all_append (λ r. IsPlain r.at) (node_faults number s) (nodes_faults (number + 1) more)
    (refused_plain s.place (node_numbers (is_empty s.node.key) (list_any (λ e. is_twin e s.node) s.earlier) s.level number) plain.0)
    (nodes_plain (number + 1) more plain.1)

abbrev AreFaultsPlain : List At → Type 0
AreFaultsPlain ats = AllByRecursion (λ at. IsPlain at.refused.at) ats

file_plain : (file : ℕ) (rs : List Refused) → AreRefusedPlain rs → AreFaultsPlain (map (in_file file) rs)
file_plain file [] plain = tt
file_plain file (r ∷ rs) plain = (plain.0, file_plain file rs plain.1)

tree_plain : (t : DomainTree) → ArePlain (tree_nodes t)
tree_plain t = forest_plain (child [] (codes "descriptors")) 1 0 [] t.forest (child_plain [] tt)

trees_plain : (file : ℕ) (earlier : List (List ℕ)) (number : ℕ) (trees : List DomainTree) → AreFaultsPlain (trees_faults file earlier number trees)
trees_plain file earlier number [] = tt
trees_plain file earlier number (t ∷ more) = all_append (λ at. IsPlain at.refused.at)
    (map (in_file file) (domain_faults earlier t ++ nodes_faults number (tree_nodes t)))
    (trees_faults (file + 1) (t.domain ∷ earlier) (number + length (tree_nodes t)) more)
    (file_plain file (domain_faults earlier t ++ nodes_faults number (tree_nodes t))
    (all_append (λ r. IsPlain r.at) (domain_faults earlier t) (nodes_faults number (tree_nodes t))
    (refused_plain [] (domain_numbers (is_empty t.domain) (list_any (λ d. bytes_eq d t.domain) earlier)) tt)
    (nodes_plain number (tree_nodes t) (tree_plain t))))
    (trees_plain (file + 1) (t.domain ∷ earlier) (number + length (tree_nodes t)) more)

first_of : (ats : List At) (x : List DomainTree) (at : At) → AreFaultsPlain ats → first_or ats x ≡ Err at → IsPlain at.refused.at
first_of [] x at plain is = absurd (cc)
first_of (f ∷ fs) x at plain is = let same : f ≡ at = cc in subst (λ (a : At). IsPlain a.refused.at) same plain.0

-- the first fault of trees stands at a place of plain steps
pub first_plain : (trees : List DomainTree) (x : List DomainTree) (at : At) → first_or (config_faults trees) x ≡ Err at → IsPlain at.refused.at
unfolding config_faults
first_plain trees x at is = first_of (config_faults trees) x at (trees_plain 0 [] 0 trees) is
