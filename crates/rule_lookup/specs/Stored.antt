-- Inside: how the logic stores the trees of a configuration, so that they may be what contracts see of a type.
use Rattle.std.specs.Prelude.{◌≡◌, ℕ, Bool, List, [], ◌∷◌, ◌++◌, Option, Some, None, refl}
use Rattle.std.specs.Coded.{Coded, code_by, coded×, coded_ℕ, coded_bool, coded_list, coded_option}
use Rattle.std.proofs.Common.{sym, ap, ◌∙◌, append_assoc, append-nil}
use Rattle.descriptor_tree.specs.declared.policy.Policy.{Policy}
use Rattle.descriptor_tree.specs.contracts.policy.Policy.{the_row}
use Rattle.descriptor_tree.specs.Trees.{NodeFields, branch, Branches, no_branches, and_branch, DomainTree}

abbrev pub Parts : Type 0
Parts = List ℕ × (Option (List ℕ) × (Option Policy × (Option (List ℕ) × (List (List ℕ) × Bool))))

abbrev pub to_parts : NodeFields → Parts
to_parts n = (n.key, (n.value, (n.policy, (n.name, (n.replaces, n.shadow)))))

abbrev pub of_parts : Parts → NodeFields
of_parts p = record { key = p.0; value = p.1.0; policy = p.1.1.0; name = p.1.1.1.0; replaces = p.1.1.1.1.0; shadow = p.1.1.1.1.1 }

abbrev pub text_code : Coded (List ℕ)
text_code = coded_list coded_ℕ

abbrev pub fields_code : Coded NodeFields
fields_code = code_by Parts
    (coded× text_code (coded× (coded_option text_code) (coded× (coded_option the_row.coded) (coded× (coded_option text_code)
    (coded× (coded_list text_code) coded_bool)))))
    to_parts of_parts (λ _. refl)

-- A level as a list: the nodes below a node, then those behind it, then the node; none ends a level.
abbrev pub to_items : Branches → List (Option NodeFields)
to_items no_branches = None ∷ []
to_items (and_branch (branch node below) more) = to_items below ++ (to_items more ++ Some node ∷ [])

-- the last two levels of a pile become one
abbrev pub joined : NodeFields → List Branches → List Branches
joined node [] = []
joined node (more ∷ []) = []
joined node (more ∷ below ∷ pile) = and_branch (branch node below) more ∷ pile

-- the pile of levels that a list leaves
abbrev pub piled : List (Option NodeFields) → List Branches → List Branches
piled [] pile = pile
piled (None ∷ items) pile = piled items (no_branches ∷ pile)
piled (Some node ∷ items) pile = piled items (joined node pile)

abbrev pub top : List Branches → Branches
top [] = no_branches
top (bs ∷ pile) = bs

abbrev pub of_items : List (Option NodeFields) → Branches
of_items items = top (piled items [])

piled_level : (bs : Branches) (items : List (Option NodeFields)) (pile : List Branches)
    → piled (to_items bs ++ items) pile ≡ piled items (bs ∷ pile)
piled_level no_branches items pile = refl
piled_level (and_branch (branch node below) more) items pile =
    ap (λ xs. piled xs pile) (append_assoc (to_items below) (to_items more ++ Some node ∷ []) items
    ∙ ap (λ xs. to_items below ++ xs) (append_assoc (to_items more) (Some node ∷ []) items))
    ∙ piled_level below (to_items more ++ Some node ∷ items) pile
    ∙ piled_level more (Some node ∷ items) (below ∷ pile)

pub of_items-to_items : (bs : Branches) → of_items (to_items bs) ≡ bs
of_items-to_items bs = ap (λ xs. top (piled xs [])) (sym (append-nil (to_items bs))) ∙ ap top (piled_level bs [] [])

abbrev pub level_code : Coded Branches
level_code = code_by (List (Option NodeFields)) (coded_list (coded_option fields_code)) to_items of_items of_items-to_items

abbrev pub tree_code : Coded DomainTree
tree_code = code_by (List ℕ × Branches) (coded× text_code level_code)
    (λ t. (t.domain, t.forest)) (λ p. record { domain = p.0; forest = p.1 }) (λ _. refl)

-- the trees of a configuration
abbrev pub trees_code : Coded (List DomainTree)
trees_code = coded_list tree_code
