-- The rules of a request's descriptors, of which some may replace others.
use Rattle.std.proofs.Common.{◌≡◌, ◌||◌, List, [], ◌∷◌, ℕ, Bool, true, false, true≢false, cond, map, Option, Some, None, refl, sym, ap, ◌∙◌}
use Rattle.std.specs.List.{list_any}
use Rattle.rate_types.specs.declared.request.Descriptor.{Descriptor}
use Rattle.descriptor_tree.specs.Trees.{DomainTree}
use Rattle.rule_lookup.specs.declared.found.Found.{Found}
use Rattle.rule_lookup.specs.declared.found.Found.TheVariants.{NoRule}
use Rattle.rule_lookup.specs.Rule.{rule_of}
use Rattle.rule_lookup.specs.Replaces.{node_found, names_replaced, rule_name, is_named_in, found_replaces, found_among}
use Rattle.rule_lookup.specs.Index.{has_some, unless_replaced}

any_map : {X Y : Type 0} (p : Y → Bool) (f : X → Y) (xs : List X) → list_any p (map f xs) ≡ list_any (λ x. p (f x)) xs
any_map p f [] = refl
any_map p f (x ∷ xs) = ap (λ b. p (f x) || b) (any_map p f xs)

module _ (trees : List DomainTree) (domain : List ℕ) (all : List Descriptor) where
  -- those that the rules replace are left out
  pub among_rules : (ds : List Descriptor) → map (unless_replaced trees (map (rule_of trees domain) all)) (map (rule_of trees domain) ds) ≡ map (found_among trees domain all) ds
  among_rules [] = refl
  among_rules (d ∷ ds) =
      ap (λ b. cond b NoRule (rule_of trees domain d) ∷ map (unless_replaced trees (map (rule_of trees domain) all)) (map (rule_of trees domain) ds))
      (any_map (λ r. found_replaces trees r (rule_of trees domain d)) (rule_of trees domain) all)
      ∙ ap (λ fs. found_among trees domain all d ∷ fs) (among_rules ds)

nothing_in : (names : List (List ℕ)) (name : Option (List ℕ)) → has_some names ≡ false → is_named_in names name ≡ false
nothing_in [] None none = refl
nothing_in [] (Some name) none = refl
nothing_in (n ∷ names) name none = absurd (true≢false none)

none_by : (trees : List DomainTree) (r found : Found) (more others : Bool) (b : Bool) → has_some (names_replaced (node_found trees r)) ≡ b
    → (more ≡ false → others ≡ false) → (b || more) ≡ false → (found_replaces trees r found || others) ≡ false
none_by trees r found more others true is next h = absurd (true≢false h)
none_by trees r found more others false is next h =
    ap (λ b. b || others) (nothing_in (names_replaced (node_found trees r)) (rule_name (node_found trees found)) is) ∙ next h

none_replaced : (trees : List DomainTree) (rules : List Found) (found : Found) → list_any (λ r. has_some (names_replaced (node_found trees r))) rules ≡ false
    → list_any (λ r. found_replaces trees r found) rules ≡ false
none_replaced trees [] found none = refl
none_replaced trees (r ∷ rules) found none = none_by trees r found _ _ (has_some (names_replaced (node_found trees r))) refl (none_replaced trees rules found) none

-- where no rule replaces any, all are left
pub all_left : (trees : List DomainTree) (domain : List ℕ) (all ds : List Descriptor) → list_any (λ r. has_some (names_replaced (node_found trees r)))
    (map (rule_of trees domain) all) ≡ false
    → map (rule_of trees domain) ds ≡ map (found_among trees domain all) ds
all_left trees domain all [] none = refl
all_left trees domain all (d ∷ ds) none =
    ap (λ b. cond b NoRule (rule_of trees domain d) ∷ map (rule_of trees domain) ds)
    (sym (sym (any_map (λ r. found_replaces trees r (rule_of trees domain d)) (rule_of trees domain) all) ∙ none_replaced trees (map (rule_of trees domain) all)
    (rule_of trees domain d) none))
    ∙ ap (λ fs. found_among trees domain all d ∷ fs) (all_left trees domain all ds none)
