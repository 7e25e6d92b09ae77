-- A wildcard behind those of a level.
use Rattle.std.proofs.Common.{◌≡◌, ◌&&◌, ℕ, Bool, true, false, true≢false, cond, List, [], ◌∷◌, ◌++◌, Option, Some, None, option_map, find, refl, sym, ap, ◌∙◌}
use Rattle.std.proofs.lemmas.List.Folds.{find-append}
use Rattle.std.specs.Cmp.Lexicographic.{bytes_decides}
use Rattle.std.specs.Option.{option_or}
use Rattle.indexmap.specs.IndexMap.{get}
use Rattle.rate_types.specs.Counters.{same_text, same_entry}
use Rattle.rate_types.specs.declared.entries.Entry.{Entry}
use Rattle.rule_lookup.specs.declared.reached.Reached.{Reached}
use Rattle.rule_lookup.specs.declared.node_maps.Wildcard.{Wildcard}
use Rattle.rule_lookup.specs.declared.node_maps.NodeMaps.{NodeMaps}
use Rattle.rule_lookup.specs.Rule.{is_wildcard, covers}
use Rattle.rule_lookup.specs.Level.{fits}

and_false : (b : Bool) → (b && false) ≡ false
and_false true = refl
and_false false = refl

or_none : {X : Type 0} (x : Option X) → x ≡ option_or x None
or_none None = refl
or_none (Some x) = refl

-- what the last of some wildcards adds
found_last : (p : Wildcard → Bool) (ws : List Wildcard) (w : Wildcard)
    → option_map (λ (v : Wildcard). v.reached) (find p (ws ++ w ∷ [])) ≡ option_or (option_map (λ (v : Wildcard). v.reached) (find p ws)) (cond (p w) (Some w.reached) None)
found_last p ws w = ap (option_map (λ (v : Wildcard). v.reached)) (find-append p ws (w ∷ [])) ∙ by (find p ws) (p w)
  where
    by : (o : Option Wildcard) (b : Bool) → option_map (λ (v : Wildcard). v.reached) (option_or o (cond b (Some w) None))
        ≡ option_or (option_map (λ (v : Wildcard). v.reached) o) (cond b (Some w.reached) None)
    by None true = refl
    by None false = refl
    by (Some v) b = refl

-- a text that is no wildcard isn't a wildcard's
differs : (value text : List ℕ) → is_wildcard value ≡ true → is_wildcard text ≡ false → same_text value text ≡ false
differs value text is not_one = by (same_text value text) refl
  where
    by : (b : Bool) → same_text value text ≡ b → b ≡ false
    by true same = absurd (true≢false (sym is ∙ ap is_wildcard ((bytes_decides value text).0 same) ∙ not_one))
    by false same = refl

module _ (old : NodeMaps) (ws new : List Wildcard) (w : Wildcard) (is : is_wildcard w.entry.value ≡ true) (after : new ≡ ws ++ w ∷ []) where
  pub equal_last : (e : Entry) → cond (is_wildcard e.value) (option_map (λ v. v.reached) (find (λ v. same_entry v.entry e) new)) (get same_entry old.valued e)
      ≡ option_or (cond (is_wildcard e.value) (option_map (λ v. v.reached) (find (λ v. same_entry v.entry e) ws)) (get same_entry old.valued e))
      (cond (same_text w.entry.key e.key && same_text w.entry.value e.value) (Some w.reached) None)
  equal_last e = by (is_wildcard e.value) refl
    where
      by : (b : Bool) → is_wildcard e.value ≡ b → cond b (option_map (λ v. v.reached) (find (λ v. same_entry v.entry e) new)) (get same_entry old.valued e)
          ≡ option_or (cond b (option_map (λ v. v.reached) (find (λ v. same_entry v.entry e) ws)) (get same_entry old.valued e))
          (cond (same_text w.entry.key e.key && same_text w.entry.value e.value) (Some w.reached) None)
      by true star = rw after (found_last (λ v. same_entry v.entry e) ws w)
      by false star = or_none (get same_entry old.valued e)
          ∙ ap (λ b. option_or (get same_entry old.valued e) (cond b (Some w.reached) None))
          (sym (ap (λ b. same_text w.entry.key e.key && b) (differs w.entry.value e.value is star) ∙ and_false (same_text w.entry.key e.key)))

  pub wildcard_last : (e : Entry) → option_map (λ (v : Wildcard). v.reached) (find (fits e) new)
      ≡ option_or (option_map (λ (v : Wildcard). v.reached) (find (fits e) ws))
      (cond (same_text w.entry.key e.key && (is_wildcard w.entry.value && covers w.entry.value e.value)) (Some w.reached) None)
  wildcard_last e = ap (λ xs. option_map (λ (v : Wildcard). v.reached) (find (fits e) xs)) after ∙ found_last (fits e) ws w
      ∙ ap (λ b. option_or (option_map (λ (v : Wildcard). v.reached) (find (fits e) ws)) (cond (same_text w.entry.key e.key && (b && covers w.entry.value e.value)) (Some w.reached)
      None)) (sym is)

  pub alone_last : (e : Entry) (x : Option Reached) → x ≡ option_or x (cond (same_text w.entry.key e.key && false) (Some w.reached) None)
  alone_last e x = or_none x ∙ ap (λ b. option_or x (cond b (Some w.reached) None)) (sym (and_false (same_text w.entry.key e.key)))
