-- Entries whose keys are shown as their bytes.
use Rattle.std.proofs.Common.{◌≡◌, ℕ, ◌+◌, ◌≤◌, ◌==◌, max, Bool, true, false, cond, List, [], ◌∷◌, length, take, map, slice_get, Option, Some, None, option_map, refl, sym, ◌∙◌, ap, subst, arith}
use Rattle.std.specs.List.{AllByRecursion, IsDistinct}
use Rattle.std.specs.Option.{option_map_or, UnwrapsOrElse}
use Rattle.std.specs.Map.{keys_of, lookup, lookup_entry, remove_entry, set_value}
use Rattle.std.specs.Cmp.Lexicographic.{bytes_decides}
use Rattle.std.proofs.lemmas.List.{take-map, take_all, length-map}
use Rattle.lru.specs.LruCache.{promoted}
use Rattle.counter_cells.specs.declared.answers.Spot.{Spot}
use Rattle.over_cache.specs.declared.known.Known.{Known}
use Rattle.over_cache.specs.Entries.{is_key, known_of, noted_over, known_then, noted}

module _ {A V : Type 0} (items : A → List ℕ) where
  abbrev pub shown : A × V → List ℕ × V
  shown e = (items e.0, e.1)

  pub lookup-shown : (test : List ℕ → Bool) (es : List (A × V)) → lookup test (map shown es) ≡ lookup (λ a. test (items a)) es
  lookup-shown test [] = refl
  lookup-shown test (e ∷ es) = ap (λ (r : Option V). cond (test (items e.0)) (Some e.1) r) (lookup-shown test es)

  pub lookup_entry-shown : (test : List ℕ → Bool) (es : List (A × V)) → lookup_entry test (map shown es) ≡ option_map shown (lookup_entry (λ a. test (items a)) es)
  lookup_entry-shown test [] = refl
  lookup_entry-shown test (e ∷ es)
      = (elim (test (items e.0)) as (λ b. cond b (Some (shown e)) (lookup_entry test (map shown es)) ≡ option_map shown (cond b (Some e) (lookup_entry (λ a. test (items a)) es))) [
        | true ↦ refl
        | false ↦ lookup_entry-shown test es
      ])

  pub remove_entry-shown : (test : List ℕ → Bool) (es : List (A × V)) → remove_entry test (map shown es) ≡ map shown (remove_entry (λ a. test (items a)) es)
  remove_entry-shown test [] = refl
  remove_entry-shown test (e ∷ es)
      = (elim (test (items e.0)) as (λ b. cond b (map shown es) (shown e ∷ remove_entry test (map shown es)) ≡ map shown (cond b es (e ∷ remove_entry (λ a. test (items a)) es))) [
        | true ↦ refl
        | false ↦ ap (λ (r : List (List ℕ × V)). shown e ∷ r) (remove_entry-shown test es)
      ])

  pub promoted-shown : (test : List ℕ → Bool) (es : List (A × V)) → promoted test (map shown es) ≡ map shown (promoted (λ a. test (items a)) es)
  promoted-shown test es = rw (lookup_entry-shown test es, remove_entry-shown test es) (by (lookup_entry (λ a. test (items a)) es))
    where
      by : (o : Option (A × V)) → option_map_or (λ e. e ∷ map shown (remove_entry (λ a. test (items a)) es)) (option_map shown o) (map shown es)
          ≡ map shown (option_map_or (λ e. e ∷ remove_entry (λ a. test (items a)) es) o es)
      by None = refl
      by (Some e) = refl

module _ {A V : Type 0} (items : A → List ℕ) (test : List ℕ → Bool) where
  -- the first entry, where its key is the one that is looked up
  pub first_known : (es : List (A × V)) (e : A × V) → slice_get es 0 ≡ Some e → test (items e.0) ≡ true → lookup test (map (shown items) es) ≡ Some e.1
  first_known [] e is found = cc
  first_known (f ∷ fs) e is found =
      let same : f ≡ e = cc in
      ap (λ b. cond b (Some f.1) (lookup test (map (shown items) fs))) (subst (λ (g : A × V). test (items g.0) ≡ true) (sym same) found)
      ∙ ap (λ (g : A × V). Some g.1) same

  -- it stays first
  pub first_stays : (es : List (A × V)) (e : A × V) → slice_get es 0 ≡ Some e → test (items e.0) ≡ true → promoted test (map (shown items) es) ≡ map (shown items) es
  first_stays [] e is found = cc
  first_stays (f ∷ fs) e is found =
      let same : f ≡ e = cc in
      let first : test (items f.0) ≡ true = subst (λ (g : A × V). test (items g.0) ≡ true) (sym same) found in
      let all : List (List ℕ × V) = map (shown items) fs in
      ap (λ b. option_map_or (λ (x : List ℕ × V). x ∷ cond b all (shown items f ∷ remove_entry test all)) (cond b (Some (shown items f)) (lookup_entry test all))
      (shown items f ∷ all)) first

module _ {A V : Type 0} (test : A → Bool) where
  -- an entry that is found
  pub found_is : (es : List (A × V)) (e : A × V) → lookup_entry test es ≡ Some e → (lookup test es ≡ Some e.1) × (test e.0 ≡ true) × (length (remove_entry test es) + 1 ≡ length es)
  found_is [] e h = cc
  found_is (f ∷ es) e h
      = (elim (test f.0) as (λ y. test f.0 ≡ y → cond y (Some f) (lookup_entry test es) ≡ Some e → (cond y (Some f.1) (lookup test es) ≡ Some e.1) × (test e.0 ≡ true)
      × (length (cond y es (f ∷ remove_entry test es)) + 1 ≡ length (f ∷ es))) [
        | true ↦ λ t h. let same : f ≡ e = cc in (ap (λ (x : A × V). Some x.1) same, subst (λ (g : A × V). test g.0 ≡ true) same t, omega arith)
        | false ↦ λ t h. let r = found_is es e h in let n = r.2 in (r.0, r.1, omega arith)
      ]) refl h

  -- none is found
  pub none_is : (es : List (A × V)) → lookup test es ≡ None → (lookup_entry test es ≡ None) × (remove_entry test es ≡ es)
  none_is [] h = (refl, refl)
  none_is (f ∷ es) h
      = (elim (test f.0) as (λ y. cond y (Some f.1) (lookup test es) ≡ None → (cond y (Some f) (lookup_entry test es) ≡ None) × (cond y es (f ∷ remove_entry test es) ≡ f ∷ es)) [
        | true ↦ λ h. absurd (cc)
        | false ↦ λ h. let r = none_is es h in (r.0, ap (λ (l : List (A × V)). f ∷ l) r.1)
      ]) h

  -- whoever is found by the value is found with its key
  pub by_value : (es : List (A × V)) (v : V) → lookup test es ≡ Some v → (e : A × V) × (lookup_entry test es ≡ Some e) × (e.1 ≡ v)
  by_value es v h = pick (lookup_entry test es) refl
    where
      pick : (o : Option (A × V)) → lookup_entry test es ≡ o → (e : A × V) × (lookup_entry test es ≡ Some e) × (e.1 ≡ v)
      pick (Some e) is = let l = (found_is es e is).0 in (e, is, cc)
      pick None is = absurd (none_not es v h is)
        where
          none_not : (es : List (A × V)) (v : V) → lookup test es ≡ Some v → lookup_entry test es ≡ None → ⊥
          none_not [] v h n = cc
          none_not (f ∷ es) v h n = (elim (test f.0) as (λ y. cond y (Some f.1) (lookup test es) ≡ Some v → cond y (Some f) (lookup_entry test es) ≡ None → ⊥) [
            | true ↦ λ h n. cc
            | false ↦ λ h n. none_not es v h n
          ]) h n

  -- what is written under a key that was brought to the front
  pub set_promoted : (es : List (A × V)) (e : A × V) (w : V) → lookup_entry test es ≡ Some e → set_value test (promoted test es) w ≡ (e.0, w) ∷ remove_entry test es
  set_promoted es e w is =
      ap (λ (o : Option (A × V)). set_value test (option_map_or (λ f. f ∷ remove_entry test es) o es) w) is
      ∙ ap (λ b. cond b ((e.0, w) ∷ remove_entry test es) (e ∷ set_value test (remove_entry test es) w)) (found_is es e is).1

module _ {A : Type 0} (items : A → List ℕ) (key : List ℕ) (spot : Spot) (seen : ℕ) where
  abbrev pub is_it : A → Bool
  is_it a = is_key key (items a)

  -- a note over what is known
  pub known_noted : (es : List (A × Known)) (v : Known) → lookup is_it es ≡ Some v → length es ≤ 1024
      → map (shown items) (set_value is_it (promoted is_it es) (noted_over v spot seen)) ≡ noted key spot seen (map (shown items) es)
  known_noted es v h few =
      let b = by_value is_it es v h in
      let f = found_is is_it es b.0 b.1 in
      let n = f.2 in
      let rest = map (shown items) (remove_entry is_it es) in
      let short : length rest ≤ 1023 = subst (λ m. m ≤ 1023) (sym (length-map (remove_entry is_it es) (shown items))) (omega arith) in
      ap (map (shown items)) (set_promoted is_it es b.0 (noted_over v spot seen) b.1)
      ∙ (λ i. ((sym ((bytes_decides key (items b.0.0)).0 f.1)) i, known_then (sym (lookup-shown items (is_key key) es ∙ h) i) spot seen) ∷ sym (take_all 1023 rest short) i)
      ∙ (λ i. (key, known_then (known_of key (map (shown items) es)) spot seen) ∷ take 1023 (sym (remove_entry-shown items (is_key key) es) i))

  -- a note where the key is known or not: what is known of it then, or the new pair, is noted over
  noted_new : noted_over (record { spot = spot; seen = seen }) spot seen ≡ record { spot = spot; seen = seen }
  noted_new = by (spot.claim == spot.claim)
    where
      by : (same : Bool) → ◌≡◌ {A = Known} (record { spot = spot; seen = cond same (max seen seen) seen }) (record { spot = spot; seen = seen })
      by true = let n : max seen seen ≡ seen = omega arith in ap (λ (k : ℕ). record { spot = spot; seen = k }) n
      by false = refl

  -- a note of a key that wasn't known
  pub new_noted : (es : List (A × Known)) (k : A) → items k ≡ key → lookup is_it es ≡ None
      → map (shown items) ((k, record { spot = spot; seen = seen }) ∷ take 1023 es) ≡ noted key spot seen (map (shown items) es)
  new_noted es k is h =
      let n = none_is is_it es h in
      (λ i. (is i, known_then (sym (lookup-shown items (is_key key) es ∙ h) i) spot seen) ∷ sym (take-map (shown items) 1023 es) i)
      ∙ (λ i. (key, known_then (known_of key (map (shown items) es)) spot seen) ∷ take 1023 (sym (remove_entry-shown items (is_key key) es ∙ ap (map (shown items)) n.1) i))

module _ {A : Type 0} (items : A → List ℕ) (spot : Spot) (seen : ℕ) (es : List (A × Known)) (few : length es ≤ 1024) (k : A) where
  -- what is known of the key, or the new pair
  abbrev pub IsOver : Known → Type 0
  IsOver v = UnwrapsOrElse (lookup (is_it items (items k) spot seen) es) (λ x. x ≡ record { spot = spot; seen = seen }) v

  -- a note of a key, known or not: it is written over what is known of it, or over the new pair
  pub over_noted : (v w : Known) → IsOver v → w ≡ noted_over v spot seen
      → map (shown items) (option_map_or (λ e. (e.0, w) ∷ remove_entry (is_it items (items k) spot seen) es) (lookup_entry (is_it items (items k) spot seen) es) ((k, w) ∷ take 1023 es))
      ≡ noted (items k) spot seen (map (shown items) es)
  over_noted v w over is = pick (lookup test es) refl over
    where
      test : A → Bool
      test = is_it items (items k) spot seen

      pick : (o : Option Known) → lookup test es ≡ o → UnwrapsOrElse o (λ x. x ≡ record { spot = spot; seen = seen }) v
          → map (shown items) (option_map_or (λ e. (e.0, w) ∷ remove_entry test es) (lookup_entry test es) ((k, w) ∷ take 1023 es))
          ≡ noted (items k) spot seen (map (shown items) es)
      pick None none fresh =
          let value : w ≡ record { spot = spot; seen = seen } = is ∙ ap (λ x. noted_over x spot seen) fresh ∙ noted_new items (items k) spot seen in
          ap (λ o. map (shown items) (option_map_or (λ (e : A × Known). (e.0, w) ∷ remove_entry test es) o ((k, w) ∷ take 1023 es))) (none_is test es none).0
          ∙ ap (λ (x : Known). map (shown items) ((k, x) ∷ take 1023 es)) value
          ∙ new_noted items (items k) spot seen es k refl none
      pick (Some old) found known =
          let b = by_value test es old found in
          let value : w ≡ noted_over old spot seen = is ∙ ap (λ x. noted_over x spot seen) known in
          ap (λ o. map (shown items) (option_map_or (λ (e : A × Known). (e.0, w) ∷ remove_entry test es) o ((k, w) ∷ take 1023 es))) b.1
          ∙ ap (map (shown items)) (sym (set_promoted test es b.0 w b.1))
          ∙ ap (λ x. map (shown items) (set_value test (promoted test es) x)) value
          ∙ known_noted items (items k) spot seen es old found few

module _ {A V : Type 0} (items : A → List ℕ) where
  pub distinct-shown : (es : List (A × V)) → IsDistinct (λ a b. is_key (items a) (items b)) (keys_of es) → IsDistinct is_key (keys_of (map (shown items) es))
  unfolding IsDistinct
  distinct-shown [] h = h
  distinct-shown (e ∷ es) h = (each es h.0, distinct-shown es h.1)
    where
      each : (es : List (A × V)) → AllByRecursion (λ (y : A). is_key (items e.0) (items y) ≡ false) (keys_of es) → AllByRecursion (λ (y : List ℕ). is_key (items e.0) y ≡ false)
          (keys_of (map (shown items) es))
      each [] h = tt
      each (f ∷ es) h = (h.0, each es h.1)
