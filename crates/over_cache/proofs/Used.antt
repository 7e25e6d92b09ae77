-- A question and a note leave known what all uses leave.
use Rattle.std.proofs.Common.{◌≡◌, ◌||◌, ℕ, zero, suc, ◌+◌, ◌≤◌, ◌==◌, max, Bool, true, false, cond, List, [], ◌∷◌, length, take, Option, Some, None, is_some, refl}
use Rattle.std.proofs.Common.{sym, ◌∙◌, ap, subst, arith, eq-eqb}
use Rattle.std.proofs.lemmas.Bool.Decides.{nat_tests}
use Rattle.std.proofs.lemmas.List.{take-map, take_all, length-map}
use native.Mathlib.Decide.{dec_le}
use Rattle.std.specs.List.{AllByRecursion, list_any}
use Rattle.std.specs.Option.{option_map_or}
use Rattle.std.specs.Map.{keys_of, lookup, lookup_entry, remove_entry}
use Rattle.std.specs.Set.{remove_key}
use Rattle.std.specs.Cmp.Lexicographic.{bytes_decides}
use Rattle.rate_types.specs.Sums.{total, one_if}
use Rattle.counter_cells.specs.declared.answers.Spot.{Spot}
use Rattle.over_cache.specs.declared.known.Known.{Known}
use Rattle.over_cache.specs.Entries.{Entries, is_key, known_of, without, asked, noted_over, known_then, noted}
use Rattle.over_cache.specs.Uses.{Use, Asked, Noted, is_among, keys_used, notes_of, under_claim, EndsAt, IsGreatest, Remembers}
use Rattle.over_cache.proofs.Shown.{found_is, by_value}

-- ---- keys

module _ (test : List ℕ → Bool) where
  -- a key is among the keys where its entry is found
  any_found : (es : Entries) → list_any test (keys_of es) ≡ is_some (lookup test es)
  any_found [] = refl
  any_found (e ∷ es) = (elim (test e.0) as (λ b. (b || list_any test (keys_of es)) ≡ is_some (cond b (Some e.1) (lookup test es))) [
    | true ↦ refl
    | false ↦ any_found es
  ])

  keys_without : (es : Entries) → keys_of (remove_entry test es) ≡ remove_key test (keys_of es)
  keys_without [] = refl
  keys_without (e ∷ es) = (elim (test e.0) as (λ b. keys_of (cond b es (e ∷ remove_entry test es)) ≡ cond b (keys_of es) (e.0 ∷ remove_key test (keys_of es))) [
    | true ↦ refl
    | false ↦ ap (λ (l : List (List ℕ)). e.0 ∷ l) (keys_without es)
  ])

  take_twice : (n : ℕ) (ks : List (List ℕ)) → take n (take n ks) ≡ take n ks
  take_twice zero ks = refl
  take_twice (suc n) [] = refl
  take_twice (suc n) (k ∷ ks) = ap (λ (l : List (List ℕ)). k ∷ l) (take_twice n ks)

  -- what is taken after a removal shows no more than was taken before it
  take_removed : (n : ℕ) (ks : List (List ℕ)) → take n (remove_key test (take (suc n) ks)) ≡ take n (remove_key test ks)
  take_removed zero ks = refl
  take_removed (suc n) [] = refl
  take_removed (suc n) (k ∷ ks)
      = (elim (test k) as (λ b. take (suc n) (cond b (take (suc n) ks) (k ∷ remove_key test (take (suc n) ks))) ≡ take (suc n) (cond b ks (k ∷ remove_key test ks))) [
        | true ↦ take_twice (suc n) ks
        | false ↦ ap (λ (l : List (List ℕ)). k ∷ l) (take_removed n ks)
      ])

found_key : (key : List ℕ) (es : Entries) (e : List ℕ × Known) → lookup_entry (is_key key) es ≡ Some e → key ≡ e.0
found_key key es e h = (bytes_decides key e.0).0 (found_is (is_key key) es e h).1

same_key : (k key : List ℕ) → is_key k key ≡ true → k ≡ key
same_key k key = (bytes_decides k key).0

self_key : (key : List ℕ) → is_key key key ≡ true
self_key key = (bytes_decides key key).1 refl

take_len_le : {A : Type 0} (n : ℕ) (xs : List A) → length (take n xs) ≤ n
take_len_le zero xs = omega arith
take_len_le (suc n) [] = omega arith
take_len_le (suc n) (x ∷ xs) = let r = take_len_le n xs in omega arith

-- ---- values under other keys

module _ (k key : List ℕ) (other : is_key k key ≡ false) where
  -- an entry of the key isn't one of k
  apart : (j : List ℕ) → is_key key j ≡ true → is_key k j ≡ false
  apart j h = subst (λ i. is_key k i ≡ false) (same_key key j h) other

  known_without : (es : Entries) → known_of k (without key es) ≡ known_of k es
  known_without [] = refl
  known_without (e ∷ es)
      = (elim (is_key key e.0) as (λ b. is_key key e.0 ≡ b → lookup (is_key k) (cond b es (e ∷ without key es)) ≡ cond (is_key k e.0) (Some e.1) (lookup (is_key k) es)) [
        | true ↦ λ t. ap (λ b. cond b (Some e.1) (lookup (is_key k) es)) (sym (apart e.0 t))
        | false ↦ λ t. ap (λ (r : Option Known). cond (is_key k e.0) (Some e.1) r) (known_without es)
      ]) refl

known_taken : (k : List ℕ) (n : ℕ) (es : Entries) (v : Known) → known_of k (take n es) ≡ Some v → known_of k es ≡ Some v
known_taken k zero es v h = absurd (cc)
known_taken k (suc n) [] v h = h
known_taken k (suc n) (e ∷ es) v h = (elim (is_key k e.0) as (λ b. cond b (Some e.1) (lookup (is_key k) (take n es)) ≡ Some v → cond b (Some e.1) (lookup (is_key k) es) ≡ Some v) [
  | true ↦ λ h. h
  | false ↦ λ h. known_taken k n es v h
]) h

-- ---- questions

asked_known : (k key : List ℕ) (es : Entries) → known_of k (asked key es) ≡ known_of k es
asked_known k key es = pick (lookup_entry (is_key key) es) refl
  where
    pick : (o : Option (List ℕ × Known)) → lookup_entry (is_key key) es ≡ o → known_of k (option_map_or (λ e. e ∷ without key es) o es) ≡ known_of k es
    pick None is = refl
    pick (Some e) is = by (is_key k key) refl
      where
        key_is : key ≡ e.0
        key_is = found_key key es e is

        by : (b : Bool) → is_key k key ≡ b → cond (is_key k e.0) (Some e.1) (known_of k (without key es)) ≡ known_of k es
        by true t =
            ap (λ b. cond b (Some e.1) (known_of k (without key es))) (subst (λ j. is_key k j ≡ true) key_is t)
            ∙ sym (ap (λ j. known_of j es) (same_key k key t) ∙ (found_is (is_key key) es e is).0)
        by false t =
            ap (λ b. cond b (Some e.1) (known_of k (without key es))) (subst (λ j. is_key k j ≡ false) key_is t) ∙ known_without k key t es

asked_keys : (key : List ℕ) (uses : List Use) (es : Entries) → keys_of es ≡ take 1024 (keys_used uses) → keys_of (asked key es) ≡ take 1024 (keys_used (Asked key ∷ uses))
asked_keys key uses es keys = pick (lookup_entry (is_key key) es) refl
  where
    among : is_among key (take 1024 (keys_used uses)) ≡ is_some (known_of key es)
    among = ap (is_among key) (sym keys) ∙ any_found (is_key key) es

    pick : (o : Option (List ℕ × Known)) → lookup_entry (is_key key) es ≡ o → keys_of (option_map_or (λ e. e ∷ without key es) o es)
        ≡ take 1024 (cond (is_among key (take 1024 (keys_used uses))) (key ∷ remove_key (is_key key) (keys_used uses)) (keys_used uses))
    pick None is =
        let no : is_among key (take 1024 (keys_used uses)) ≡ false = among ∙ ap is_some (none_back es is) in
        keys ∙ ap (λ b. take 1024 (cond b (key ∷ remove_key (is_key key) (keys_used uses)) (keys_used uses))) (sym no)
      where
        none_back : (es : Entries) → lookup_entry (is_key key) es ≡ None → known_of key es ≡ None
        none_back [] h = refl
        none_back (f ∷ es) h = (elim (is_key key f.0) as (λ y. cond y (Some f) (lookup_entry (is_key key) es) ≡ None → cond y (Some f.1) (lookup (is_key key) es) ≡ None) [
          | true ↦ λ h. absurd (cc)
          | false ↦ λ h. none_back es h
        ]) h
    pick (Some e) is =
        let f = found_is (is_key key) es e is in
        let n = f.2 in
        let yes : is_among key (take 1024 (keys_used uses)) ≡ true = among ∙ ap is_some f.0 in
        let most : length es ≤ 1024 = subst (λ m. m ≤ 1024) (sym (sym (length-map es (λ (x : List ℕ × Known). x.0)) ∙ ap length keys)) (take_len_le 1024 (keys_used uses)) in
        let short : length (keys_of (without key es)) ≤ 1023 = subst (λ m. m ≤ 1023) (sym (length-map (without key es) (λ (x : List ℕ × Known). x.0))) (omega arith) in
        ap (λ (l : List (List ℕ)). e.0 ∷ l) (sym (take_all 1023 (keys_of (without key es)) short)
        ∙ ap (take 1023) (keys_without (is_key key) es ∙ ap (remove_key (is_key key)) keys) ∙ take_removed (is_key key) 1023 (keys_used uses))
        ∙ ap (λ (j : List ℕ). j ∷ take 1023 (remove_key (is_key key) (keys_used uses))) (sym (found_key key es e is))
        ∙ ap (λ b. take 1024 (cond b (key ∷ remove_key (is_key key) (keys_used uses)) (keys_used uses))) (sym yes)

pub asked_remembers : (key : List ℕ) (uses : List Use) (es : Entries) → Remembers uses es → Remembers (Asked key ∷ uses) (asked key es)
asked_remembers key uses es r = record {
  keys = asked_keys key uses es r.keys;
  values = λ k v h. r.values k v (sym (asked_known k key es) ∙ h);
}

-- ---- notes

-- a first note
first_note : (spot : Spot) (seen : ℕ) → IsGreatest (record { spot = spot; seen = seen }) ((record { spot = spot; seen = seen }) ∷ [])
first_note spot seen =
    let n : Known = record { spot = spot; seen = seen } in
    let same : (spot.claim == spot.claim) ≡ true = eq-eqb spot.claim spot.claim refl in
    let is : under_claim spot.claim (n ∷ []) ≡ n ∷ [] = ap (λ b. cond b (n ∷ []) []) same in
    let one : one_if (seen == seen) ≡ 1 = ap one_if (eq-eqb seen seen refl) in
    record {
      spot = refl;
      noted = subst (λ l. 1 ≤ total (λ (m : Known). one_if (m.seen == seen)) l) (sym is) (omega arith);
      greatest = subst (AllByRecursion (λ (m : Known). m.seen ≤ seen)) (sym is) ((omega arith), tt);
    }

no_more : (claim : ℕ) (s : Spot) (ns : List Known) → EndsAt s ns → (s.claim == claim) ≡ false → under_claim claim ns ≡ []
no_more claim s [] e h = absurd e
no_more claim s (n ∷ ns) e h = ap (λ b. cond b (n ∷ under_claim claim ns) []) (ap (λ (t : Spot). t.claim == claim) e ∙ h)

-- a note over what is known
next_note : (old : Known) (ns : List Known) (spot : Spot) (seen : ℕ) → IsGreatest old ns → IsGreatest (noted_over old spot seen) ((record { spot = spot; seen = seen }) ∷ ns)
next_note old ns spot seen g = pick (old.spot.claim == spot.claim) refl
  where
    n : Known
    n = record { spot = spot; seen = seen }

    first : under_claim spot.claim (n ∷ ns) ≡ n ∷ under_claim spot.claim ns
    first = ap (λ b. cond b (n ∷ under_claim spot.claim ns) []) (eq-eqb spot.claim spot.claim refl)

    each_le : (a b : ℕ) → a ≤ b → (l : List Known) → AllByRecursion (λ (m : Known). m.seen ≤ a) l → AllByRecursion (λ (m : Known). m.seen ≤ b) l
    each_le a b le [] h = tt
    each_le a b le (m ∷ ms) h = let q = h.0 in ((omega arith), each_le a b le ms h.1)

    pick : (b : Bool) → (old.spot.claim == spot.claim) ≡ b → IsGreatest (record { spot = spot; seen = cond b (max old.seen seen) seen }) (n ∷ ns)
    pick true t =
        let same : old.spot.claim ≡ spot.claim = grind (arith, nat_tests) in
        let older = subst (λ c. 1 ≤ total (λ (m : Known). one_if (m.seen == old.seen)) (under_claim c ns)) same g.noted in
        let below = subst (λ c. AllByRecursion (λ (m : Known). m.seen ≤ old.seen) (under_claim c ns)) same g.greatest in
        record {
          spot = refl;
          noted = subst (λ l. 1 ≤ total (λ (m : Known). one_if (m.seen == max old.seen seen)) l) (sym first) (either older (dec_le old.seen seen));
          greatest = subst (AllByRecursion (λ (m : Known). m.seen ≤ max old.seen seen)) (sym first)
              ((omega arith), each_le old.seen (max old.seen seen) (omega arith) (under_claim spot.claim ns) below);
        }
      where
        either : 1 ≤ total (λ (m : Known). one_if (m.seen == old.seen)) (under_claim spot.claim ns) → Dec (old.seen ≤ seen) → 1 ≤ one_if (seen == max old.seen seen)
            + total (λ (m : Known). one_if (m.seen == max old.seen seen)) (under_claim spot.claim ns)
        either older (yes le) = let m : max old.seen seen ≡ seen = omega arith in let o : one_if (seen == max old.seen seen) ≡ 1
            = ap one_if (eq-eqb seen (max old.seen seen) (sym m)) in omega arith
        either older (no gt) =
            let m : max old.seen seen ≡ old.seen = omega arith in
            let o = subst (λ x. 1 ≤ total (λ (m : Known). one_if (m.seen == x)) (under_claim spot.claim ns)) (sym m) older in
            omega arith
    pick false t =
        let none : under_claim spot.claim ns ≡ [] = no_more spot.claim old.spot ns g.spot t in
        let one : one_if (seen == seen) ≡ 1 = ap one_if (eq-eqb seen seen refl) in
        record {
          spot = refl;
          noted = subst (λ l. 1 ≤ total (λ (m : Known). one_if (m.seen == seen)) l) (sym first) (omega arith);
          greatest = subst (AllByRecursion (λ (m : Known). m.seen ≤ seen)) (sym first)
              (subst (λ l. AllByRecursion (λ (m : Known). m.seen ≤ seen) (n ∷ l)) (sym none) ((omega arith), tt));
        }

noted_keys : (key : List ℕ) (spot : Spot) (seen : ℕ) (uses : List Use) (es : Entries) → keys_of es ≡ take 1024 (keys_used uses) → keys_of (noted key spot seen es)
    ≡ take 1024 (keys_used (Noted key spot seen ∷ uses))
noted_keys key spot seen uses es keys =
    ap (λ (l : List (List ℕ)). key ∷ l) (sym (take-map (λ (x : List ℕ × Known). x.0) 1023 (without key es))
    ∙ ap (take 1023) (keys_without (is_key key) es ∙ ap (remove_key (is_key key)) keys) ∙ take_removed (is_key key) 1023 (keys_used uses))

pub noted_remembers : (key : List ℕ) (spot : Spot) (seen : ℕ) (uses : List Use) (es : Entries) → Remembers uses es → Remembers (Noted key spot seen ∷ uses) (noted key spot seen es)
noted_remembers key spot seen uses es r = record {
  keys = noted_keys key spot seen uses es r.keys;
  values = λ k v h. by k v (is_key k key) refl h;
}
  where
    new : Known
    new = record { spot = spot; seen = seen }

    among : (k : List ℕ) → is_among k (take 1024 (keys_used uses)) ≡ is_some (known_of k es)
    among k = ap (is_among k) (sym r.keys) ∙ any_found (is_key k) es

    here : (k : List ℕ) (v : Known) → (o : Option Known) → known_of k es ≡ o → known_then o spot seen ≡ v
        → IsGreatest v (new ∷ cond (is_among k (take 1024 (keys_used uses))) (notes_of k uses) [])
    here k v None is e =
        subst (λ b. IsGreatest v (new ∷ cond b (notes_of k uses) [])) (sym (among k ∙ ap is_some is)) (subst (λ x. IsGreatest x (new ∷ [])) e (first_note spot seen))
    here k v (Some old) is e =
        subst (λ b. IsGreatest v (new ∷ cond b (notes_of k uses) [])) (sym (among k ∙ ap is_some is))
        (subst (λ x. IsGreatest x (new ∷ notes_of k uses)) e (next_note old (notes_of k uses) spot seen (r.values k old is)))

    by : (k : List ℕ) (v : Known) → (b : Bool) → is_key k key ≡ b → cond (is_key k key) (Some (known_then (known_of key es) spot seen)) (known_of k (take 1023 (without key es)))
        ≡ Some v → IsGreatest v (cond (is_key k key) (new ∷ cond (is_among k (take 1024 (keys_used uses))) (notes_of k uses) []) (notes_of k uses))
    by k v true t h =
        let g = rw t at h in
        let e : known_then (known_of k es) spot seen ≡ v = ap (λ j. known_then (known_of j es) spot seen) (same_key k key t) ∙ some_is (known_then (known_of key es) spot seen) v g
        in
        rw t (here k v (known_of k es) refl e)
      where
        some_is : (a b : Known) → Some a ≡ Some b → a ≡ b
        some_is a b e = cc
    by k v false t h =
        let g = rw t at h in
        rw t (r.values k v (sym (known_without k key t es) ∙ known_taken k 1023 (without key es) v g))

-- a note of a known key leaves what is known of another one
pub noted_others : (k key : List ℕ) (spot : Spot) (seen : ℕ) (es : Entries) (v : Known) → is_key k key ≡ false → known_of key es ≡ Some v → length es ≤ 1024
    → known_of k (noted key spot seen es) ≡ known_of k es
noted_others k key spot seen es v other h few =
    let b = by_value (is_key key) es v h in
    let n = (found_is (is_key key) es b.0 b.1).2 in
    ap (λ b. cond b (Some (known_then (known_of key es) spot seen)) (known_of k (take 1023 (without key es)))) other
    ∙ ap (known_of k) (take_all 1023 (without key es) (omega arith))
    ∙ known_without k key other es

-- what is known of another key after a note was known of it before
pub noted_before : (k key : List ℕ) (spot : Spot) (seen : ℕ) (es : Entries) (v : Known) → is_key k key ≡ false → known_of k (noted key spot seen es) ≡ Some v
    → known_of k es ≡ Some v
noted_before k key spot seen es v other h =
    let g : known_of k (take 1023 (without key es)) ≡ Some v
    = sym (ap (λ b. cond b (Some (known_then (known_of key es) spot seen)) (known_of k (take 1023 (without key es)))) other) ∙ h in
    sym (known_without k key other es) ∙ known_taken k 1023 (without key es) v g

-- before any use nothing is known
pub none_remembered : Remembers [] []
none_remembered = record { keys = refl; values = λ k v h. absurd (cc) }
