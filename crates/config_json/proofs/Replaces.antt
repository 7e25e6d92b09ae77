-- The names that a rule replaces.
use Rattle.std.proofs.Common.{◌≡◌, ◌≢◌, ℕ, suc, ◌≤◌, ◌||◌, List, [], ◌∷◌, length, filter, Bool, true, false, Option, Some, None, true≢false, refl, sym, ap, ◌∙◌, arith}
use Rattle.std.specs.List.{All, list_any}
use Rattle.std.specs.Str.{bytes_eq}
use Rattle.std.proofs.lemmas.List.Elements.{All-nil, All-cons}
use Rattle.std.proofs.lemmas.Slice.Eq.{bytes_eq-Decides}
use Rattle.serde_json.specs.Events.{items_len}
use Rattle.serde_json.specs.View.{items_view}
use Rattle.serde_json.specs.declared.value.Value.{Value}
use Rattle.config_json.specs.Rules.{is_there, replaces_itself}

pub items_len_view : (vs : List Value) → items_len (items_view vs) ≡ length vs
items_len_view [] = refl
items_len_view (v ∷ vs) = ap suc (items_len_view vs)

-- ---- the names that aren't empty

pub filter_few : (xs : List (List ℕ)) → length (filter is_there xs) ≤ length xs
filter_few [] = omega arith
filter_few ([] ∷ xs) = omega (arith, filter_few xs)
filter_few ((b ∷ bs) ∷ xs) = omega (arith, filter_few xs)

there : (b : ℕ) (bs : List ℕ) → ◌≢◌ {A = List ℕ} (b ∷ bs) []
there b bs = λ e. cc

pub filter_there : (xs : List (List ℕ)) → All (λ n. n ≢ []) (filter is_there xs)
filter_there [] = All-nil (λ n. n ≢ [])
filter_there ([] ∷ xs) = filter_there xs
filter_there ((b ∷ bs) ∷ xs) = All-cons (λ n. n ≢ []) (b ∷ bs) (filter is_there xs) (there b bs) (filter_there xs)

-- ---- a rule that doesn't replace itself

or_false : (a b : Bool) → (a || b) ≡ false → (a ≡ false) × (b ≡ false)
or_false true b is = absurd (true≢false is)
or_false false b is = (refl, is)

other : (name n : List ℕ) → bytes_eq n name ≡ false → Some name ≢ Some n
other name n is = λ same. true≢false (sym ((bytes_eq-Decides n name).1 (back same)) ∙ is)
  where
    back : Some name ≡ Some n → n ≡ name
    back same = cc

none_some : (n : List ℕ) → None ≢ Some n
none_some n = λ e. cc

pub replaces_others : (name : Option (List ℕ)) (ns : List (List ℕ)) → replaces_itself name ns ≡ false → All (λ n. name ≢ Some n) ns
replaces_others None [] is = All-nil (λ n. None ≢ Some n)
replaces_others None (n ∷ ns) is = All-cons (λ n. None ≢ Some n) n ns (none_some n) (replaces_others None ns is)
replaces_others (Some name) [] is = All-nil (λ n. Some name ≢ Some n)
replaces_others (Some name) (n ∷ ns) is =
    let both = or_false (bytes_eq n name) (list_any (λ m. bytes_eq m name) ns) is in
    All-cons (λ n. Some name ≢ Some n) n ns (other name n both.0) (replaces_others (Some name) ns both.1)
