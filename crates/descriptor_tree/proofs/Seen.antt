-- A set of names beside the list of those that were added to it.
use Rattle.std.proofs.Common.{◌≡◌, List, ◌∷◌, Bool, true, false, cond, ◌||◌, not, refl, ap, ◌∙◌}
use Rattle.std.specs.List.{list_any}
use Rattle.std.specs.HashSet.{HashSet, contains, Updates}

-- the set has a name exactly where one of the earlier ones is equal to it by the test
pub record Seen {K E S : Type 0} (eq : K → K → Bool) (test : E → K → Bool) (names : HashSet K S) (earlier : List E) : Type 0 where
  pub has : (q : K) → contains eq names q ≡ list_any (λ e. test e q) earlier

if_or : (b c : Bool) → cond b true c ≡ (b || c)
if_or true c = refl
if_or false c = refl

-- one more name
pub seen_more : {K E S : Type 0} (eq : K → K → Bool) (test : E → K → Bool) (names after : HashSet K S) (earlier : List E) (k : K) (e : E)
    → Seen eq test names earlier → ((q : K) → eq k q ≡ test e q) → Updates eq names after k true → Seen eq test after (e ∷ earlier)
seen_more eq test names after earlier k e seen same updates = record {
  has = λ q. updates.0 q ∙ ap (λ b. cond b true (contains eq names q)) (same q) ∙ if_or (test e q) (contains eq names q) ∙ ap (λ b. test e q || b) (seen.has q);
}

pub twin_from_new : {K E S : Type 0} (eq : K → K → Bool) (test : E → K → Bool) (names : HashSet K S) (earlier : List E) (k : K) (new : Bool)
    → Seen eq test names earlier → new ≡ not (contains eq names k) → not new ≡ list_any (λ e. test e k) earlier
twin_from_new eq test names earlier k new seen is = ap not is ∙ not_not (contains eq names k) ∙ seen.has k
  where
    not_not : (b : Bool) → not (not b) ≡ b
    not_not true = refl
    not_not false = refl
