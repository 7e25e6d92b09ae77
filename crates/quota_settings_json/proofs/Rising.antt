-- What has names that rise is sorted by name.
use Rattle.std.proofs.Common.{◌≡◌, ℕ, List, [], ◌∷◌, Less, map}
use Rattle.std.specs.List.{AllByRecursion}
use Rattle.std.specs.List.Sorted.{IsStrictlySortedBy}
use Rattle.rate_types.specs.Counters.{text_cmp}
use Rattle.quota_settings.specs.Pairs.{AllAfter, IsSorted}
use Rattle.quota_settings.specs.Parts.{NamePart, PartsAfter, ArePartsSorted}
use Rattle.quota_settings.specs.declared.pair.Pair.{Pair}

pairs_after : (name : List ℕ) (ps : List Pair) → AllByRecursion (λ n. text_cmp name n ≡ Less) (map (λ p. p.name) ps) → AllAfter name ps
pairs_after name [] after = tt
pairs_after name (p ∷ ps) after = (after.0, pairs_after name ps after.1)

pub pairs_rise : (ps : List Pair) → IsStrictlySortedBy text_cmp (map (λ p. p.name) ps) → IsSorted ps
unfolding IsStrictlySortedBy
pairs_rise [] rise = tt
pairs_rise (p ∷ ps) rise = (pairs_after p.name ps rise.0, pairs_rise ps rise.1)

parts_after : (name : List ℕ) (ps : List NamePart) → AllByRecursion (λ n. text_cmp name n ≡ Less) (map (λ p. p.name) ps) → PartsAfter name ps
parts_after name [] after = tt
parts_after name (p ∷ ps) after = (after.0, parts_after name ps after.1)

pub parts_rise : (ps : List NamePart) → IsStrictlySortedBy text_cmp (map (λ p. p.name) ps) → ArePartsSorted ps
unfolding IsStrictlySortedBy
parts_rise [] rise = tt
parts_rise (p ∷ ps) rise = (parts_after p.name ps rise.0, parts_rise ps rise.1)
