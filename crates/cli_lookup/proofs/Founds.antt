-- No value of what descriptors find has a float.
use Rattle.std.proofs.Common.{◌≡◌, false, List, [], ◌∷◌, map, Option, Some, None, refl}
use Rattle.serde_json.specs.Data.{Data}
use Rattle.serde_json.specs.View.{items_of}
use Rattle.serde_json.specs.Written.{has_float, items_have_float}
use Rattle.rate_types.specs.declared.rule_id.RuleId.{RuleId}
use Rattle.rule_lookup.specs.declared.found.Found.{Found}
use Rattle.rule_lookup.specs.declared.found.Found.TheVariants.{NoRule, Unlimited, Limited}
use Rattle.cli_lookup.specs.Lookup.{rule_data, unlimited_data, limited_data, found_data}

pub items_whole : {X : Type 0} (f : X → Data) → ((x : X) → has_float (f x) ≡ false) → (xs : List X) → items_have_float (items_of (map f xs)) ≡ false
items_whole f each [] = refl
items_whole f each (x ∷ xs) = rw (each x, items_whole f each xs) refl

rule_whole : (rule : Option RuleId) → has_float (rule_data rule) ≡ false
rule_whole None = refl
rule_whole (Some rule) = refl

pub found_whole : (found : Found) → has_float (found_data found) ≡ false
unfolding unlimited_data limited_data
found_whole NoRule = refl
found_whole (Unlimited rule) = refl
found_whole (Limited limit unit shadow rule) = rw (rule_whole rule) refl
