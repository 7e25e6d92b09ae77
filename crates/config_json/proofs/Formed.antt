-- Nodes that are read are well-formed.
use Rattle.std.proofs.Common.{◌≢◌, ◌≤◌, ℕ, List, [], ◌∷◌, ◌++◌, length, Bool, Option, Some, None, refl, arith}
use Rattle.std.specs.List.{All}
use Rattle.std.proofs.lemmas.List.Elements.{All-nil}
use Rattle.descriptor_tree.specs.Trees.{Branch, branches_of}
use Rattle.descriptor_tree.specs.Config.{IsWellFormed, IsWellFormedBranch, AreWellFormed}
use Rattle.config_json.specs.Rules.{Rule}
use Rattle.config_json.specs.Trees.{fields_with}

some_none : {X : Type 0} (x : X) → Some x ≢ None
some_none x = λ e. cc

none_some : {X : Type 0} (x : X) → None ≢ Some x
none_some x = λ e. cc

-- with a rule
pub formed_with : (key : List ℕ) (value : Option (List ℕ)) (rule : Rule) (shadow : Bool) → value ≢ Some [] → rule.name ≢ Some [] → All (λ r. r ≢ []) rule.replaces
    → length rule.replaces ≤ 32 → All (λ r. rule.name ≢ Some r) rule.replaces
    → IsWellFormed (fields_with key value (Some rule) shadow)
formed_with key value rule shadow value_there name_there replaced few others = record {
  value_not_empty = value_there;
  name_not_empty = name_there;
  replaced_not_empty = replaced;
  replaces_few = few;
  replaces_others = others;
  named_by_rule = λ none. absurd (some_none rule.policy none);
}

-- without one
pub formed_without : (key : List ℕ) (value : Option (List ℕ)) (shadow : Bool) → value ≢ Some [] → IsWellFormed (fields_with key value None shadow)
formed_without key value shadow value_there = record {
  value_not_empty = value_there;
  name_not_empty = none_some {X = List ℕ} [];
  replaced_not_empty = All-nil (λ r. r ≢ []);
  replaces_few = omega arith;
  replaces_others = All-nil (λ r. None ≢ Some r);
  named_by_rule = λ none. (refl, refl);
}

pub formed_push : (bs : List Branch) (b : Branch) → AreWellFormed (branches_of bs) → IsWellFormedBranch b → AreWellFormed (branches_of (bs ++ b ∷ []))
formed_push [] b front last = (last, tt)
formed_push (x ∷ bs) b front last = (front.0, formed_push bs b front.1 last)
