-- What a printed rule reads as.
use Rattle.std.proofs.Common.{◌≡◌, ◌≢◌, ℕ, zero, suc, ◌≤◌, List, [], ◌∷◌, true, false, Option, Some, None, option_map, unwrap_or, codes, Ok, refl, ◌∙◌}
use Rattle.rate_types.specs.Places as places
use Rattle.rate_types.specs.declared.unit.Unit.{Unit}
use Rattle.serde_json.specs.Data.{Data, boolean, string}
use Rattle.proto_json.specs.Said.{reading_of}
use Rattle.proto_json.specs.Fields.{Object, take, ends}
use Rattle.proto_json.specs.Kinds as kinds
use Rattle.proto_json.specs.Laws.{then_read, reading_then}
use Rattle.descriptor_tree.specs.declared.policy.Policy.{Policy}
use Rattle.descriptor_tree.specs.declared.policy.Policy.TheVariants.{Limited, Unlimited}
use Rattle.config_json.specs.FieldNames as names
use Rattle.config_json.specs.Rules.{unless_empty, replaced_kind, replaces_itself, policy_rules, policy, policy_kind}
use Rattle.config_json.specs.Printed.{members_there, number_there, list_there, unit_json, names_json, rule_json}
use Rattle.config_json.specs.Bounds.{IsShort, IsSmall}
use Rattle.config_json.proofs.Chains.{Chain, ReadsAs, take_there}
use Rattle.config_json.proofs.Back.{AreReplaced, number_back, names_back, string_reads, number_reads, unit_reads, names_reads}

policy_reads : (o : Object) → reading_of (policy o) ≡ then_read (reading_of (take kinds.unit names.unit o)) (λ u.
    then_read (reading_of (take (kinds.whole 4294967295) names.requests_per_unit u.1)) (λ limit.
    then_read (reading_of (take kinds.bool names.unlimited limit.1)) (λ is_unlimited.
    then_read (reading_of (take (kinds.short_text 18) names.name is_unlimited.1)) (λ n.
    then_read (reading_of (take replaced_kind names.replaces n.1)) (λ ns.
    then_read (reading_of (ends ns.1)) (λ place.
    reading_of (policy_rules place u.0 (unwrap_or limit.0 0) (unwrap_or is_unlimited.0 false) (unless_empty n.0) (unwrap_or ns.0 []))))))))
unfolding policy
policy_reads o = simp reading_then

number_is : (n : ℕ) → unwrap_or (number_back n) 0 ≡ n
number_is zero = refl
number_is (suc n) = refl

names_is : (ns : List (List ℕ)) → unwrap_or (names_back ns) [] ≡ ns
names_is [] = refl
names_is (n ∷ ns) = refl

pub name_is : (name : Option (List ℕ)) → name ≢ Some [] → unless_empty name ≡ name
name_is None there = refl
name_is (Some []) there = absurd (there refl)
name_is (Some (b ∷ bs)) there = refl

limited_rules : (place : List ℕ) (u : Unit) (l limit : ℕ) (name' name : Option (List ℕ)) (ns' ns : List (List ℕ)) → l ≡ limit → name' ≡ name → ns' ≡ ns
    → replaces_itself name ns ≡ false
    → reading_of (policy_rules place (Some u) l false name' ns') ≡ Ok (Some (record { policy = Limited limit u; name = name; replaces = ns }))
unfolding policy_rules
limited_rules place u l limit name' name ns' ns is_l is_name is_ns other = rw (is_l, is_name, is_ns, other) refl

unlimited_rules : (place : List ℕ) (l : ℕ) (name' name : Option (List ℕ)) (ns' ns : List (List ℕ)) → name' ≡ name → ns' ≡ ns → replaces_itself name ns ≡ false
    → reading_of (policy_rules place None l true name' ns') ≡ Ok (Some (record { policy = Unlimited; name = name; replaces = ns }))
unfolding policy_rules
unlimited_rules place l name' name ns' ns is_name is_ns other = rw (is_name, is_ns, other) refl

-- what the names of a rule are, as its types and its lawfulness bound them
pub record IsNamed (name : Option (List ℕ)) (ns : List (List ℕ)) : Type 0 where
  pub name_short : IsShort name
  pub name_there : name ≢ Some []
  pub replaced : AreReplaced ns
  pub others : replaces_itself name ns ≡ false

abbrev limited_chain : Option Data → Option Data → Option Data → Option Data → Chain
limited_chain name ns limit u = (codes "name", name) ∷ (codes "replaces", ns) ∷ (codes "requestsPerUnit", limit) ∷ (codes "unit", u) ∷ []

limited_back : (place : List ℕ) (limit : ℕ) (u : Unit) (name : Option (List ℕ)) (ns : List (List ℕ)) → limit ≤ 4294967295 → IsNamed name ns
    → reading_of (policy (record {
      place = place;
      members =
          members_there (limited_chain (option_map string name) (list_there (names_json ns)) (number_there limit) (Some (unit_json u)));
    }))
    ≡ Ok (Some (record { policy = Limited limit u; name = name; replaces = ns }))
unfolding ends ReadsAs
limited_back place limit u name ns small is =
    let f1 = take_there kinds.unit place (codes "unit") (codes "unit")
    (limited_chain (option_map string name) (list_there (names_json ns)) (number_there limit) (Some (unit_json u))) (Some u) refl refl
    (unit_reads (places.child place (codes "unit")) u) in
    let f2 = take_there (kinds.whole 4294967295) place (codes "requestsPerUnit") (codes "requests_per_unit")
    (limited_chain (option_map string name) (list_there (names_json ns)) (number_there limit) None) (number_back limit) refl refl
    (number_reads (places.child place (codes "requestsPerUnit")) limit small) in
    let f3 = take_there kinds.bool place (codes "unlimited") (codes "unlimited")
    (limited_chain (option_map string name) (list_there (names_json ns)) None None) None refl refl refl in
    let f4 = take_there (kinds.short_text 18) place (codes "name") (codes "name") (limited_chain (option_map string name) (list_there (names_json ns)) None None) name refl refl
    (string_reads (places.child place (codes "name")) name is.name_short) in
    let f5 = take_there replaced_kind place (codes "replaces") (codes "replaces") (limited_chain None (list_there (names_json ns)) None None) (names_back ns) refl refl
    (names_reads (places.child place (codes "replaces")) ns is.replaced) in
    policy_reads _ ∙ rw (f1, f2, f3, f4, f5) (limited_rules place u _ limit _ name _ ns (number_is limit) (name_is name is.name_there) (names_is ns) is.others)

abbrev unlimited_chain : Option Data → Option Data → Option Data → Chain
unlimited_chain name ns b = (codes "name", name) ∷ (codes "replaces", ns) ∷ (codes "unlimited", b) ∷ []

unlimited_back : (place : List ℕ) (name : Option (List ℕ)) (ns : List (List ℕ)) → IsNamed name ns
    → reading_of (policy (record { place = place; members = members_there (unlimited_chain (option_map string name) (list_there (names_json ns)) (Some (boolean true))) }))
    ≡ Ok (Some (record { policy = Unlimited; name = name; replaces = ns }))
unfolding ends ReadsAs kinds.bool
unlimited_back place name ns is =
    let f1 = take_there kinds.unit place (codes "unit") (codes "unit")
    (unlimited_chain (option_map string name) (list_there (names_json ns)) (Some (boolean true))) None refl refl refl in
    let f2 = take_there (kinds.whole 4294967295) place (codes "requestsPerUnit") (codes "requests_per_unit")
    (unlimited_chain (option_map string name) (list_there (names_json ns)) (Some (boolean true))) None refl refl refl in
    let f3 = take_there kinds.bool place (codes "unlimited") (codes "unlimited") (unlimited_chain (option_map string name) (list_there (names_json ns)) (Some (boolean true)))
    (Some true) refl refl (refl, refl) in
    let f4 = take_there (kinds.short_text 18) place (codes "name") (codes "name") (unlimited_chain (option_map string name) (list_there (names_json ns)) None) name refl refl
    (string_reads (places.child place (codes "name")) name is.name_short) in
    let f5 = take_there replaced_kind place (codes "replaces") (codes "replaces") (unlimited_chain None (list_there (names_json ns)) None) (names_back ns) refl refl
    (names_reads (places.child place (codes "replaces")) ns is.replaced) in
    policy_reads _ ∙ rw (f1, f2, f3, f4, f5) (unlimited_rules place 0 _ name _ ns (name_is name is.name_there) (names_is ns) is.others)

pub rule_back : (place : List ℕ) (p : Policy) (name : Option (List ℕ)) (ns : List (List ℕ)) → IsSmall (Some p) → IsNamed name ns
    → reading_of (policy_kind place (rule_json p name ns)) ≡ Ok (Some (record { policy = p; name = name; replaces = ns }))
unfolding kinds.and_read kinds.message
rule_back place (Limited limit u) name ns small is = reading_then (kinds.message place (rule_json (Limited limit u) name ns)) (kinds.read_some policy)
    ∙ limited_back place limit u name ns small is
rule_back place Unlimited name ns small is = reading_then (kinds.message place (rule_json Unlimited name ns)) (kinds.read_some policy) ∙ unlimited_back place name ns is
