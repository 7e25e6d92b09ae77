-- The readings of a configuration's objects, field by field up to the first fault.
use Rattle.std.proofs.Common.{◌≡◌, ℕ, List, [], Option, Some, None, false, unwrap_or, Ok, Ordering, Less, Equal, Greater, is_eq, nat_cmp, codes, refl, ap, ◌∙◌, cond}
use Rattle.std.specs.Cmp.Lexicographic.{slice_cmp}
use Rattle.std.specs.Ordering.{match_ordering}
use Rattle.std.proofs.lemmas.Map.Text.{is_eq-slice_cmp}
use Rattle.serde_json.specs.Data.{Data, null, boolean, number, string, array, object, Members, no_members, member}
use Rattle.serde_json.specs.Find.{get_member}
use Rattle.rate_types.specs.Places as places
use Rattle.proto_json.specs.Said.{Said, said, says, preceded, reading_of}
use Rattle.proto_json.specs.Laws.{then_read}
use Rattle.proto_json.specs.Fields.{Object, take, field, standing, after, ends}
use Rattle.proto_json.specs.Kinds as kinds
use Rattle.proto_json.specs.Laws.{Apart, field_after, reading_then, take_field, then_read_assoc}
use Rattle.descriptor_tree.specs.Trees.{branch, Branches}
use Rattle.config_json.specs.FieldNames.{key, value, rate_limit, shadow_mode, detailed_metric, descriptors}
use Rattle.config_json.specs.Rules.{policy_kind, unless_empty}
use Rattle.config_json.specs.Trees.{node_in, node_at, below_in, below_at, nodes_kind, fields_with, or_none}

found_below : List ℕ → Option Data → Said (Option Branches)
found_below place None = says None
found_below place (Some d) = below_at (places.child place (codes "descriptors")) d

found_by_order : (o : Ordering) (place : List ℕ) (e : Data) (rest : Option Data) (later : Said (Option Branches)) → found_below place rest ≡ later
    → found_below place (match_ordering o rest (Some e) rest) ≡ cond (is_eq o) (below_at (places.child place (codes "descriptors")) e) later
unfolding found_below
found_by_order Less place e rest later is = is
found_by_order Equal place e rest later is = refl
found_by_order Greater place e rest later is = is

below_found : (place : List ℕ) (ms : Members) → found_below place (get_member (codes "descriptors") ms) ≡ below_in place ms
unfolding found_below below_in
below_found place no_members = refl
below_found place (member k d ms) = found_by_order (slice_cmp nat_cmp (codes "descriptors") k) place d _ _ (below_found place ms)
    ∙ rw (is_eq-slice_cmp (codes "descriptors") k) refl

preceded_none : {X : Type 0} (part : Said X) → preceded [] part ≡ part
preceded_none (said found x) = refl

field_below : (o : Object) → field nodes_kind descriptors o ≡ below_in o.place o.members
unfolding field standing kinds.and_read kinds.list found_below below_at
field_below o = by (get_member (codes "descriptors") o.members) refl ∙ below_found o.place o.members
  where
    by : (found : Option Data) → get_member (codes "descriptors") o.members ≡ found
        → field nodes_kind descriptors o ≡ found_below o.place (get_member (codes "descriptors") o.members)
    by None is = rw is refl
    by (Some null) is = rw is refl
    by (Some (boolean b)) is = rw is refl
    by (Some (number n)) is = rw is refl
    by (Some (string s)) is = rw is refl
    by (Some (array ds)) is = rw is (preceded_none _ ∙ preceded_none _)
    by (Some (object ms)) is = rw is refl

-- taking the other fields leaves the nodes
below_after : (o : Object)
    → reading_of (field nodes_kind descriptors (after detailed_metric (after shadow_mode (after rate_limit (after value (after key o))))))
    ≡ reading_of (below_in o.place o.members)
below_after o = ap reading_of (field_after nodes_kind descriptors detailed_metric _ apart5 ∙ field_after nodes_kind descriptors shadow_mode _ apart4
    ∙ field_after nodes_kind descriptors rate_limit _ apart3
    ∙ field_after nodes_kind descriptors value _ apart2 ∙ field_after nodes_kind descriptors key o apart1 ∙ field_below o)
  where
    apart1 : Apart descriptors key
    apart1 = record { camels = refl; plain_camel = refl; camel_plain = refl; plains = refl }

    apart2 : Apart descriptors value
    apart2 = record { camels = refl; plain_camel = refl; camel_plain = refl; plains = refl }

    apart3 : Apart descriptors rate_limit
    apart3 = record { camels = refl; plain_camel = refl; camel_plain = refl; plains = refl }

    apart4 : Apart descriptors shadow_mode
    apart4 = record { camels = refl; plain_camel = refl; camel_plain = refl; plains = refl }

    apart5 : Apart descriptors detailed_metric
    apart5 = record { camels = refl; plain_camel = refl; camel_plain = refl; plains = refl }

pub node_reads : (o : Object) → reading_of (node_in o (below_in o.place o.members)) ≡ then_read (reading_of (take (kinds.short_text 18) key o)) (λ k.
    then_read (reading_of (take (kinds.short_text 18) value k.1)) (λ v.
    then_read (reading_of (take policy_kind rate_limit v.1)) (λ p.
    then_read (reading_of (take kinds.bool shadow_mode p.1)) (λ s.
    then_read (reading_of (take kinds.bool detailed_metric s.1)) (λ m.
    then_read (reading_of (take nodes_kind descriptors m.1)) (λ b.
    then_read (reading_of (ends b.1)) (λ place. Ok (Some (branch (fields_with (unwrap_or k.0 []) (unless_empty v.0) p.0 (unwrap_or s.0 false)) (or_none b.0))))))))))
unfolding node_in
node_reads o = simp (reading_then, take_field, then_read_assoc, below_after)

-- a node at its place: an object, and then its fields
pub node_at_reads : (place : List ℕ) (d : Data) → reading_of (node_at place d) ≡ then_read (reading_of (kinds.message place d))
    (λ o. reading_of (kinds.read_some (λ x. node_in x (below_in x.place x.members)) o))
unfolding node_at kinds.message
node_at_reads place null = refl
node_at_reads place (boolean b) = refl
node_at_reads place (number n) = refl
node_at_reads place (string s) = refl
node_at_reads place (array ds) = refl
node_at_reads place (object ms) = refl
