-- How deep a value nests: what is taken from it nests less deep.
use Rattle.std.proofs.Common.{◌≡◌, ℕ, suc, ◌≤◌, max, List, [], ◌∷◌, ◌++◌, Option, Some, None, Bool, true, false, Result, Ok, Err, Ordering, Less, Equal, Greater, bytes_eq}
use Rattle.std.proofs.Common.{codes, cond, nat_cmp, arith, refl, sym, ap, subst, ◌∙◌}
use Rattle.std.specs.Cmp.Lexicographic.{slice_cmp}
use Rattle.std.specs.Ordering.{match_ordering}
use Rattle.serde_json.specs.Data.{Data, null, boolean, number, string, array, object, Members, no_members, member, depth, items_depth, members_depth}
use Rattle.serde_json.specs.Find.{get_member}
use Rattle.serde_json.specs.View.{view, items_view}
use Rattle.serde_json.specs.declared.value.Value.{Value}
use Rattle.rate_types.specs.Places as places
use Rattle.rate_types.specs.declared.refused.Refused.{Refused}
use Rattle.proto_json.specs.Said.{Said, reading_of}
use Rattle.proto_json.specs.Laws.{then_read}
use Rattle.rate_types.specs.declared.refusals.TheConstants.{WRONG_KIND}
use Rattle.proto_json.specs.Fields.{Object, Listed, Name, take, field, standing, after, without}
use Rattle.proto_json.specs.Kinds as kinds
use Rattle.proto_json.specs.Laws.{take_field}
use Rattle.config_json.specs.FieldNames.{descriptors}

-- what a reading that is some pair can't be, and what it must be
abbrev Read : Type 0 → Type 0 → Type 0
Read A B = Result (Option A × B) Refused

none_some : {A B : Type 0} (r : Read A B) (a : A) (b c : B) → r ≡ Ok (None, b) → r ≡ Ok (Some a, c) → ⊥
none_some {A = A} {B = B} r a b c is other =
    let pair : ◌≡◌ {A = Option A × B} (None, b) (Some a, c) = cc in
    let value : ◌≡◌ {A = Option A} None (Some a) = ap (λ (p : Option A × B). p.0) pair in
    cc

err_some : {A B : Type 0} (r : Read A B) (e : Refused) (a : A) (c : B) → r ≡ Err e → r ≡ Ok (Some a, c) → ⊥
err_some r e a c is other = cc

same_list : {B : Type 0} (r : Read Listed B) (xs ys : Listed) (b c : B) → r ≡ Ok (Some xs, b) → r ≡ Ok (Some ys, c) → xs ≡ ys
same_list {B = B} r xs ys b c is other =
    let pair : ◌≡◌ {A = Option Listed × B} (Some xs, b) (Some ys, c) = cc in
    let value : ◌≡◌ {A = Option Listed} (Some xs) (Some ys) = ap (λ (x : Option Listed × B). x.0) pair in
    cc

same_left : {A B : Type 0} (r : Read A B) (v w : Option A) (b c : B) → r ≡ Ok (v, b) → r ≡ Ok (w, c) → b ≡ c
same_left {A = A} {B = B} r v w b c is other =
    let pair : ◌≡◌ {A = Option A × B} (v, b) (w, c) = cc in
    ap (λ (p : Option A × B). p.1) pair

pub message_depth : (place : List ℕ) (d : Data) (o : Object) → reading_of (kinds.message place d) ≡ Ok (Some o) → depth d ≡ suc (members_depth o.members)
unfolding kinds.message
message_depth place null o is = cc
message_depth place (boolean b) o is = cc
message_depth place (number n) o is = cc
message_depth place (string s) o is = cc
message_depth place (array ds) o is = cc
message_depth place (object ms) o is = ap (λ m. suc (members_depth m)) same
  where
    same : ms ≡ o.members
    same = cc

without_or : (b : Bool) (k : List ℕ) (d : Data) (ms rest : Members) → members_depth rest ≤ members_depth ms
    → members_depth (cond b ms (member k d rest)) ≤ members_depth (member k d ms)
without_or true k d ms rest h = omega arith
without_or false k d ms rest h = omega arith

without_depth : (name : List ℕ) (ms : Members) → members_depth (without name ms) ≤ members_depth ms
without_depth name no_members = omega arith
without_depth name (member k d ms) = without_or (bytes_eq name k) k d ms _ (without_depth name ms)

after_depth : (name : Name) (o : Object) → members_depth (after name o).members ≤ members_depth o.members
unfolding after
after_depth name o = by (bytes_eq name.camel name.plain)
  where
    by : (b : Bool) → members_depth (cond b (without name.camel o.members) (without name.plain (without name.camel o.members))) ≤ members_depth o.members
    by true = without_depth name.camel o.members
    by false = omega (arith, without_depth name.camel o.members, without_depth name.plain (without name.camel o.members))

-- the object that is left nests no deeper
pub take_depth : {X : Type 0} (kind : List ℕ → Data → Said (Option X)) (name : Name) (o : Object) (v : Option X) (left : Object) → reading_of (take kind name o) ≡ Ok (v, left)
    → members_depth left.members ≤ members_depth o.members
take_depth {X = X} kind name o v left is = by (reading_of (field kind name o)) (sym (take_field kind name o) ∙ is)
  where
    by : (read : Result (Option X) Refused) → then_read {Y = Option X × Object} read (λ value. Ok (value, after name o)) ≡ Ok (v, left)
        → members_depth left.members ≤ members_depth o.members
    by (Err e) h = cc
    by (Ok value) h = subst (λ (x : Object). members_depth x.members ≤ members_depth o.members) (same_left (then_read {Y = Option X
        × Object} (Ok value) (λ x. Ok (x, after name o))) value v (after name o) left refl h) (after_depth name o)

get_or_depth : (o : Ordering) (d : Data) (found : Option Data) (e : Data) (n : ℕ) → match_ordering o found (Some e) found ≡ Some d → ((x : Data) → found ≡ Some x → depth x ≤ n)
    → depth d ≤ max (depth e) n
get_or_depth Less d found e n is later = omega (arith, later d is)
get_or_depth Equal d found e n is later = subst (λ (x : Data). depth x ≤ max (depth e) n) (same d e is) (omega arith)
  where
    same : (d e : Data) → Some e ≡ Some d → e ≡ d
    same d e h = cc
get_or_depth Greater d found e n is later = omega (arith, later d is)

get_depth : (name : List ℕ) (ms : Members) (d : Data) → get_member name ms ≡ Some d → depth d ≤ members_depth ms
get_depth name no_members d is = absurd (none d is)
  where
    none : (d : Data) → None ≡ Some d → ⊥
    none d h = cc
get_depth name (member k e ms) d is = get_or_depth (slice_cmp nat_cmp name k) d (get_member name ms) e (members_depth ms) is (λ x h. get_depth name ms x h)

-- the list of nodes nests less deep than the object
pub list_depth : (o : Object) (l : Listed) (left : Object) → reading_of (take kinds.list descriptors o) ≡ Ok (Some l, left)
    → suc (items_depth l.items) ≤ members_depth o.members
unfolding take field standing kinds.list
list_depth o l left is = by (get_member (codes "descriptors") o.members) refl
  where
    by : (found : Option Data) → get_member (codes "descriptors") o.members ≡ found → suc (items_depth l.items) ≤ members_depth o.members
    by None g = absurd (none_some (reading_of (take kinds.list descriptors o)) l (after descriptors o) left (rw g refl) is)
    by (Some null) g = absurd (none_some (reading_of (take kinds.list descriptors o)) l (after descriptors o) left (rw g refl) is)
    by (Some (boolean b)) g = absurd (err_some (reading_of (take kinds.list descriptors o)) (record {
      at = places.child o.place (codes "descriptors");
      number =
          WRONG_KIND;
    }) l left (rw g refl) is)
    by (Some (number n)) g = absurd (err_some (reading_of (take kinds.list descriptors o)) (record {
      at = places.child o.place (codes "descriptors");
      number =
          WRONG_KIND;
    }) l left (rw g refl) is)
    by (Some (string s)) g = absurd (err_some (reading_of (take kinds.list descriptors o)) (record {
      at = places.child o.place (codes "descriptors");
      number =
          WRONG_KIND;
    }) l left (rw g refl) is)
    by (Some (object ms)) g = absurd (err_some (reading_of (take kinds.list descriptors o)) (record {
      at = places.child o.place (codes "descriptors");
      number =
          WRONG_KIND;
    }) l left (rw g refl) is)
    by (Some (array es)) g =
        let list : Listed = record { place = places.child o.place (codes "descriptors"); items = es } in
        let same : list ≡ l = same_list (reading_of (take kinds.list descriptors o)) list l (after descriptors o) left (rw g refl) is in
        subst (λ (x : Listed). suc (items_depth x.items) ≤ members_depth o.members) same (get_depth (codes "descriptors") o.members (array es) g)

pub item_depth : (front : List Value) (v : Value) (more : List Value) → depth (view v) ≤ items_depth (items_view (front ++ v ∷ more))
item_depth [] v more = omega arith
item_depth (x ∷ front) v more = omega (arith, item_depth front v more)
