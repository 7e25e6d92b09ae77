-- The members of an object after one is removed.
use Rattle.std.proofs.Common.{◌≡◌, ℕ, List, [], ◌∷◌, Bool, true, false, cond, String, Global, string_bytes, nat_cmp, bytes_eq, refl, ap}
use Rattle.std.specs.Cmp.Lexicographic.{slice_cmp}
use Rattle.std.specs.BTreeMap.{is_at}
use Rattle.std.specs.Map.{remove_entry}
use Rattle.std.proofs.lemmas.Map.Text.{is_eq-slice_cmp}
use Rattle.serde_json.specs.Data.{Members, member}
use Rattle.serde_json.specs.View.{view, members_view}
use Rattle.serde_json.specs.declared.value.Value.{Value}
use Rattle.proto_json.specs.Fields.{without}

abbrev pub Entry : Type 0
Entry = String Global × Value

taken_or : (b : Bool) (e : Entry) (es rest : List Entry) (ms : Members) → members_view rest ≡ ms
    → members_view (cond b es (e ∷ rest)) ≡ cond b (members_view es) (member (string_bytes e.0) (view e.1) ms)
taken_or true e es rest ms is = refl
taken_or false e es rest ms is = ap (member (string_bytes e.0) (view e.1)) is

pub members_view-remove : (name : List ℕ) (es : List Entry) → members_view (remove_entry (is_at
    (λ k. slice_cmp nat_cmp name (string_bytes k))) es) ≡ without name (members_view es)
members_view-remove name [] = refl
members_view-remove name (e ∷ es) = rw (is_eq-slice_cmp name (string_bytes e.0)) (taken_or (bytes_eq name (string_bytes e.0)) e es _ _ (members_view-remove name es))
