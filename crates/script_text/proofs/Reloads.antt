-- The files of a reload, one after the other, and the faults of their trees.
use Rattle.std.proofs.Common.{◌≡◌, ℕ, ◌+◌, List, [], ◌∷◌, ◌++◌, map, Option, Some, None, option_map, Result, Ok, Err, refl, sym, ap, subst, ◌∙◌, append_assoc, length}
use Rattle.std.proofs.Common.{arith}
use Rattle.std.proofs.lemmas.List.{append-nil}
use Rattle.rate_types.specs.Places as places
use Rattle.rate_types.specs.declared.refused.Refused.{Refused}
use Rattle.rate_types.specs.declared.refused.At.{At}
use Rattle.rate_types.specs.declared.fault.Fault.{Fault}
use Rattle.rate_types.specs.declared.fault.Fault.TheVariants as fault
use Rattle.rate_types.specs.Reading.{IsRefusal, first_or}
use Rattle.serde_json.specs.Data.{Items}
use Rattle.serde_json.specs.View.{view, items_view}
use Rattle.serde_json.specs.declared.value.Value.{Value}
use Rattle.proto_json.specs.Said.{Said, said, says, reading_of, ◌>>=◌}
use Rattle.proto_json.specs.Laws.{then_read, reading_then}
use Rattle.proto_json.specs.Lists.{items_from, with_first}
use Rattle.descriptor_tree.specs.Trees.{DomainTree}
use Rattle.descriptor_tree.specs.Faults.{config_faults}
use Rattle.config_json.specs.Trees.{file_at}
use Rattle.script_run.specs.ScriptLine.{ScriptLine, reload}
use Rattle.script_text.specs.Script.{in_list, config_of}

-- what the rest of a list says behind these trees
abbrev pub behind : List DomainTree → Result (Option (List DomainTree)) Refused → Result (Option (List DomainTree)) Refused
behind front read = then_read read (λ ts. Ok (option_map (λ more. front ++ more) ts))

behind_more : (front : List DomainTree) (t : DomainTree) (read : Result (Option (List DomainTree)) Refused)
    → behind front (then_read read (λ ts. Ok (with_first (Some t) ts))) ≡ behind (front ++ t ∷ []) read
behind_more front t (Err e) = refl
behind_more front t (Ok None) = refl
behind_more front t (Ok (Some ts)) = ap (λ more. Ok (Some more)) (sym (append_assoc front (t ∷ []) ts))

-- the files from this index on, behind their first
abbrev rest_of : List ℕ → ℕ → Items → Option DomainTree → Said (Option (List DomainTree))
rest_of place index ds t = items_from file_at place (index + 1) ds >>= λ ts. says (with_first t ts)

-- so far these trees were read, and the rest is to be read from this index on
abbrev pub TreesSoFar : List ℕ → List Value → List Value → ℕ → List DomainTree → Type 0
TreesSoFar place all rest index ts =
    behind ts (reading_of (items_from file_at place index (items_view rest))) ≡ reading_of (items_from file_at place 0 (items_view all))

pub so_far_more : (place : List ℕ) (all rest more : List Value) (index : ℕ) (ts : List DomainTree) (v : Value) (t : DomainTree)
    → TreesSoFar place all rest index ts → rest ≡ v ∷ more → reading_of (file_at (places.item place index) (view v)) ≡ Ok (Some t)
    → TreesSoFar place all more (index + 1) (ts ++ t ∷ [])
unfolding items_from
so_far_more place all rest more index ts v t so_far is one =
    sym (ap (behind ts) (reading_then (file_at (places.item place index) (view v)) (rest_of place index (items_view more))
    ∙ ap (λ r. then_read r (λ x. reading_of (rest_of place index (items_view more) x))) one
    ∙ reading_then (items_from file_at place (index + 1) (items_view more)) (λ us. says (with_first (Some t) us)))
    ∙ behind_more ts t (reading_of (items_from file_at place (index + 1) (items_view more))))
    ∙ subst (λ (vs : List Value). TreesSoFar place all vs index ts) is so_far

pub so_far_refused : (place : List ℕ) (all rest more : List Value) (index : ℕ) (ts : List DomainTree) (v : Value) (e : Fault Refused)
    → TreesSoFar place all rest index ts → rest ≡ v ∷ more → IsRefusal e (reading_of (file_at (places.item place index) (view v)))
    → IsRefusal e (reading_of (items_from file_at place 0 (items_view all)))
unfolding items_from
so_far_refused place all rest more index ts v fault.OutOfMemory so_far is refused = tt
so_far_refused place all rest more index ts v (fault.Refused r) so_far is refused =
    sym (subst (λ (vs : List Value). TreesSoFar place all vs index ts) is so_far)
    ∙ ap (behind ts) (reading_then (file_at (places.item place index) (view v)) (rest_of place index (items_view more))
    ∙ ap (λ q. then_read q (λ x. reading_of (rest_of place index (items_view more) x))) refused)

pub so_far_all : (place : List ℕ) (all rest : List Value) (index : ℕ) (ts : List DomainTree) → TreesSoFar place all rest index ts → rest ≡ []
    → reading_of (items_from file_at place 0 (items_view all)) ≡ Ok (Some ts)
unfolding items_from
so_far_all place all rest index ts so_far is =
    sym (subst (λ (vs : List Value). TreesSoFar place all vs index ts) is so_far) ∙ ap (λ us. Ok (Some us)) (append-nil ts)

pub none_left : (vs : List Value) → length vs ≡ 0 → vs ≡ []
none_left [] h = λ i. []
none_left (v ∷ vs) h = absurd (omega (arith, h))

pub map_push : {X Y : Type 0} (f : X → Y) (xs : List X) (x : X) → map f (xs ++ x ∷ []) ≡ map f xs ++ f x ∷ []
map_push f [] x = refl
map_push f (y ∷ ys) x = ap (λ zs. f y ∷ zs) (map_push f ys x)

-- ---- the faults of the trees

moved : (place : List ℕ) (faults : List At) (ts : List DomainTree) (x : Option ScriptLine) (at : At) → first_or faults ts ≡ Err at
    → reading_of (said (map (in_list place) faults) x) ≡ Err (in_list place at)
moved place [] ts x at is = absurd (cc)
moved place (f ∷ fs) ts x at is = let same : f ≡ at = cc in ap (λ a. Err (in_list place a)) same

kept : (place : List ℕ) (faults : List At) (ts us : List DomainTree) → first_or faults ts ≡ Ok us
    → reading_of (said (map (in_list place) faults) (Some (reload ts))) ≡ Ok (Some (reload us))
kept place [] ts us is = let same : ts ≡ us = cc in ap (λ vs. Ok (Some (reload vs))) same
kept place (f ∷ fs) ts us is = absurd (cc)

pub config_refused : (place : List ℕ) (ts : List DomainTree) (at : At) → first_or (config_faults ts) ts ≡ Err at
    → reading_of (config_of place ts) ≡ Err (in_list place at)
unfolding config_of
config_refused place ts at is = moved place (config_faults ts) ts (Some (reload ts)) at is

pub config_kept : (place : List ℕ) (ts us : List DomainTree) → first_or (config_faults ts) ts ≡ Ok us
    → reading_of (config_of place ts) ≡ Ok (Some (reload us))
unfolding config_of
config_kept place ts us is = kept place (config_faults ts) ts us is

-- a refusal that is only this one
pub only_refused : {X : Type 0} (e : Fault Refused) (r : Refused) (reading : Result X Refused) → ((x : Refused) → e ≡ fault.Refused x → x ≡ r) → reading ≡ Err r
    → IsRefusal e reading
only_refused (fault.Refused x) r reading only is = is ∙ ap Err (sym (only x refl))
only_refused fault.OutOfMemory r reading only is = tt
