-- Files that are read one after the other.
use Rattle.std.proofs.Common.{◌≡◌, ℕ, suc, ◌+◌, ◌<◌, List, [], ◌∷◌, ◌++◌, length, map, drop, get_or, Some, Result, Ok, Err, refl, sym, ap, ◌∙◌, append_assoc, add-one, subst}
use Rattle.std.proofs.Math.Seq.{drop-cons}
use Rattle.std.specs.List.{All}
use Rattle.std.proofs.lemmas.List.Elements.{All-push}
use Rattle.std.specs.Option.{option_to_list}
use Rattle.rate_types.specs.declared.refused.Refused.{Refused}
use Rattle.rate_types.specs.declared.refused.At.{At}
use Rattle.rate_types.specs.declared.fault.Fault.{Fault}
use Rattle.rate_types.specs.declared.fault.Fault.TheVariants as fault
use Rattle.rate_types.specs.Reading.{IsRefusal, AnswersReading, first_or}
use Rattle.proto_json.specs.Said.{Said, said, faults_of, value_of, reading_of}
use Rattle.descriptor_tree.specs.Trees.{DomainTree}
use Rattle.descriptor_tree.specs.Faults.{in_file, config_faults}
use Rattle.descriptor_tree.specs.Config.{AreWellFormed}
use Rattle.config_json.specs.Trees.{file}
use Rattle.config_json.specs.Reading as files

-- what the files from this index on say behind these trees
abbrev pub behind : List DomainTree → ℕ → List (List ℕ) → Result (List DomainTree) At
behind front index rest = first_or (files.file_faults index rest) (front ++ files.trees_of rest)

-- so far these trees were read
pub record Read (all : List (List ℕ)) (index : ℕ) (front : List DomainTree) : Type 0 where
  pub answer : behind front index (drop index all) ≡ behind [] 0 all
  pub formed : All (λ t. AreWellFormed t.forest) front

clean : {X : Type 0} (part : Said X) (x : X) → reading_of part ≡ Ok x → (faults_of part ≡ []) × (value_of part ≡ x)
clean (said [] y) x is = (refl, same)
  where
    same : y ≡ x
    same = cc
clean (said (f ∷ fs) y) x is = cc

pub behind_more : (front : List DomainTree) (index : ℕ) (bytes : List ℕ) (rest : List (List ℕ)) (t : DomainTree) → reading_of (file bytes) ≡ Ok (Some t)
    → behind front index (bytes ∷ rest) ≡ behind (front ++ t ∷ []) (index + 1) rest
behind_more front index bytes rest t is =
    let parts = clean (file bytes) (Some t) is in
    ap (λ fs. first_or (map (in_file index) fs ++ files.file_faults (index + 1) rest) (front ++ (option_to_list (value_of (file bytes)) ++ files.trees_of rest))) parts.0
    ∙ ap (λ o. first_or (files.file_faults (index + 1) rest) (front ++ (option_to_list o ++ files.trees_of rest))) parts.1
    ∙ ap (λ ts. first_or (files.file_faults (index + 1) rest) ts) (sym (append_assoc front (t ∷ []) (files.trees_of rest)))

refused_first : {X : Type 0} (part : Said X) (r : Refused) (index : ℕ) (more : List At) (ts : List DomainTree) → reading_of part ≡ Err r
    → first_or (map (in_file index) (faults_of part) ++ more) ts ≡ Err (in_file index r)
refused_first (said [] x) r index more ts is = cc
refused_first (said (f ∷ fs) x) r index more ts is = ap (λ q. Err (in_file index q)) same
  where
    same : f ≡ r
    same = cc

rest_is : (all : List (List ℕ)) (index : ℕ) (bytes : List ℕ) → index < length all → bytes ≡ get_or all index bytes → drop index all ≡ bytes ∷ drop (index + 1) all
rest_is all index bytes within is = rw (add-one index) (drop-cons all index bytes within ∙ ap (λ (b : List ℕ). b ∷ drop (suc index) all) (sym is))

-- the file at hand is refused
pub read_stops : (all : List (List ℕ)) (index : ℕ) (front : List DomainTree) (bytes : List ℕ) (e : Fault Refused) → Read all index front → index < length all
    → bytes ≡ get_or all index bytes
    → IsRefusal e (reading_of (file bytes)) → AnswersReading {X = List DomainTree} {Y = List DomainTree} (λ ts. ts) (Err (files.placed index e)) (behind [] 0 all)
read_stops all index front bytes fault.OutOfMemory w within is refused = tt
read_stops all index front bytes (fault.Refused r) w within is refused =
    sym w.answer ∙ ap (behind front index) (rest_is all index bytes within is)
    ∙ refused_first (file bytes) r index (files.file_faults (index + 1) (drop (index + 1) all)) (front ++ files.trees_of (bytes ∷ drop (index + 1) all)) refused

-- the file at hand was read
pub read_goes_on : (all : List (List ℕ)) (index : ℕ) (front after : List DomainTree) (bytes : List ℕ) (t : DomainTree) → Read all index front → index < length all
    → bytes ≡ get_or all index bytes
    → reading_of (file bytes) ≡ Ok (Some t) → AreWellFormed t.forest → after ≡ front ++ t ∷ [] → Read all (index + 1) after
read_goes_on all index front after bytes t w within is read formed pushed = record {
  answer = ap (λ ts. behind ts (index + 1) (drop (index + 1) all)) pushed ∙ sym (behind_more front index bytes (drop (index + 1) all) t read)
      ∙ ap (behind front index) (sym (rest_is all index bytes within is)) ∙ w.answer;
  formed = subst (λ (ts : List DomainTree). All (λ u. AreWellFormed u.forest) ts) (sym pushed) (All-push (λ u. AreWellFormed u.forest) front t w.formed formed);
}

first_of : {X Y : Type 0} (xs ys : List At) (x : X) (y : Y) (at : At) → first_or xs x ≡ Err at → first_or (files.or_those xs ys) y ≡ Err at
first_of [] ys x y at is = cc
first_of (f ∷ fs) ys x y at is = ap Err same
  where
    same : f ≡ at
    same = cc

none_of : {X : Type 0} (xs : List At) (x z : X) → first_or xs x ≡ Ok z → (xs ≡ []) × (x ≡ z)
none_of [] x z is = (refl, cc)
none_of (f ∷ fs) x z is = cc

-- files that are refused
pub reading_refused : (all : List (List ℕ)) (at : At) → behind [] 0 all ≡ Err at → files.reading_of all ≡ Err at
unfolding files.reading_of files.faults_of
reading_refused all at is = first_of (files.file_faults 0 all) (config_faults (files.trees_of all)) (files.trees_of all) (files.trees_of all) at is

-- files that are read: their trees decide
pub reading_of_trees : (all : List (List ℕ)) (ts : List DomainTree) → behind [] 0 all ≡ Ok ts → files.reading_of all ≡ first_or (config_faults ts) ts
unfolding files.reading_of files.faults_of
reading_of_trees all ts is =
    let none = none_of (files.file_faults 0 all) (files.trees_of all) ts is in
    ap (λ fs. first_or (files.or_those fs (config_faults (files.trees_of all))) (files.trees_of all)) none.0 ∙ ap (λ us. first_or (config_faults us) us) none.1

-- reading that fails
pub reading_fails : {X Y : Type 0} (see : X → List DomainTree) (seen : Y → List DomainTree) (all : List (List ℕ)) (e : Fault At) → AnswersReading seen (Err e) (behind [] 0 all)
    → AnswersReading see (Err e) (files.reading_of all)
reading_fails see seen all (fault.Refused at) is = reading_refused all at is
reading_fails see seen all fault.OutOfMemory is = tt
