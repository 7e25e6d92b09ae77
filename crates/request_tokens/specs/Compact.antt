-- The texts of requests in the usual form with no space between their tokens and no escape, each with what follows.
use Rattle.std.specs.Prelude.{ℕ, List, [], ◌∷◌, ◌++◌, codes}
use Rattle.json.specs.Print.{quoted}
use Rattle.rate_types.specs.Requests.{RequestParts}
use Rattle.rate_types.specs.declared.entries.Entry.{Entry}
use Rattle.rate_types.specs.declared.request.Descriptor.{Descriptor}

-- what stands behind an item of a list: a comma before each other item, the closing bracket, and what follows
abbrev pub more_text : {X : Type 0} → (X → List ℕ → List ℕ) → List X → List ℕ → List ℕ
more_text each [] rest = 93 ∷ rest
more_text each (x ∷ xs) rest = 44 ∷ each x (more_text each xs rest)

-- what stands between brackets, with the closing one, and what follows
abbrev pub list_text : {X : Type 0} → (X → List ℕ → List ℕ) → List X → List ℕ → List ℕ
list_text each [] rest = 93 ∷ rest
list_text each (x ∷ xs) rest = each x (more_text each xs rest)

-- {"key":..,"value":..} and what follows
abbrev pub entry_text : Entry → List ℕ → List ℕ
entry_text e rest = codes "{\"key\":" ++ (quoted e.key ++ (codes ",\"value\":" ++ (quoted e.value ++ (codes "}" ++ rest))))

-- {"entries":[..]} and what follows
abbrev pub descriptor_text : Descriptor → List ℕ → List ℕ
descriptor_text d rest = codes "{\"entries\":[" ++ list_text entry_text d.entries (codes "}" ++ rest)

-- {"domain":..,"descriptors":[..]} and what follows
abbrev pub request_text : RequestParts → List ℕ → List ℕ
request_text r rest = codes "{\"domain\":"
    ++ (quoted r.domain ++ (codes ",\"descriptors\":[" ++ list_text descriptor_text r.descriptors (codes "}" ++ rest)))
