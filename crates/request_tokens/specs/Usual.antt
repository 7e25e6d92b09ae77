-- The tokens of requests in the usual form: a domain, and then descriptors that have entries alone.
use Rattle.std.specs.Prelude.{◌≡◌, ◌≤◌, List, [], ◌∷◌, length, codes, None}
use Rattle.std.specs.List.{AllByRecursion}
use Rattle.json.specs.Token.{Token, begin_object, end_object, begin_array, end_array, key, string}
use Rattle.rate_types.specs.Requests.{RequestParts}
use Rattle.rate_types.specs.declared.entries.Entry.{Entry}
use Rattle.rate_types.specs.declared.request.Descriptor.{Descriptor}
use Rattle.rate_types.specs.declared.limits.TheConstants.{LONGEST_TEXT, MOST_DESCRIPTORS, MOST_ENTRIES}

-- what stands between brackets, with the closing one, and what follows
abbrev pub list_tokens : {X : Type 0} → (X → List Token → List Token) → List X → List Token → List Token
list_tokens each [] rest = end_array ∷ rest
list_tokens each (x ∷ xs) rest = each x (list_tokens each xs rest)

-- {"key":..,"value":..} and what follows
abbrev pub entry_tokens : Entry → List Token → List Token
entry_tokens e rest = begin_object ∷ key (codes "key") ∷ string e.key ∷ key (codes "value") ∷ string e.value ∷ end_object ∷ rest

-- {"entries":[..]} and what follows
abbrev pub descriptor_tokens : Descriptor → List Token → List Token
descriptor_tokens d rest = begin_object ∷ key (codes "entries") ∷ begin_array ∷ list_tokens entry_tokens d.entries (end_object ∷ rest)

-- {"domain":..,"descriptors":[..]} and what follows
abbrev pub request_tokens : RequestParts → List Token → List Token
request_tokens r rest = begin_object ∷ key (codes "domain") ∷ string r.domain ∷ key (codes "descriptors") ∷ begin_array
    ∷ list_tokens descriptor_tokens r.descriptors (end_object ∷ rest)

-- a key that isn't empty and a value, neither too long
pub record IsShort (e : Entry) : Type 0 where
  pub some : 1 ≤ length e.key
  pub key : length e.key ≤ LONGEST_TEXT
  pub value : length e.value ≤ LONGEST_TEXT

-- a descriptor with entries alone, of which it has some and not too many
pub record IsPlain (d : Descriptor) : Type 0 where
  pub some : 1 ≤ length d.entries
  pub few : length d.entries ≤ MOST_ENTRIES
  pub short : AllByRecursion IsShort d.entries
  pub own : d.own ≡ None
  pub hits : d.hits ≡ None

-- a request of such descriptors, of which it has some and not too many, with the hits that a request has that names none
pub record IsUsual (r : RequestParts) : Type 0 where
  pub some_domain : 1 ≤ length r.domain
  pub short_domain : length r.domain ≤ LONGEST_TEXT
  pub some : 1 ≤ length r.descriptors
  pub few : length r.descriptors ≤ MOST_DESCRIPTORS
  pub plain : AllByRecursion IsPlain r.descriptors
  pub hits : r.hits ≡ 1
