-- The JSON of requests in the usual form, and that its tokens are read as it.
use Rattle.std.proofs.Common.{◌≡◌, ℕ, ◌≤◌, List, [], ◌∷◌, ◌++◌, map, Some, codes, arith, refl, sym, ap, ◌∙◌, append_assoc, append-nil}
use Rattle.json.specs.Token.{Token}
use Rattle.json.specs.Lex.{tokens}
use Rattle.json.specs.Json as json
use Rattle.json.specs.Tree.{json_tokens, items_tokens, depth, items_depth}
use Rattle.json.proofs.Printed.Trees.{value-json_tokens}
use Rattle.serde_json.specs.Data.{Data, string, array, object, no_members, member}
use Rattle.serde_json.specs.Read.{read, of_json, of_items, max_depth}
use Rattle.serde_json.specs.View.{items_of}
use Rattle.serde_json.proofs.OnLiterals.{serde_json_on_literals}
use Rattle.rate_types.specs.Requests.{RequestParts}
use Rattle.rate_types.specs.declared.entries.Entry.{Entry}
use Rattle.rate_types.specs.declared.request.Descriptor.{Descriptor}
use Rattle.request_tokens.specs.Usual.{list_tokens, entry_tokens, descriptor_tokens, request_tokens}

-- ---- the values, with their members in the order of the names

abbrev pub entry_data : Entry → Data
entry_data e = object (member (codes "key") (string e.key) (member (codes "value") (string e.value) no_members))

abbrev pub descriptor_data : Descriptor → Data
descriptor_data d = object (member (codes "entries") (array (items_of (map entry_data d.entries))) no_members)

abbrev pub request_data : RequestParts → Data
request_data r = object (member (codes "descriptors") (array (items_of (map descriptor_data r.descriptors)))
    (member (codes "domain") (string r.domain) no_members))

-- ---- the grammar's values, with their members as they are written

abbrev items_json : {X : Type 0} → (X → json.Json) → List X → json.Items
items_json each [] = json.no_items
items_json each (x ∷ xs) = json.item (each x) (items_json each xs)

abbrev entry_json : Entry → json.Json
entry_json e = json.object (json.member (codes "key") (json.string e.key) (json.member (codes "value") (json.string e.value) json.no_members))

abbrev descriptor_json : Descriptor → json.Json
descriptor_json d = json.object (json.member (codes "entries") (json.array (items_json entry_json d.entries)) json.no_members)

abbrev pub request_json : RequestParts → json.Json
request_json r = json.object (json.member (codes "domain") (json.string r.domain)
    (json.member (codes "descriptors") (json.array (items_json descriptor_json r.descriptors)) json.no_members))

-- ---- tokens

list_is : {X : Type 0} (each : X → List Token → List Token) (value : X → json.Json)
    → ((x : X) (rest : List Token) → each x rest ≡ json_tokens (value x) ++ rest)
    → (xs : List X) (rest : List Token) → list_tokens each xs rest ≡ items_tokens (items_json value xs) ++ rest
list_is each value one [] rest = refl
list_is each value one (x ∷ xs) rest =
    one x (list_tokens each xs rest) ∙ ap (λ l. json_tokens (value x) ++ l) (list_is each value one xs rest)
    ∙ sym (append_assoc (json_tokens (value x)) (items_tokens (items_json value xs)) rest)

entry_is : (e : Entry) (rest : List Token) → entry_tokens e rest ≡ json_tokens (entry_json e) ++ rest
entry_is e rest = refl

descriptor_is : (d : Descriptor) (rest : List Token) → descriptor_tokens d rest ≡ json_tokens (descriptor_json d) ++ rest
descriptor_is d rest = rw (list_is entry_tokens entry_json entry_is d.entries (Token.end_object ∷ rest))
    simp append_assoc

pub request_is : (r : RequestParts) (rest : List Token) → request_tokens r rest ≡ json_tokens (request_json r) ++ rest
request_is r rest = rw (list_is descriptor_tokens descriptor_json descriptor_is r.descriptors (Token.end_object ∷ rest))
    simp append_assoc

-- ---- how deep they nest

items_deep : {X : Type 0} (value : X → json.Json) (most : ℕ) → ((x : X) → depth (value x) ≤ most) → (xs : List X) → items_depth (items_json value xs) ≤ most
items_deep value most one [] = omega arith
items_deep value most one (x ∷ xs) = omega (arith, one x, items_deep value most one xs)

entry_deep : (e : Entry) → depth (entry_json e) ≤ 1
entry_deep e = omega arith

descriptor_deep : (d : Descriptor) → depth (descriptor_json d) ≤ 3
descriptor_deep d = omega (arith, items_deep entry_json 1 entry_deep d.entries)

pub request_deep : (r : RequestParts) → depth (request_json r) ≤ 5
request_deep r = omega (arith, items_deep descriptor_json 3 descriptor_deep r.descriptors)

-- ---- what they are read as

items_read : {X : Type 0} (value : X → json.Json) (shown : X → Data) → ((x : X) → of_json (value x) ≡ Some (shown x))
    → (xs : List X) → of_items (items_json value xs) ≡ Some (items_of (map shown xs))
items_read value shown one [] = refl
items_read value shown one (x ∷ xs) = rw (one x, items_read value shown one xs) refl

entry_read : (e : Entry) → of_json (entry_json e) ≡ Some (entry_data e)
unfolding serde_json_on_literals
entry_read e = refl

descriptor_read : (d : Descriptor) → of_json (descriptor_json d) ≡ Some (descriptor_data d)
unfolding serde_json_on_literals
descriptor_read d = rw (items_read entry_json entry_data entry_read d.entries) refl

pub request_read : (r : RequestParts) → of_json (request_json r) ≡ Some (request_data r)
unfolding serde_json_on_literals
request_read r = rw (items_read descriptor_json descriptor_data descriptor_read r.descriptors) refl

-- a text of exactly these tokens is read as this value
pub read_of : (text : List ℕ) (j : json.Json) (d : Data) → tokens text ≡ json_tokens j → depth j ≤ 10 → of_json j ≡ Some d → read text ≡ Some d
read_of text j d same deep is = rw (same ∙ sym (append-nil (json_tokens j)), value-json_tokens j max_depth [] (omega (arith, deep))) is
