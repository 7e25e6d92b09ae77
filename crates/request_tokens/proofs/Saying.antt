-- What the values of requests in the usual form say.
use Rattle.std.proofs.Common.{◌≡◌, ℕ, suc, ◌+◌, ◌≤◌, List, [], ◌∷◌, length, map, Option, Some, None, arith, refl, ap, le-ltb}
use Rattle.std.specs.List.{AllByRecursion}
use Rattle.serde_json.specs.Data.{Data}
use Rattle.serde_json.specs.Events.{items_len}
use Rattle.serde_json.specs.View.{items_of}
use Rattle.serde_json.proofs.OnLiterals.{serde_json_on_literals}
use Rattle.rate_types.specs.Places as places
use Rattle.rate_types.specs.Requests.{RequestParts}
use Rattle.rate_types.specs.declared.entries.Entry.{Entry}
use Rattle.rate_types.specs.declared.request.Descriptor.{Descriptor}
use Rattle.rate_types.specs.declared.request.OwnLimit.{OwnLimit}
use Rattle.rate_types.specs.declared.limits.TheConstants.{LONGEST_TEXT, MOST_DESCRIPTORS, MOST_ENTRIES}
use Rattle.proto_json.specs.Said.{Said, says}
use Rattle.proto_json.specs.Fields.{take, field, standing, after, ends}
use Rattle.proto_json.specs.Kinds.{and_read, message, short_text, list, whole}
use Rattle.proto_json.specs.Lists.{items_from, each_item}
use Rattle.reply_text.specs.ReadRequest as reading
use Rattle.request_tokens.specs.Usual.{IsShort, IsPlain, IsUsual}
use Rattle.request_tokens.proofs.Datas.{entry_data, descriptor_data, request_data}

items_say : {X : Type 0} (read : List ℕ → Data → Said (Option X)) (shown : X → Data) (P : X → Type 0)
    → ((place : List ℕ) (x : X) → P x → read place (shown x) ≡ says (Some x))
    → (place : List ℕ) (index : ℕ) (xs : List X) → AllByRecursion P xs → items_from read place index (items_of (map shown xs)) ≡ says (Some xs)
unfolding items_from
items_say read shown P one place index [] h = refl
items_say read shown P one place index (x ∷ xs) h =
    rw (one (places.item place index) x h.0, items_say read shown P one place (index + 1) xs h.1) refl

items_many : {X : Type 0} (shown : X → Data) (xs : List X) → items_len (items_of (map shown xs)) ≡ length xs
items_many shown [] = refl
items_many shown (x ∷ xs) = ap suc (items_many shown xs)

entry_says : (place : List ℕ) (e : Entry) → IsShort e → reading.entry place (entry_data e) ≡ says (Some e)
unfolding serde_json_on_literals and_read message reading.entry_in take field standing after short_text ends reading.entry_rules
entry_says place e h = by e.key e.value h.some h.key h.value
  where
    by : (k v : List ℕ) → 1 ≤ length k → length k ≤ LONGEST_TEXT → length v ≤ LONGEST_TEXT
        → reading.entry place (entry_data (record { key = k; value = v })) ≡ says (Some (record { key = k; value = v }))
    by [] v some short_k short_v = absurd (omega (arith, some))
    by (x ∷ xs) v some short_k short_v = rw (le-ltb LONGEST_TEXT (length (x ∷ xs)) short_k, le-ltb LONGEST_TEXT (length v) short_v) refl

descriptor_says : (place : List ℕ) (d : Descriptor) → IsPlain d → reading.descriptor place (descriptor_data d) ≡ says (Some d)
unfolding serde_json_on_literals and_read message reading.descriptor_in take field standing after list reading.entries_in each_item ends whole reading.descriptor_rules
descriptor_says place d h = by d.entries d.own d.hits h.some h.few h.short h.own h.hits
  where
    by : (es : List Entry) (o : Option OwnLimit) (t : Option ℕ) → 1 ≤ length es → length es ≤ MOST_ENTRIES → AllByRecursion IsShort es
        → o ≡ None → t ≡ None
        → reading.descriptor place (descriptor_data (record { entries = es; own = o; hits = t }))
        ≡ says (Some (record { entries = es; own = o; hits = t }))
    by [] o t some few short own hits = absurd (omega (arith, some))
    by (e ∷ es) o t some few short own hits =
        rw (
          own,
          hits,
          items_many entry_data (e ∷ es),
          le-ltb MOST_ENTRIES (length (e ∷ es)) few,
          items_say reading.entry entry_data IsShort entry_says _ 0 (e ∷ es) short,
        ) refl

pub request_says : (place : List ℕ) (r : RequestParts) → IsUsual r → reading.request place (request_data r) ≡ says (Some r)
unfolding serde_json_on_literals and_read message reading.request_in take field standing after short_text list reading.descriptors_in each_item ends whole reading.request_rules
request_says place r h = by r.domain r.descriptors r.hits h.some_domain h.short_domain h.some h.few h.plain h.hits
  where
    by : (d : List ℕ) (ds : List Descriptor) (n : ℕ) → 1 ≤ length d → length d ≤ LONGEST_TEXT → 1 ≤ length ds → length ds ≤ MOST_DESCRIPTORS
        → AllByRecursion IsPlain ds → n ≡ 1
        → reading.request place (request_data (record { domain = d; descriptors = ds; hits = n }))
        ≡ says (Some (record { domain = d; descriptors = ds; hits = n }))
    by [] ds n some short more few plain hits = absurd (omega (arith, some))
    by (x ∷ xs) [] n some short more few plain hits = absurd (omega (arith, more))
    by (x ∷ xs) (d ∷ ds) n some short more few plain hits =
        rw (
          hits,
          le-ltb LONGEST_TEXT (length (x ∷ xs)) short,
          items_many descriptor_data (d ∷ ds),
          le-ltb MOST_DESCRIPTORS (length (d ∷ ds)) few,
          items_say reading.descriptor descriptor_data IsPlain descriptor_says _ 0 (d ∷ ds) plain,
        ) refl
