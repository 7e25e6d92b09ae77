-- The entries that a list reads as have keys.
use Rattle.std.proofs.Common.{◌≡◌, ◌≢◌, ℕ, ◌+◌, List, [], ◌∷◌, Option, Some, None, Result, Ok, Err, refl, ap, sym, subst, ◌∙◌}
use Rattle.std.specs.List.{All, AllByRecursion}
use Rattle.std.proofs.lemmas.List.Elements.{All-from_recursion}
use Rattle.serde_json.specs.Data.{Data, Items, no_items, item}
use Rattle.rate_types.specs.Places as places
use Rattle.rate_types.specs.declared.refused.Refused.{Refused}
use Rattle.rate_types.specs.declared.entries.Entry.{Entry}
use Rattle.proto_json.specs.Said.{Said, says, reading_of, ◌>>=◌}
use Rattle.proto_json.specs.Fields.{Object, Listed, take, ends}
use Rattle.proto_json.specs.Kinds as kinds
use Rattle.proto_json.specs.Lists.{items_from, each_item, with_first}
use Rattle.proto_json.specs.Laws.{then_read, reading_then}
use Rattle.reply_text.specs.FieldNames as names
use Rattle.reply_text.specs.ReadRequest.{entry, entry_in, entry_rules, short_text}

-- where a reading gives an entry, it has a key
abbrev HasKey : Result (Option Entry) Refused → Type 0
HasKey reading = (e : Entry) → reading ≡ Ok (Some e) → e.key ≢ []

abbrev AreKeyed : List Entry → Type 0
AreKeyed es = AllByRecursion (λ e. e.key ≢ []) es

-- one part and then the next, which gives entries with keys
then_keyed : {X : Type 0} (read : Result X Refused) (next : X → Result (Option Entry) Refused) → ((x : X) → HasKey (next x))
    → HasKey (then_read read next)
then_keyed (Ok x) next each = each x
then_keyed (Err r) next each = λ e is. cc

bind_keyed : {X : Type 0} (part : Said X) (next : X → Said (Option Entry)) → ((x : X) → HasKey (reading_of (next x)))
    → HasKey (reading_of (part >>= next))
bind_keyed part next each = subst (λ (r : Result (Option Entry) Refused). HasKey r) (sym (reading_then part next))
    (then_keyed (reading_of part) (λ x. reading_of (next x)) each)

key_in : Result (Option Entry) Refused → List ℕ
key_in (Ok (Some e)) = e.key
key_in (Ok None) = []
key_in (Err r) = []

rules_keyed : (place key value : List ℕ) → HasKey (reading_of (entry_rules place key value))
unfolding entry_rules key_in
rules_keyed place [] value = λ e is. cc
rules_keyed place (b ∷ bs) value = λ e is. λ gone. let same : b ∷ bs ≡ e.key = ap key_in is in cc

in_keyed : (o : Object) → HasKey (reading_of (entry_in o))
unfolding entry_in
in_keyed o = bind_keyed (take short_text names.key o) _ (λ k. bind_keyed (take short_text names.value k.1) _
    (λ v. bind_keyed (ends v.1) _ (λ place. rules_keyed place _ _)))

entry_keyed : (place : List ℕ) (d : Data) → HasKey (reading_of (entry place d))
unfolding kinds.and_read
entry_keyed place d = bind_keyed (kinds.message place d) (kinds.read_some entry_in) by
  where
    by : (o : Option Object) → HasKey (reading_of (kinds.read_some entry_in o))
    by None = λ e is. cc
    by (Some o) = in_keyed o

-- ---- the items of a list

then_same : {X Y : Type 0} (read : Result X Refused) (f g : X → Result Y Refused) → ((x : X) → f x ≡ g x) → then_read read f ≡ then_read read g
then_same (Ok x) f g each = each x
then_same (Err r) f g each = refl

step : (read : Result (Option Entry) Refused) (rest : Result (Option (List Entry)) Refused) (es : List Entry)
    → HasKey read → ((xs : List Entry) → rest ≡ Ok (Some xs) → AreKeyed xs)
    → then_read read (λ x. then_read rest (λ xs. Ok (with_first x xs))) ≡ Ok (Some es) → AreKeyed es
step (Ok (Some e)) (Ok (Some xs)) es key more is = let same : e ∷ xs ≡ es = cc in
    subst (λ (es : List Entry). AreKeyed es) same (key e refl, more xs refl)
step (Ok (Some e)) (Ok None) es key more is = absurd (cc)
step (Ok (Some e)) (Err r) es key more is = absurd (cc)
step (Ok None) (Ok xs) es key more is = absurd (cc)
step (Ok None) (Err r) es key more is = absurd (cc)
step (Err r) rest es key more is = absurd (cc)

items_keyed : (place : List ℕ) (index : ℕ) (ds : Items) (es : List Entry) → reading_of (items_from entry place index ds) ≡ Ok (Some es)
    → AreKeyed es
unfolding items_from
items_keyed place index no_items es is = let same : [] ≡ es = cc in subst (λ (es : List Entry). AreKeyed es) same tt
items_keyed place index (item d ds) es is =
    step (reading_of (entry (places.item place index) d)) (reading_of (items_from entry place (index + 1) ds)) es
    (entry_keyed (places.item place index) d) (items_keyed place (index + 1) ds)
    (sym (reading_then (entry (places.item place index) d) (λ x. items_from entry place (index + 1) ds >>= λ xs. says (with_first x xs))
    ∙ then_same (reading_of (entry (places.item place index) d))
    (λ x. reading_of (items_from entry place (index + 1) ds >>= λ xs. says (with_first x xs)))
    (λ x. then_read (reading_of (items_from entry place (index + 1) ds)) (λ xs. Ok (with_first x xs)))
    (λ x. reading_then (items_from entry place (index + 1) ds) (λ xs. says (with_first x xs))))
    ∙ is)

pub keys_there : (list : Listed) (es : List Entry) → reading_of (each_item entry list) ≡ Ok (Some es) → All (λ e. e.key ≢ []) es
unfolding each_item
keys_there list es is = All-from_recursion (λ e. e.key ≢ []) es (items_keyed list.place 0 list.items es is)
