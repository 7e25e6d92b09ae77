-- Uses of known counters, one after the other.
use Rattle.std.proofs.Common.{◌≡◌, ◌⊎◌, inl, inr, ◌||◌, ◌+◌, ℕ, zero, suc, ◌<◌, List, [], ◌∷◌, ◌++◌, map, length, take, get_or, Bool, true, false, refl, sym, ap, ◌∙◌, subst}
use Rattle.std.proofs.lemmas.List.{map-append}
use Rattle.std.proofs.lemmas.List.Folds.{list_any-append}
use Rattle.std.specs.Bool.{IsTrue}
use Rattle.std.specs.Cmp.Lexicographic.{bytes_decides}
use Rattle.std.specs.Prelude.{Option, None, Some}
use mathlib.Core.Option.{some, some-injective, some-ne-none}
use lib.ListN.{get_elem?}
use Rattle.rate_types.specs.Requests.{RequestParts}
use Rattle.rate_types.specs.declared.rule_id.RuleId.{RuleId}
use Rattle.rate_types.specs.declared.unit.Unit.{Unit}
use Rattle.window_keys.specs.Counter.{counter_of}
use Rattle.rate_types.specs.declared.counter_name.CounterName.{CounterName}
use Rattle.rate_types.specs.declared.request.Descriptor.{Descriptor}
use Rattle.counter_directory.specs.Keys.{key_at, keys_at}
use Rattle.rule_lookup.specs.declared.found.Found.{Found}
use Rattle.rule_lookup.specs.declared.found.Found.TheVariants.{Limited}
use Rattle.counter_cells.specs.declared.answers.Spot.{Spot}
use Rattle.over_cache.specs.Entries.{Entries, is_key, known_of, asked, noted}
use Rattle.over_cache.specs.declared.known.Known.{Known}
use Rattle.over_cache.specs.Uses.{Use, Asked, Noted, is_among}
use Rattle.rate_limiter.specs.Counted.{HasRaised}
use Rattle.rate_limiter.specs.Known.{key_of}
use Rattle.rate_limiter.specs.Names.{name_under, names_under, name_keys}
use Rattle.rate_limiter.specs.Used.{key_used, used, asked_each, HasUsed}
use Rattle.rate_limiter.proofs.Counting.{names_next}
use Rattle.rate_limiter.proofs.Lists.{each_append, each_more}

or_true : (b : Bool) → (b || true) ≡ true
or_true true = refl
or_true false = refl

-- ---- which keys

abbrev IsIn : List (List ℕ) → List ℕ → Type 0
IsIn keys key = IsTrue (is_among key keys)

among_first : (key : List ℕ) (keys : List (List ℕ)) → IsIn (key ∷ keys) key
among_first key keys = ap (λ b. b || is_among key keys) ((bytes_decides key key).1 refl)

among_later : (other : List ℕ) (keys : List (List ℕ)) (key : List ℕ) → IsIn keys key → IsIn (other ∷ keys) key
among_later other keys key h = ap (λ b. is_key key other || b) h ∙ or_true (is_key key other)

among_left : (xs ys : List (List ℕ)) (key : List ℕ) → IsIn xs key → IsIn (xs ++ ys) key
among_left xs ys key h = list_any-append (is_key key) xs ys ∙ ap (λ b. b || is_among key ys) h

among_right : (xs ys : List (List ℕ)) (key : List ℕ) → IsIn ys key → IsIn (xs ++ ys) key
among_right xs ys key h = list_any-append (is_key key) xs ys ∙ ap (λ b. is_among key xs || b) h ∙ or_true (is_among key xs)

keys_more : (m : ℕ) (xs ys : List CounterName) → name_keys m (xs ++ ys) ≡ name_keys m xs ++ name_keys m ys
keys_more m xs ys = ap (map key_of) (map-append (key_at m) xs ys) ∙ map-append key_of (keys_at m xs) (keys_at m ys)

-- the key of the name at a place is one of the keys
pub among_names : (m : ℕ) (names : List CounterName) (i : ℕ) (name : CounterName) → get_elem? names i ≡ some name → IsIn (name_keys m names) (key_of (key_at m name))
among_names m [] i name at = absurd (some-ne-none name (sym at))
among_names m (n ∷ names) zero name at =
    subst (λ (x : CounterName). IsIn (name_keys m (n ∷ names)) (key_of (key_at m x))) (some-injective n name at) (among_first (key_of (key_at m n)) (name_keys m names))
among_names m (n ∷ names) (suc i) name at =
    among_later (key_of (key_at m n)) (name_keys m names) (key_of (key_at m name)) (among_names m names i name at)

-- what is the descriptor's at a place is one of the request's
pub among_under : (request : RequestParts) (m : ℕ) (ds : List Descriptor) (fs : List Found) (i : ℕ) (d : Descriptor) (f : Found) → get_elem? ds i ≡ some d
    → get_elem? fs i ≡ some f → (key : List ℕ) → IsIn (name_keys m (name_under request d f)) key → IsIn (name_keys m (names_under request ds fs)) key
among_under request m [] fs i d f a b key h = absurd (some-ne-none d (sym a))
among_under request m (e ∷ ds) [] i d f a b key h = absurd (some-ne-none f (sym b))
among_under request m (e ∷ ds) (g ∷ fs) zero d f a b key h =
    subst (λ (l : List (List ℕ)). IsIn l key) (sym (keys_more m (name_under request e g) (names_under request ds fs)))
    (among_left (name_keys m (name_under request e g)) (name_keys m (names_under request ds fs)) key
    (subst (λ (x : Descriptor). IsIn (name_keys m (name_under request x g)) key) (sym (some-injective e d a))
    (subst (λ (x : Found). IsIn (name_keys m (name_under request d x)) key) (sym (some-injective g f b)) h)))
among_under request m (e ∷ ds) (g ∷ fs) (suc i) d f a b key h =
    subst (λ (l : List (List ℕ)). IsIn l key) (sym (keys_more m (name_under request e g) (names_under request ds fs)))
    (among_right (name_keys m (name_under request e g)) (name_keys m (names_under request ds fs)) key (among_under request m ds fs i d f a b key h))

-- ---- uses

used_then : (vs us : List Use) (es : Entries) → used (vs ++ us) es ≡ used vs (used us es)
used_then [] us es = refl
used_then (Asked key ∷ vs) us es = ap (asked key) (used_then vs us es)
used_then (Noted key spot seen ∷ vs) us es = ap (noted key spot seen) (used_then vs us es)

asked_then : (ks ls : List (List ℕ)) (es : Entries) → asked_each (ks ++ ls) es ≡ asked_each ls (asked_each ks es)
asked_then [] ls es = refl
asked_then (k ∷ ks) ls es = asked_then ks ls (asked k es)

pub uses_none : (keys : List (List ℕ)) (old new : Entries) → new ≡ old → HasUsed [] keys old new
uses_none keys old new e = record { uses = []; own = tt; known = e }

pub uses_then : (keys : List (List ℕ)) (a b c : Entries) → HasUsed [] keys a b → HasUsed [] keys b c → HasUsed [] keys a c
uses_then keys a b c p q = record {
  uses = q.uses ++ p.uses;
  own = each_append (λ (u : Use). IsIn keys (key_used u)) q.uses p.uses q.own p.own;
  known = q.known ∙ ap (used q.uses) p.known ∙ sym (used_then q.uses p.uses a);
}

pub uses_more : (keys more : List (List ℕ)) (old new : Entries) → ((key : List ℕ) → IsIn keys key → IsIn more key) → HasUsed [] keys old new → HasUsed [] more old new
uses_more keys more old new f h = record {
  uses = h.uses;
  own = each_more (λ (u : Use). IsIn keys (key_used u)) (λ (u : Use). IsIn more (key_used u)) (λ u i. f (key_used u) i) h.uses h.own;
  known = h.known;
}

pub uses_first : (first keys : List (List ℕ)) (a b c : Entries) → b ≡ asked_each first a → HasUsed [] keys b c → HasUsed first keys a c
uses_first first keys a b c e q = record { uses = q.uses; own = q.own; known = q.known ∙ ap (used q.uses) e }

uses_one : (u : Use) (old : Entries) → HasUsed [] (key_used u ∷ []) old (used (u ∷ []) old)
uses_one u old = record { uses = u ∷ []; own = (among_first (key_used u) [], tt); known = refl }

-- questions are uses
questions : (keys : List (List ℕ)) (old : Entries) → HasUsed [] keys old (asked_each keys old)
questions [] old = uses_none [] old old refl
questions (k ∷ ks) old =
    uses_then (k ∷ ks) old (asked k old) (asked_each ks (asked k old)) (record { uses = Asked k ∷ []; own = (among_first k ks, tt); known = refl })
    (uses_more ks (k ∷ ks) (asked k old) (asked_each ks (asked k old)) (among_later k ks) (questions ks (asked k old)))

pub uses_asked : (keys : List (List ℕ)) (old new : Entries) → new ≡ asked_each keys old → HasUsed [] keys old new
uses_asked keys old new e = subst (HasUsed [] keys old) (sym e) (questions keys old)

-- a note of one of the keys
pub uses_noted : (keys : List (List ℕ)) (key : List ℕ) (s : Spot) (seen : ℕ) (old new : Entries) → IsIn keys key → new ≡ noted key s seen old → HasUsed [] keys old new
uses_noted keys key s seen old new h e = record { uses = Noted key s seen ∷ []; own = (h, tt); known = e }

-- a value that was raised
pub uses_raised : (key : List ℕ) (s : Spot) (value : ℕ) (old new : Entries) → HasRaised key s value old new → HasUsed [] (key ∷ []) old new
uses_raised key s value old new h = by h.this
  where
    by : ((known_of key old ≡ None) × (new ≡ old))
        ⊎ ((k : Known) × (known_of key old ≡ Some k) × (new ≡ noted key s value old))
        → HasUsed [] (key ∷ []) old new
    by (inl x) = uses_none (key ∷ []) old new x.1
    by (inr x) = uses_noted (key ∷ []) key s value old new (among_first key []) x.2

-- or was kept
pub uses_kept : (key : List ℕ) (s : Spot) (value : ℕ) (old new : Entries) (is_noted : Bool) → (is_noted ≡ false → new ≡ old) → (is_noted ≡ true → HasRaised key s value old new)
    → HasUsed [] (key ∷ []) old new
uses_kept key s value old new false kept raised = uses_none (key ∷ []) old new (kept refl)
uses_kept key s value old new true kept raised = uses_raised key s value old new (raised refl)

-- ---- the descriptors

-- one descriptor more is asked for
pub asked_next : (request : RequestParts) (m : ℕ) (ds : List Descriptor) (fs : List Found) (d : Descriptor) (f : Found) (i : ℕ) → i < length ds → length fs ≡ length ds
    → (a b c : Entries) → b ≡ asked_each (name_keys m (names_under request (take i ds) (take i fs))) a
    → c ≡ asked_each (name_keys m (name_under request (get_or ds i d) (get_or fs i f))) b
    → c ≡ asked_each (name_keys m (names_under request (take (i + 1) ds) (take (i + 1) fs))) a
asked_next request m ds fs d f i lt len a b c before now =
    let xs = names_under request (take i ds) (take i fs) in
    let ys = name_under request (get_or ds i d) (get_or fs i f) in
    now ∙ ap (asked_each (name_keys m ys)) before ∙ sym (asked_then (name_keys m xs) (name_keys m ys) a)
    ∙ sym (ap (λ (l : List (List ℕ)). asked_each l a) (keys_more m xs ys)) ∙ sym (ap (λ (l : List CounterName). asked_each (name_keys m l) a) (names_next request ds fs d f i lt len))

-- the name of a descriptor's counter, where it has a limit
pub uses_limited : (request : RequestParts) (d : Descriptor) (f : Found) (limit : ℕ) (unit : Unit) (shadow : Bool) (rule : Option RuleId) → f ≡ Limited limit unit shadow rule
    → (m : ℕ) (old new : Entries) → HasUsed [] (key_of (counter_of request.domain d unit m) ∷ []) old new → HasUsed [] (name_keys m (name_under request d f)) old new
uses_limited request d f limit unit shadow rule is m old new h = subst (λ (x : Found). HasUsed [] (name_keys m (name_under request d x)) old new) (sym is) h

-- Of three counters the second is asked for, one that isn't known is asked for, and then another is noted: it and the second come first, the
-- others in their order
small : (a b c : Known) (s : Spot)
    → used (Noted (4 ∷ []) s 7 ∷ Asked (5 ∷ []) ∷ Asked (2 ∷ []) ∷ []) ((1 ∷ [], a) ∷ (2 ∷ [], b) ∷ (3 ∷ [], c) ∷ [])
    ≡ (4 ∷ [], record { spot = s; seen = 7 }) ∷ (2 ∷ [], b) ∷ (1 ∷ [], a) ∷ (3 ∷ [], c) ∷ []
small a b c s = refl
