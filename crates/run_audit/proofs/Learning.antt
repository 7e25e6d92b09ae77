-- What a worker knows, kept in a map, and what it learns.
use Rattle.std.proofs.Common.{◌≡◌, ℕ, ◌+◌, ◌<◌, ◌≤◌, ◌==◌, ◌||◌, nat_lt, Bool, true, false, cond, List, [], ◌∷◌, ◌++◌, refl, sym, ap, ◌∙◌, subst, arith, inl, inr}
use Rattle.std.proofs.Common.{Ordering, Less, Equal, Greater, is_eq, append_assoc, append-nil}
use Rattle.std.specs.Prelude.{max, min, ◌⊎◌, ⊤}
use Rattle.std.specs.Ordering.{nat_cmp, ordering_then}
use Rattle.std.proofs.lemmas.Bool.{cases_lt}
use Rattle.std.proofs.lemmas.Bool.Decides.{nat_tests}
use Rattle.rate_types.specs.Counters.{key_cmp, same_counter}
use Rattle.rate_types.specs.Ledger.{Sight}
use Rattle.rate_types.specs.Requests.{RequestParts}
use Rattle.rate_types.specs.declared.counter_key.CounterKey.{CounterKey}
use Rattle.rate_types.specs.declared.request.Descriptor.{Descriptor}
use Rattle.rate_types.specs.contracts.counter_key.CounterKeyOrd.TheImpl.Laws.{matches_eq-law}
use Rattle.window_keys.proofs.Counters.{same_is}
use Rattle.rls_core.specs.declared.status.Count.TheVariants.{Before, Seen}
use Rattle.rls_core.specs.declared.status.Status.{Status}
use Rattle.script_run.specs.Values.{KnownAtMost, IsFair, IsFairStatus, AreFair, value_shown, values_of}
use Rattle.run_audit.specs.Known.{Values, known_cmp, value_in, highest, Knows, Learns}

abbrev Seens : Type 0
Seens = List (Sight CounterKey)

false_true : false ≡ true → ⊥
false_true e = cc

-- ---- the greatest known value

at_most : (known : Seens) (c : CounterKey) (most : ℕ) → highest known c ≤ most → KnownAtMost known c most
at_most [] c most h = tt
at_most (x ∷ known) c most h =
    (λ same. let here = ap (λ b. cond b x.seen 0) same in omega (arith, here, h), at_most known c most (omega (arith, h)))

pub highest_least : (known : Seens) (c : CounterKey) (most : ℕ) → KnownAtMost known c most → highest known c ≤ most
highest_least [] c most h = omega arith
highest_least (x ∷ known) c most h = by (same_counter x.counter c) h.0 (highest_least known c most h.1)
  where
    by : (b : Bool) → (b ≡ true → x.seen ≤ most) → highest known c ≤ most → max (cond b x.seen 0) (highest known c) ≤ most
    by true f more = omega (arith, f refl, more)
    by false f more = omega (arith, more)

highest_push : (known : Seens) (x : Sight CounterKey) (c : CounterKey)
    → highest (known ++ x ∷ []) c ≡ max (highest known c) (cond (same_counter x.counter c) x.seen 0)
highest_push [] x c = omega arith
highest_push (y ∷ known) x c = omega (arith, highest_push known x c)

-- ---- keys of the map

last_differs : (o p : Ordering) → is_eq p ≡ false → is_eq (ordering_then o p) ≡ false
last_differs Less p e = refl
last_differs Equal p e = e
last_differs Greater p e = refl

after_equal : (o p : Ordering) → o ≡ Equal → is_eq (ordering_then o p) ≡ is_eq p
after_equal o p e = ap (λ (x : Ordering). is_eq (ordering_then x p)) e

same_number : (n : ℕ) → nat_cmp n n ≡ Equal
same_number n = grind (arith, nat_tests)

-- equal counters have equal starts
abbrev by_start : CounterKey → CounterKey → Ordering
by_start a c = ordering_then (nat_cmp a.start c.start) (key_cmp a c)

started : (a c : CounterKey) → is_eq (by_start a c) ≡ same_counter a c
started a c = by (same_counter a c) refl
  where
    by : (b : Bool) → same_counter a c ≡ b → is_eq (by_start a c) ≡ same_counter a c
    by true e =
        after_equal (nat_cmp a.start c.start) (key_cmp a c)
        (subst (λ (k : CounterKey). nat_cmp a.start k.start ≡ Equal) (same_is a c e) (same_number a.start)) ∙ sym (matches_eq-law a c)
    by false e = last_differs (nat_cmp a.start c.start) (key_cmp a c) (sym (matches_eq-law a c) ∙ e) ∙ sym e

same_worker : (w : ℕ) (a c : CounterKey) → is_eq (ordering_then (nat_cmp w w) (by_start a c)) ≡ same_counter a c
same_worker w a c = after_equal (nat_cmp w w) (by_start a c) (same_number w) ∙ started a c

first_differs : (o p : Ordering) → is_eq o ≡ false → is_eq (ordering_then o p) ≡ false
first_differs Less p e = refl
first_differs Equal p e = absurd (false_true (sym e))
first_differs Greater p e = refl

other_worker : (w v : ℕ) (p : Ordering) → (v == w) ≡ false → is_eq (ordering_then (nat_cmp w v) p) ≡ false
other_worker w v p e = first_differs (nat_cmp w v) p (grind (arith, nat_tests))

-- ---- what is learnt

pub nothing_learnt : (values : Values) (w : ℕ) → Learns values values w true (λ known. ⊤) []
nothing_learnt values w = record {
  yes = λ known knows e. tt;
  only = λ known knows h. refl;
  learnt = λ known knows e. subst (λ ks. Knows values w ks) (sym (append-nil known)) knows;
  others = λ v c differ. refl;
}

pub learns_like : (old new : Values) (w : ℕ) (b : Bool) (F G : Seens → Type 0) (shown : Seens) → ((known : Seens) → F known → G known)
    → ((known : Seens) → G known → F known) → Learns old new w b F shown → Learns old new w b G shown
learns_like old new w b F G shown to from l = record {
  yes = λ known knows e. to known (l.yes known knows e);
  only = λ known knows h. l.only known knows (from known h);
  learnt = l.learnt;
  others = l.others;
}

pub not_fair : (values : Values) (w : ℕ) (F : Seens → Type 0) (shown : Seens) → ((known : Seens) → F known → ⊥) → Learns values values w false F shown
not_fair values w F shown never = record {
  yes = λ known knows e. absurd (false_true e);
  only = λ known knows h. absurd (never known h);
  learnt = λ known knows e. absurd (false_true e);
  others = λ v c differ. refl;
}

pub learns_then : (a b c : Values) (w : ℕ) (t : Bool) (F G : Seens → Type 0) (x y : Seens) → Learns a b w true F x → Learns b c w t G y
    → Learns a c w t (λ known. F known × G (known ++ x)) (x ++ y)
learns_then a b c w t F G x y l m = record {
  yes = λ known knows e. (l.yes known knows refl, m.yes (known ++ x) (l.learnt known knows refl) e);
  only = λ known knows h. m.only (known ++ x) (l.learnt known knows refl) h.1;
  learnt = λ known knows e. subst (λ ks. Knows c w ks) (append_assoc known x y) (m.learnt (known ++ x) (l.learnt known knows refl) e);
  others = λ v k differ. m.others v k differ ∙ l.others v k differ;
}

pub learns_no_more : (a b : Values) (w : ℕ) (F G : Seens → Type 0) (x y : Seens) → Learns a b w false F x
    → Learns a b w false (λ known. F known × G (known ++ x)) (x ++ y)
learns_no_more a b w F G x y l = record {
  yes = λ known knows e. absurd (false_true e);
  only = λ known knows h. l.only known knows h.0;
  learnt = λ known knows e. absurd (false_true e);
  others = l.others;
}

-- ---- one value

pub known_more : (values : Values) (w : ℕ) (c : CounterKey) (most value : ℕ) → most < value_in values w c
    → Learns values values w false (λ known. KnownAtMost known c most) (record { counter = c; seen = value } ∷ [])
known_more values w c most value more = record {
  yes = λ known knows e. absurd (false_true e);
  only = λ known knows h. absurd (omega (arith, more, knows c, highest_least known c most h));
  learnt = λ known knows e. absurd (false_true e);
  others = λ v k differ. refl;
}

pub one_learnt : (old new : Values) (w : ℕ) (c : CounterKey) (most value : ℕ) → most ≤ value → value_in old w c ≤ most
    → ((v : ℕ) (k : CounterKey) → value_in new v k
    ≡ cond (is_eq (known_cmp (record { worker = w; counter = c }) (record { worker = v; counter = k }))) value (value_in old v k))
    → Learns old new w true (λ known. KnownAtMost known c most) (record { counter = c; seen = value } ∷ [])
one_learnt old new w c most value greater least kept = record {
  yes = λ known knows e. at_most known c most (omega (arith, least, knows c));
  only = λ known knows h. refl;
  learnt = λ known knows e k. one known k knows (same_counter c k) refl (kept w k);
  others = λ v k differ. kept v k ∙ ap (λ b. cond b value (value_in old v k)) (other_worker w v (by_start c k) differ);
}
  where
    one : (known : Seens) (k : CounterKey) → Knows old w known → (b : Bool) → same_counter c k ≡ b
        → value_in new w k ≡ cond (is_eq (ordering_then (nat_cmp w w) (by_start c k))) value (value_in old w k)
        → value_in new w k ≡ highest (known ++ record { counter = c; seen = value } ∷ []) k
    one known k knows true e is =
        let put = is ∙ ap (λ b. cond b value (value_in old w k)) (same_worker w c k ∙ e) in
        let shown = highest_push known (record { counter = c; seen = value }) k ∙ ap (λ b. max (highest known k) (cond b value 0)) e in
        let low : highest known k ≤ most = subst (λ j. highest known j ≤ most) (same_is c k e) (omega (arith, least, knows c)) in
        omega (arith, put, shown, low, greater)
    one known k knows false e is =
        let put = is ∙ ap (λ b. cond b value (value_in old w k)) (same_worker w c k ∙ e) in
        let shown = highest_push known (record { counter = c; seen = value }) k ∙ ap (λ b. max (highest known k) (cond b value 0)) e in
        omega (arith, put, shown, knows k)

-- ---- counts

weaker : (known : Seens) (c : CounterKey) (m n : ℕ) → m ≤ n → KnownAtMost known c m → KnownAtMost known c n
weaker known c m n less h = at_most known c n (omega (arith, highest_least known c m h, less))

pub before_learnt : (old new : Values) (w : ℕ) (c : CounterKey) (limit before hits most value : ℕ) (b : Bool) → most ≡ min limit before
    → value ≡ before + hits → Learns old new w b (λ known. KnownAtMost known c most) (record { counter = c; seen = value } ∷ [])
    → Learns old new w b (λ known. IsFair known c limit hits (Before before)) (record { counter = c; seen = before + hits } ∷ [])
before_learnt old new w c limit before hits most value b is_most is_value l =
    subst (λ v. Learns old new w b (λ known. IsFair known c limit hits (Before before)) (record { counter = c; seen = v } ∷ [])) is_value
    (learns_like old new w b (λ known. KnownAtMost known c most) (λ known. IsFair known c limit hits (Before before))
    (record { counter = c; seen = value } ∷ [])
    (λ known h. (weaker known c most limit (omega (arith, is_most)) h, weaker known c most before (omega (arith, is_most)) h))
    (λ known h. at_most known c most (omega (arith, is_most, highest_least known c limit h.0, highest_least known c before h.1))) l)

may_be : (limit seen hits : ℕ) → ((hits == 0) || nat_lt limit seen) ≡ true → (hits ≡ 0) ⊎ (limit < seen)
may_be limit seen hits e = elim (cases_lt limit seen) [ inl above ↦ inr above | inr within ↦ inl (grind (arith, nat_tests)) ]

pub seen_learnt : (old new : Values) (w : ℕ) (c : CounterKey) (limit seen hits value : ℕ) (b : Bool) → value ≡ seen
    → ((hits == 0) || nat_lt limit seen) ≡ true
    → Learns old new w b (λ known. KnownAtMost known c value) (record { counter = c; seen = value } ∷ [])
    → Learns old new w b (λ known. IsFair known c limit hits (Seen seen)) (record { counter = c; seen = seen } ∷ [])
seen_learnt old new w c limit seen hits value b is may l =
    let here = subst (λ v. Learns old new w b (λ known. KnownAtMost known c v) (record { counter = c; seen = v } ∷ [])) is l in
    learns_like old new w b (λ known. KnownAtMost known c seen) (λ known. IsFair known c limit hits (Seen seen))
    (record { counter = c; seen = seen } ∷ []) (λ known h. (may_be limit seen hits may, h)) (λ known h. h.1) here

pub seen_within : (values : Values) (w : ℕ) (c : CounterKey) (limit seen hits : ℕ) (shown : Seens)
    → ((hits == 0) || nat_lt limit seen) ≡ false → Learns values values w false (λ known. IsFair known c limit hits (Seen seen)) shown
seen_within values w c limit seen hits shown e =
    let some : 0 < hits = grind (arith, nat_tests) in
    let less : seen ≤ limit = grind (arith, nat_tests) in
    not_fair values w (λ known. IsFair known c limit hits (Seen seen)) shown
    (λ known h. elim h.0 [ inl none ↦ absurd (omega arith) | inr above ↦ absurd (omega arith) ])

-- ---- statuses

abbrev pub Replies : Values → Values → ℕ → Bool → RequestParts → ℕ → List Descriptor → List Status → Type 0
Replies old new w b q m ds ss = Learns old new w b (λ known. AreFair known q m ds ss) (values_of q m ds ss)

abbrev pub Shows : Values → Values → ℕ → Bool → RequestParts → ℕ → Descriptor → Status → Type 0
Shows old new w b q m d s = Learns old new w b (λ known. IsFairStatus known q m d s.limit s.count) (value_shown q m d s.limit s.count)

pub reply_more : (a b c : Values) (w : ℕ) (t : Bool) (q : RequestParts) (m : ℕ) (d : Descriptor) (s : Status) (ds xs : List Descriptor)
    (ss ys : List Status) → xs ≡ d ∷ ds → ys ≡ s ∷ ss → Shows a b w true q m d s → Replies b c w t q m ds ss → Replies a c w t q m xs ys
reply_more a b c w t q m d s ds xs ss ys is_x is_y l more =
    subst (λ xs. Replies a c w t q m xs ys) (sym is_x) (subst (λ ys. Replies a c w t q m (d ∷ ds) ys) (sym is_y)
    (learns_then a b c w t (λ known. IsFairStatus known q m d s.limit s.count) (λ known. AreFair known q m ds ss)
    (value_shown q m d s.limit s.count) (values_of q m ds ss) l more))

pub reply_no_more : (a b : Values) (w : ℕ) (q : RequestParts) (m : ℕ) (d : Descriptor) (s : Status) (ds xs : List Descriptor)
    (ss ys : List Status) → xs ≡ d ∷ ds → ys ≡ s ∷ ss → Shows a b w false q m d s → Replies a b w false q m xs ys
reply_no_more a b w q m d s ds xs ss ys is_x is_y l =
    subst (λ xs. Replies a b w false q m xs ys) (sym is_x) (subst (λ ys. Replies a b w false q m (d ∷ ds) ys) (sym is_y)
    (learns_no_more a b w (λ known. IsFairStatus known q m d s.limit s.count) (λ known. AreFair known q m ds ss)
    (value_shown q m d s.limit s.count) (values_of q m ds ss) l))

pub reply_done : (a : Values) (w : ℕ) (q : RequestParts) (m : ℕ) (xs : List Descriptor) (ys : List Status) → (xs ≡ []) ⊎ (ys ≡ [])
    → Replies a a w true q m xs ys
reply_done a w q m xs ys none = elim none [
  | inl e ↦ subst (λ xs. Replies a a w true q m xs ys) (sym e) (nothing_learnt a w)
  | inr e ↦ subst (λ ys. Replies a a w true q m xs ys) (sym e) (no_statuses xs)
]
  where
    no_statuses : (xs : List Descriptor) → Replies a a w true q m xs []
    no_statuses [] = nothing_learnt a w
    no_statuses (x ∷ xs) = nothing_learnt a w
