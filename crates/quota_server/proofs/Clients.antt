-- Sums over the clients of shares.
use Rattle.std.proofs.Common.{◌≡◌, ℕ, ◌+◌, ◌≤◌, ◌||◌, Bool, true, false, List, [], ◌∷◌, ◌++◌, refl, ap, sym, ◌∙◌, arith, cond, max, filter}
use Rattle.std.specs.List.{list_any}
use Rattle.std.specs.Cmp.Lexicographic.{bytes_decides}
use Rattle.std.proofs.lemmas.Bool.{true≢false}
use Rattle.rate_types.specs.Sums.{total}
use Rattle.rate_types.specs.Counters.{same_text}
use Rattle.quota_server.specs.Shares.{Share, is_of, greatest_of, clients_of, but_for}

-- a text is the same as itself
pub same_itself : (a : List ℕ) → same_text a a ≡ true
same_itself a = (bytes_decides a a).1 refl

-- texts that are called the same are equal
pub equal_texts : (a b : List ℕ) → same_text a b ≡ true → a ≡ b
equal_texts a b = (bytes_decides a b).0

-- it doesn't matter which of two texts comes first
pub same_back : (a b : List ℕ) (s : Bool) → same_text a b ≡ s → same_text b a ≡ s
same_back a b true is = (bytes_decides b a).1 (sym (equal_texts a b is))
same_back a b false is = by (same_text b a) refl
  where
    by : (t : Bool) → same_text b a ≡ t → same_text b a ≡ false
    by true other = absurd (true≢false (sym ((bytes_decides a b).1 (sym (equal_texts b a other))) ∙ is))
    by false other = other

pub total_le : {A : Type 0} (f g : A → ℕ) (xs : List A) → ((x : A) → f x ≤ g x) → total f xs ≤ total g xs
total_le f g [] le = omega arith
total_le f g (x ∷ xs) le = let here = le x in let rest = total_le f g xs le in omega arith

pub total_same : {A : Type 0} (f g : A → ℕ) (xs : List A) → ((x : A) → f x ≡ g x) → total f xs ≡ total g xs
total_same f g [] same = refl
total_same f g (x ∷ xs) same = let here = same x in let rest = total_same f g xs same in omega arith

-- a number, where this holds
abbrev pub where_true : Bool → ℕ → ℕ
where_true b n = cond b n 0

-- a sum over the clients, with the number of one of them apart
pub one_apart : (f : List ℕ → ℕ) (c : List ℕ) (ss : List Share)
    → total f (clients_of ss) ≡ where_true (list_any (is_of c) ss) (f c) + total (but_for c f) (clients_of ss)
one_apart f c [] = refl
one_apart f c (s ∷ ss) = by (one_apart f c ss) (list_any (is_of s.client) ss) refl (same_text s.client c) refl
  where
    by : total f (clients_of ss) ≡ where_true (list_any (is_of c) ss) (f c) + total (but_for c f) (clients_of ss)
        → (there : Bool) → list_any (is_of s.client) ss ≡ there → (same : Bool) → same_text s.client c ≡ same
        → total f (clients_of (s ∷ ss)) ≡ where_true (list_any (is_of c) (s ∷ ss)) (f c) + total (but_for c f) (clients_of (s ∷ ss))
    by rest true there true same =
        let among : list_any (is_of c) ss ≡ true = ap (λ d. list_any (is_of d) ss) (sym (equal_texts s.client c same)) ∙ there in
        rw (there, same) (rw among at rest)
    by rest true there false same = rw (there, same) rest
    by rest false there true same =
        let none : list_any (is_of c) ss ≡ false = ap (λ d. list_any (is_of d) ss) (sym (equal_texts s.client c same)) ∙ there in
        let equal : f s.client ≡ f c = ap f (equal_texts s.client c same) in
        let less = rw none at rest in
        rw (there, same) (omega (arith, equal, less))
    by rest false there false same = rw (there, same) (omega (arith, rest))

-- the same of a client with a share, and of one without
pub one_there : (f : List ℕ → ℕ) (c : List ℕ) (ss : List Share) → list_any (is_of c) ss ≡ true
    → total f (clients_of ss) ≡ f c + total (but_for c f) (clients_of ss)
one_there f c ss there = one_apart f c ss ∙ ap (λ b. where_true b (f c) + total (but_for c f) (clients_of ss)) there

pub one_absent : (f : List ℕ → ℕ) (c : List ℕ) (ss : List Share) → list_any (is_of c) ss ≡ false
    → total f (clients_of ss) ≡ total (but_for c f) (clients_of ss)
one_absent f c ss none =
    let apart = one_apart f c ss ∙ ap (λ b. where_true b (f c) + total (but_for c f) (clients_of ss)) none in omega (arith, apart)

-- a client of some of the shares is one of all
any_of_all : (p : Share → Bool) (c : List ℕ) (ss : List Share) → list_any (is_of c) (filter p ss) ≡ true → list_any (is_of c) ss ≡ true
any_of_all p c [] is = is
any_of_all p c (s ∷ ss) is = by (any_of_all p c ss) (p s) refl (same_text s.client c) refl
  where
    by : (list_any (is_of c) (filter p ss) ≡ true → list_any (is_of c) ss ≡ true) → (kept : Bool) → p s ≡ kept
        → (same : Bool) → same_text s.client c ≡ same → list_any (is_of c) (s ∷ ss) ≡ true
    by rest kept pass true same = rw same refl
    by rest true pass false same = rw same (rest (rw (pass, same) at is))
    by rest false pass false same = rw same (rest (rw pass at is))

-- one share more doesn't make a sum less
one_more : (f : List ℕ → ℕ) (s : Share) (ss : List Share) → total f (clients_of ss) ≤ total f (clients_of (s ∷ ss))
one_more f s ss = by (list_any (is_of s.client) ss) refl
  where
    by : (there : Bool) → list_any (is_of s.client) ss ≡ there → total f (clients_of ss) ≤ total f (clients_of (s ∷ ss))
    by true there = rw there (omega arith)
    by false there = rw there (omega arith)

-- a sum over the clients of some of the shares is no more than that over the clients of all
pub clients_of_some : (f : List ℕ → ℕ) (p : Share → Bool) (ss : List Share) → total f (clients_of (filter p ss)) ≤ total f (clients_of ss)
clients_of_some f p [] = omega arith
clients_of_some f p (s ∷ ss) =
    by (clients_of_some f p ss) (clients_of_some (but_for s.client f) p ss) (p s) refl (list_any (is_of s.client) (filter p ss)) refl (list_any (is_of s.client) ss) refl
  where
    by : total f (clients_of (filter p ss)) ≤ total f (clients_of ss)
        → total (but_for s.client f) (clients_of (filter p ss)) ≤ total (but_for s.client f) (clients_of ss)
        → (kept : Bool) → p s ≡ kept → (in_some : Bool) → list_any (is_of s.client) (filter p ss) ≡ in_some
        → (in_all : Bool) → list_any (is_of s.client) ss ≡ in_all → total f (clients_of (filter p (s ∷ ss))) ≤ total f (clients_of (s ∷ ss))
    by rest apart false pass in_some is_some in_all is_all = let more = one_more f s ss in rw pass (omega arith)
    by rest apart true pass true is_some true is_all = rw (pass, is_some, is_all) rest
    by rest apart true pass true is_some false is_all = absurd (true≢false (sym (any_of_all p s.client ss is_some) ∙ is_all))
    by rest apart true pass false is_some true is_all =
        let left = one_absent f s.client (filter p ss) is_some in
        let right = one_there f s.client ss is_all in
        rw (pass, is_some, is_all) (omega (arith, left, right, apart))
    by rest apart true pass false is_some false is_all =
        let left = one_absent f s.client (filter p ss) is_some in
        let right = one_absent f s.client ss is_all in
        rw (pass, is_some, is_all) (omega (arith, left, right, apart))

-- a client that has no share holds nothing
pub none_held : (ss : List Share) (c : List ℕ) → list_any (is_of c) ss ≡ false → greatest_of ss c ≡ 0
none_held [] c none = refl
none_held (s ∷ ss) c none = by (none_held ss c) (same_text s.client c) refl
  where
    by : (list_any (is_of c) ss ≡ false → greatest_of ss c ≡ 0) → (same : Bool) → same_text s.client c ≡ same → greatest_of (s ∷ ss) c ≡ 0
    by rest true same = absurd (true≢false (rw same at none))
    by rest false same = rw same (rest (rw same at none))

-- some of the shares hold no more than all
pub some_hold : (p : Share → Bool) (ss : List Share) (c : List ℕ) → greatest_of (filter p ss) c ≤ greatest_of ss c
some_hold p [] c = omega arith
some_hold p (s ∷ ss) c = by (some_hold p ss c) (p s) refl (same_text s.client c) refl
  where
    by : greatest_of (filter p ss) c ≤ greatest_of ss c → (kept : Bool) → p s ≡ kept → (same : Bool) → same_text s.client c ≡ same
        → greatest_of (filter p (s ∷ ss)) c ≤ greatest_of (s ∷ ss) c
    by rest true pass true same = rw (pass, same) (omega (arith, rest))
    by rest true pass false same = rw (pass, same) rest
    by rest false pass true same = rw (pass, same) (omega (arith, rest))
    by rest false pass false same = rw (pass, same) rest

-- what a client holds with one share more at the end, where that is its own
pub own_more : (ss : List Share) (y : Share) (c : List ℕ) → same_text y.client c ≡ true → greatest_of (ss ++ y ∷ []) c ≡ max (greatest_of ss c) y.count
own_more [] y c own = rw own (omega arith)
own_more (s ∷ ss) y c own = by (own_more ss y c own) (same_text s.client c) refl
  where
    by : greatest_of (ss ++ y ∷ []) c ≡ max (greatest_of ss c) y.count → (same : Bool) → same_text s.client c ≡ same
        → greatest_of (s ∷ ss ++ y ∷ []) c ≡ max (greatest_of (s ∷ ss) c) y.count
    by rest true same = rw same (omega (arith, rest))
    by rest false same = rw same rest

-- and where it is another one's
pub other_more : (ss : List Share) (y : Share) (c : List ℕ) → same_text y.client c ≡ false → greatest_of (ss ++ y ∷ []) c ≡ greatest_of ss c
other_more [] y c other = rw other refl
other_more (s ∷ ss) y c other = by (other_more ss y c other) (same_text s.client c) refl
  where
    by : greatest_of (ss ++ y ∷ []) c ≡ greatest_of ss c → (same : Bool) → same_text s.client c ≡ same
        → greatest_of (s ∷ ss ++ y ∷ []) c ≡ greatest_of (s ∷ ss) c
    by rest true same = rw same (ap (max s.count) rest)
    by rest false same = rw same rest

any_more : (ss : List Share) (y : Share) (c : List ℕ) → list_any (is_of c) (ss ++ y ∷ []) ≡ (list_any (is_of c) ss || same_text y.client c)
any_more [] y c = by (same_text y.client c)
  where
    by : (b : Bool) → (b || false) ≡ (false || b)
    by true = refl
    by false = refl
any_more (s ∷ ss) y c = by (same_text s.client c) (any_more ss y c)
  where
    by : (b : Bool) → list_any (is_of c) (ss ++ y ∷ []) ≡ (list_any (is_of c) ss || same_text y.client c)
        → (b || list_any (is_of c) (ss ++ y ∷ [])) ≡ ((b || list_any (is_of c) ss) || same_text y.client c)
    by true rest = refl
    by false rest = rest

-- one share more changes no sum but for its client's number
pub others_more : (f : List ℕ → ℕ) (ss : List Share) (y : Share)
    → total (but_for y.client f) (clients_of (ss ++ y ∷ [])) ≡ total (but_for y.client f) (clients_of ss)
others_more f [] y = rw (same_itself y.client) refl
others_more f (s ∷ ss) y = by (others_more f ss y) (same_text s.client y.client) refl (list_any (is_of s.client) ss) refl
  where
    by : total (but_for y.client f) (clients_of (ss ++ y ∷ [])) ≡ total (but_for y.client f) (clients_of ss)
        → (same : Bool) → same_text s.client y.client ≡ same → (there : Bool) → list_any (is_of s.client) ss ≡ there
        → total (but_for y.client f) (clients_of (s ∷ ss ++ y ∷ [])) ≡ total (but_for y.client f) (clients_of (s ∷ ss))
    by rest true same true there =
        let after : list_any (is_of s.client) (ss ++ y ∷ []) ≡ true = any_more ss y s.client ∙ rw there refl in rw (there, after) rest
    by rest true same false there =
        let after : list_any (is_of s.client) (ss ++ y ∷ []) ≡ true =
        any_more ss y s.client ∙ rw (there, same_back s.client y.client true same) refl in
        rw (there, after, same) (omega (arith, rest))
    by rest false same there is_there =
        let after : list_any (is_of s.client) (ss ++ y ∷ []) ≡ there =
        any_more ss y s.client ∙ rw (is_there, same_back s.client y.client false same) (or_false there) in
        kept there is_there after
      where
        or_false : (b : Bool) → (b || false) ≡ b
        or_false true = refl
        or_false false = refl

        kept : (b : Bool) → list_any (is_of s.client) ss ≡ b → list_any (is_of s.client) (ss ++ y ∷ []) ≡ b
            → total (but_for y.client f) (clients_of (s ∷ ss ++ y ∷ [])) ≡ total (but_for y.client f) (clients_of (s ∷ ss))
        kept true before after = rw (before, after) rest
        kept false before after = rw (before, after) (ap (λ n. but_for y.client f s.client + n) rest)
