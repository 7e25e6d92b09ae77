-- What is kept of live shares as the first of them ends and another begins.
use Rattle.std.proofs.Common.{◌≡◌, ℕ, ◌+◌, ◌-◌, ◌≤◌, ◌||◌, if◌then◌else◌, not, Bool, true, false, List, [], ◌∷◌, ◌++◌, refl, ap, sym, ◌∙◌}
use Rattle.std.proofs.Common.{arith, max, nat_lt, length, filter}
use Rattle.std.specs.List.{list_any, AllByRecursion}
use Rattle.std.proofs.lemmas.Bool.Decides.{nat_tests}
use Rattle.std.proofs.lemmas.Bool.{true≢false}
use Rattle.rate_types.specs.Sums.{total, one_if}
use Rattle.rate_types.specs.Counters.{same_text}
use Rattle.quota_server.specs.Shares.{Share, lasts_until, is_of, greatest, greatest_of, clients_of, but_for, others_of, sharing_of}
use Rattle.quota_server.specs.Holds.{is_none_of, first_of, skyline, after_end, after_begin}
use Rattle.quota_server.specs.Lives.{counts_of, EndBy, EndsRise, IsKept, first_has_ended}
use Rattle.quota_server.proofs.Clients.{same_itself, same_back, total_same, one_there, one_absent, others_more}
use Rattle.quota_server.proofs.Fitting.{together_of, together_more}
use Rattle.quota_server.proofs.Skylines.{first_is_greatest, ends, begins}

-- nothing is kept of no counts alone
skyline_none : (ns : List ℕ) → is_none_of (skyline ns) ≡ is_none_of ns
skyline_none [] = refl
skyline_none (n ∷ ns) = by (skyline_none ns) (nat_lt n (greatest ns)) refl ns refl
  where
    by : is_none_of (skyline ns) ≡ is_none_of ns → (less : Bool) → nat_lt n (greatest ns) ≡ less → (ms : List ℕ) → ns ≡ ms
        → is_none_of (skyline (n ∷ ns)) ≡ false
    by rest false less ms is = rw less refl
    by rest true less [] is = absurd (let none : greatest ns ≡ 0 = ap greatest is in grind (arith, nat_tests))
    by rest true less (m ∷ ms) is = rw less (rest ∙ ap is_none_of is)

-- a client has no count exactly where it has no share
counts_none : (ss : List Share) (c : List ℕ) → is_none_of (counts_of ss c) ≡ not (list_any (is_of c) ss)
counts_none [] c = refl
counts_none (s ∷ ss) c = by (counts_none ss c) (same_text s.client c) refl
  where
    by : is_none_of (counts_of ss c) ≡ not (list_any (is_of c) ss) → (same : Bool) → same_text s.client c ≡ same
        → is_none_of (counts_of (s ∷ ss) c) ≡ not (list_any (is_of c) (s ∷ ss))
    by rest true same = rw same refl
    by rest false same = rw same rest

-- the same by what is kept
kept_none : (ss : List Share) (counts : List ℕ → List ℕ) (c : List ℕ) → counts c ≡ skyline (counts_of ss c)
    → is_none_of (counts c) ≡ not (list_any (is_of c) ss)
kept_none ss counts c is = ap is_none_of is ∙ skyline_none (counts_of ss c) ∙ counts_none ss c

-- what a client holds, by what is kept
pub kept_first : (ss : List Share) (counts : List ℕ → List ℕ) (c : List ℕ) → counts c ≡ skyline (counts_of ss c) → first_of (counts c) ≡ greatest_of ss c
kept_first ss counts c is = ap first_of is ∙ first_is_greatest (counts_of ss c)

-- how many clients there are: this one, where it has a share, and the others
one_of_clients : (ss : List Share) (c : List ℕ) (counts : List ℕ → List ℕ) → counts c ≡ skyline (counts_of ss c)
    → total (λ d. 1) (clients_of ss) + one_if (is_none_of (counts c)) ≡ sharing_of ss c
one_of_clients ss c counts is = by (list_any (is_of c) ss) refl
  where
    none : is_none_of (counts c) ≡ not (list_any (is_of c) ss)
    none = kept_none ss counts c is

    by : (there : Bool) → list_any (is_of c) ss ≡ there → total (λ d. 1) (clients_of ss) + one_if (is_none_of (counts c)) ≡ sharing_of ss c
    by true there =
        let all = one_there (λ d. 1) c ss there in
        let zero_ : one_if (is_none_of (counts c)) ≡ 0 = ap one_if (none ∙ ap not there) in
        omega (arith, all, zero_)
    by false there =
        let all = one_absent (λ d. 1) c ss there in
        let one : one_if (is_none_of (counts c)) ≡ 1 = ap one_if (none ∙ ap not there) in
        omega (arith, all, one)

-- a sum over the other clients doesn't see the first share
others_first : (f : List ℕ → ℕ) (s : Share) (ss : List Share)
    → total (but_for s.client f) (clients_of (s ∷ ss)) ≡ total (but_for s.client f) (clients_of ss)
others_first f s ss = by (list_any (is_of s.client) ss) refl
  where
    by : (there : Bool) → list_any (is_of s.client) ss ≡ there
        → total (but_for s.client f) (clients_of (s ∷ ss)) ≡ total (but_for s.client f) (clients_of ss)
    by true there = rw there refl
    by false there = rw (there, same_itself s.client) (omega arith)

others_left : (s : Share) (ss : List Share) → others_of (s ∷ ss) s.client ≡ others_of ss s.client
others_left s ss = total_same (but_for s.client (greatest_of (s ∷ ss))) (but_for s.client (greatest_of ss)) (clients_of (s ∷ ss)) one
    ∙ others_first (greatest_of ss) s ss
  where
    one : (d : List ℕ) → but_for s.client (greatest_of (s ∷ ss)) d ≡ but_for s.client (greatest_of ss) d
    one d = by (same_text d s.client) refl
      where
        by : (same : Bool) → same_text d s.client ≡ same → but_for s.client (greatest_of (s ∷ ss)) d ≡ but_for s.client (greatest_of ss) d
        by true same = rw same refl
        by false same = rw (same, same_back d s.client false same) refl

-- ---- the first share ends

-- what is kept of each client
end_each : (s : Share) (ss : List Share) (counts after : List ℕ → List ℕ) → ((c : List ℕ) → counts c ≡ skyline (counts_of (s ∷ ss) c))
    → ((c : List ℕ) → after c ≡ (if same_text s.client c then after_end s.count (counts c) else counts c))
    → (c : List ℕ) → after c ≡ skyline (counts_of ss c)
end_each s ss counts after kept then_ c = by (same_text s.client c) refl (kept c) (then_ c)
  where
    by : (same : Bool) → same_text s.client c ≡ same → counts c ≡ skyline (counts_of (s ∷ ss) c)
        → after c ≡ (if same_text s.client c then after_end s.count (counts c) else counts c) → after c ≡ skyline (counts_of ss c)
    by true same was is = (rw same at is) ∙ ap (after_end s.count) (rw same at was) ∙ ends s.count (counts_of ss c)
    by false same was is = (rw same at is) ∙ (rw same at was)

-- The first share ends: what is kept is that of the others.
pub end_kept : (s : Share) (ss : List Share) (counts after : List ℕ → List ℕ) (held clients : ℕ) → IsKept (s ∷ ss) counts held clients
    → ((c : List ℕ) → after c ≡ (if same_text s.client c then after_end s.count (counts c) else counts c))
    → IsKept ss after (held - (first_of (counts s.client) - first_of (after s.client))) (clients - one_if (is_none_of (after s.client)))
end_kept s ss counts after held clients is then_ =
    let each = end_each s ss counts after is.kept then_ in
    let before = kept_first (s ∷ ss) counts s.client (is.kept s.client) in
    let left = kept_first ss after s.client (each s.client) in
    let whole = together_of (s ∷ ss) s.client in
    let rest = together_of ss s.client in
    let others = others_left s ss in
    let sum = is.sum in
    let more = less_held in
    let one = one_of_clients ss s.client after (each s.client) in
    let all = all_clients in
    let number = is.number in
    let few = few_none in
    record {
      ends = is.ends.1;
      sum = omega (arith, before, left, whole, rest, others, sum, more);
      number = omega (arith, one, all, number);
      kept = each;
    }
  where
    less_held : greatest_of ss s.client ≤ greatest_of (s ∷ ss) s.client
    less_held = rw (same_itself s.client) (omega arith)

    few_none : one_if (is_none_of (after s.client)) ≤ 1
    few_none = by (is_none_of (after s.client))
      where
        by : (b : Bool) → one_if b ≤ 1
        by true = omega arith
        by false = omega arith

    all_clients : total (λ d. 1) (clients_of (s ∷ ss)) ≡ sharing_of ss s.client
    all_clients =
        let there = one_there (λ d. 1) s.client (s ∷ ss) (rw (same_itself s.client) refl) in
        let same = others_first (λ d. 1) s ss in
        omega (arith, there, same)

-- the numbers that are subtracted aren't greater
pub record EndLess (counts after : List ℕ → List ℕ) (client : List ℕ) (held clients : ℕ) : Type 0 where
  pub less : first_of (after client) ≤ first_of (counts client)
  pub within : first_of (counts client) ≤ held
  pub some : one_if (is_none_of (after client)) ≤ clients

pub end_less : (s : Share) (ss : List Share) (counts after : List ℕ → List ℕ) (held clients : ℕ) → IsKept (s ∷ ss) counts held clients
    → ((c : List ℕ) → after c ≡ (if same_text s.client c then after_end s.count (counts c) else counts c))
    → EndLess counts after s.client held clients
end_less s ss counts after held clients is then_ =
    let each = end_each s ss counts after is.kept then_ in
    let before = kept_first (s ∷ ss) counts s.client (is.kept s.client) in
    let left = kept_first ss after s.client (each s.client) in
    let whole = together_of (s ∷ ss) s.client in
    let sum = is.sum in
    let more = less_held in
    let one = one_of_clients ss s.client after (each s.client) in
    let all = all_clients in
    let number = is.number in
    record {
      less = omega (arith, before, left, more);
      within = omega (arith, before, whole, sum);
      some = omega (arith, one, all, number);
    }
  where
    less_held : greatest_of ss s.client ≤ greatest_of (s ∷ ss) s.client
    less_held = rw (same_itself s.client) (omega arith)

    all_clients : total (λ d. 1) (clients_of (s ∷ ss)) ≡ sharing_of ss s.client
    all_clients =
        let there = one_there (λ d. 1) s.client (s ∷ ss) (rw (same_itself s.client) refl) in
        let same = others_first (λ d. 1) s ss in
        omega (arith, there, same)

-- ---- what a client holds, and the others

pub own_within : (live : List Share) (counts : List ℕ → List ℕ) (held clients : ℕ) (c : List ℕ) → IsKept live counts held clients
    → first_of (counts c) ≤ held
own_within live counts held clients c is =
    let own = kept_first live counts c (is.kept c) in let whole = together_of live c in let sum = is.sum in omega (arith, own, whole, sum)

pub others_kept : (live : List Share) (counts : List ℕ → List ℕ) (held clients : ℕ) (c : List ℕ) → IsKept live counts held clients
    → held - first_of (counts c) ≡ others_of live c
others_kept live counts held clients c is =
    let own = kept_first live counts c (is.kept c) in let whole = together_of live c in let sum = is.sum in omega (arith, own, whole, sum)

pub sharing_kept : (live : List Share) (counts : List ℕ → List ℕ) (held clients : ℕ) (c : List ℕ) → IsKept live counts held clients
    → clients + one_if (is_none_of (counts c)) ≡ sharing_of live c
sharing_kept live counts held clients c is =
    let one = one_of_clients live c counts (is.kept c) in let number = is.number in omega (arith, one, number)

-- there are no more clients than shares
few_clients : (ss : List Share) → total (λ d. 1) (clients_of ss) ≤ length ss
few_clients [] = omega arith
few_clients (s ∷ ss) = by (few_clients ss) (list_any (is_of s.client) ss) refl
  where
    by : total (λ d. 1) (clients_of ss) ≤ length ss → (there : Bool) → list_any (is_of s.client) ss ≡ there
        → total (λ d. 1) (clients_of (s ∷ ss)) ≤ length (s ∷ ss)
    by rest true there = rw there (omega (arith, rest))
    by rest false there = rw there (omega (arith, rest))

pub few_kept : (live : List Share) (counts : List ℕ → List ℕ) (held clients : ℕ) → IsKept live counts held clients → clients ≤ length live
few_kept live counts held clients is = let few = few_clients live in let number = is.number in omega (arith, few, number)

-- ---- another share begins

counts_more : (live : List Share) (y : Share) (c : List ℕ)
    → counts_of (live ++ y ∷ []) c ≡ (if same_text y.client c then counts_of live c ++ y.count ∷ [] else counts_of live c)
counts_more [] y c = by (same_text y.client c) refl
  where
    by : (same : Bool) → same_text y.client c ≡ same → counts_of (y ∷ []) c ≡ (if same_text y.client c then y.count ∷ [] else [])
    by true same = rw same refl
    by false same = rw same refl
counts_more (s ∷ ss) y c = by (counts_more ss y c) (same_text s.client c) refl (same_text y.client c) refl
  where
    by : counts_of (ss ++ y ∷ []) c ≡ (if same_text y.client c then counts_of ss c ++ y.count ∷ [] else counts_of ss c)
        → (same : Bool) → same_text s.client c ≡ same → (own : Bool) → same_text y.client c ≡ own
        → counts_of (s ∷ ss ++ y ∷ []) c ≡ (if same_text y.client c then counts_of (s ∷ ss) c ++ y.count ∷ [] else counts_of (s ∷ ss) c)
    by rest true same true own = rw (same, own) (ap (λ ns. s.count ∷ ns) (rw own at rest))
    by rest true same false own = rw (same, own) (ap (λ ns. s.count ∷ ns) (rw own at rest))
    by rest false same true own = rw (same, own) (rw own at rest)
    by rest false same false own = rw (same, own) (rw own at rest)

begin_each : (live : List Share) (y : Share) (counts after : List ℕ → List ℕ) → ((c : List ℕ) → counts c ≡ skyline (counts_of live c))
    → ((c : List ℕ) → after c ≡ (if same_text y.client c then after_begin y.count (counts c) else counts c))
    → (c : List ℕ) → after c ≡ skyline (counts_of (live ++ y ∷ []) c)
begin_each live y counts after kept then_ c = by (same_text y.client c) refl (then_ c) (counts_more live y c)
  where
    by : (same : Bool) → same_text y.client c ≡ same → after c ≡ (if same_text y.client c then after_begin y.count (counts c) else counts c)
        → counts_of (live ++ y ∷ []) c ≡ (if same_text y.client c then counts_of live c ++ y.count ∷ [] else counts_of live c)
        → after c ≡ skyline (counts_of (live ++ y ∷ []) c)
    by true same is more = (rw same at is) ∙ ap (after_begin y.count) (kept c) ∙ sym (begins (counts_of live c) y.count) ∙ sym (ap skyline (rw same at more))
    by false same is more = (rw same at is) ∙ kept c ∙ sym (ap skyline (rw same at more))

ends_more : (live : List Share) (y : Share) → EndsRise live → EndBy y.until live → EndsRise (live ++ y ∷ [])
ends_more [] y rise by_ = (tt, tt)
ends_more (s ∷ ss) y rise by_ = (each ss rise.0, ends_more ss y rise.1 by_.1)
  where
    each : (xs : List Share) → AllByRecursion (λ x. s.until ≤ x.until) xs → AllByRecursion (λ x. s.until ≤ x.until) (xs ++ y ∷ [])
    each [] all = (by_.0, tt)
    each (x ∷ xs) all = (all.0, each xs all.1)

-- Another share begins: what is kept is that of all.
pub begin_kept : (live : List Share) (y : Share) (counts after : List ℕ → List ℕ) (held clients : ℕ) → IsKept live counts held clients
    → EndBy y.until live → ((c : List ℕ) → after c ≡ (if same_text y.client c then after_begin y.count (counts c) else counts c))
    → IsKept (live ++ y ∷ []) after (held - first_of (counts y.client) + max (first_of (counts y.client)) y.count)
    (clients + one_if (is_none_of (counts y.client)))
begin_kept live y counts after held clients is last then_ =
    let others = others_kept live counts held clients y.client is in
    let own = kept_first live counts y.client (is.kept y.client) in
    let whole = together_more live y in
    let sharing = sharing_kept live counts held clients y.client is in
    let all = all_clients in
    record {
      ends = ends_more live y is.ends last;
      sum = omega (arith, others, own, whole);
      number = omega (arith, sharing, all);
      kept = begin_each live y counts after is.kept then_;
    }
  where
    there : (ss : List Share) → list_any (is_of y.client) (ss ++ y ∷ []) ≡ true
    there [] = rw (same_itself y.client) refl
    there (s ∷ ss) = by (same_text s.client y.client) (there ss)
      where
        by : (b : Bool) → list_any (is_of y.client) (ss ++ y ∷ []) ≡ true → (b || list_any (is_of y.client) (ss ++ y ∷ [])) ≡ true
        by true rest = refl
        by false rest = rest

    all_clients : total (λ d. 1) (clients_of (live ++ y ∷ [])) ≡ sharing_of live y.client
    all_clients =
        let one = one_there (λ d. 1) y.client (live ++ y ∷ []) (there live) in
        let same = others_more (λ d. 1) live y in
        omega (arith, one, same)

-- ---- the shares that have ended stand first

all_last : (t : ℕ) (s : Share) (ss : List Share) → EndsRise (s ∷ ss) → lasts_until t s ≡ true → filter (lasts_until t) (s ∷ ss) ≡ s ∷ ss
all_last t s ss rise lasting = rw lasting (ap (λ xs. s ∷ xs) (rest ss rise.0))
  where
    rest : (xs : List Share) → AllByRecursion (λ x. s.until ≤ x.until) xs → filter (lasts_until t) xs ≡ xs
    rest [] all = refl
    rest (x ∷ xs) all =
        let here : lasts_until t x ≡ true = (let le = all.0 in grind (arith, nat_tests)) in rw here (ap (λ ys. x ∷ ys) (rest xs all.1))

-- where the first share hasn't ended, none has
pub none_ended : (t : ℕ) (live : List Share) → EndsRise live → first_has_ended live t ≡ false → filter (lasts_until t) live ≡ live
none_ended t [] rise first = refl
none_ended t (s ∷ ss) rise first = all_last t s ss rise (lasting (lasts_until t s) first)
  where
    lasting : (b : Bool) → not b ≡ false → b ≡ true
    lasting true is = refl
    lasting false is = absurd (true≢false is)

pub one_at_most : (b : Bool) → one_if b ≤ 1
one_at_most true = omega arith
one_at_most false = omega arith
