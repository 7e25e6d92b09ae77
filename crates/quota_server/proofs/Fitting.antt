-- A share that is granted fits the pool with those before it.
use Rattle.std.proofs.Common.{◌≡◌, ℕ, ◌+◌, ◌-◌, ◌≤◌, Bool, true, false, List, [], ◌∷◌, ◌++◌, refl, ap, ◌∙◌, arith, max, nat_lt, filter}
use Rattle.std.specs.List.{list_any, AllByRecursion}
use Rattle.std.proofs.lemmas.List.{append-nil}
use Rattle.std.proofs.lemmas.Bool.Decides.{nat_tests}
use Rattle.rate_types.specs.Counters.{same_text}
use Rattle.quota_server.specs.Shares.{Share, lasts_until, is_live_at, live_at, is_of, greatest_of, clients_of, but_for, held_of, others_of}
use Rattle.quota_server.specs.Shares.{held_together, SharesFitPool}
use Rattle.quota_server.proofs.Clients.{same_itself, same_back, total_le, total_same, one_there, one_absent, clients_of_some, none_held}
use Rattle.quota_server.proofs.Clients.{some_hold, own_more, other_more, others_more}

pub filter_more : (p : Share → Bool) (ss : List Share) (y : Share) → filter p (ss ++ y ∷ []) ≡ filter p ss ++ filter p (y ∷ [])
filter_more p [] y = refl
filter_more p (s ∷ ss) y = by (p s) refl (filter_more p ss y)
  where
    by : (kept : Bool) → p s ≡ kept → filter p (ss ++ y ∷ []) ≡ filter p ss ++ filter p (y ∷ [])
        → filter p (s ∷ ss ++ y ∷ []) ≡ filter p (s ∷ ss) ++ filter p (y ∷ [])
    by true pass rest = rw pass (ap (λ xs. s ∷ xs) rest)
    by false pass rest = rw pass rest

-- no share begins after a moment
abbrev pub BegunBy : ℕ → List Share → Type 0
BegunBy t shares = AllByRecursion (λ s. s.from ≤ t) shares

-- what is live at a later moment is what lasts until then of what was live
pub still_live : (earlier t : ℕ) (shares : List Share) → earlier ≤ t → BegunBy earlier shares → live_at t shares ≡ filter (lasts_until t) (live_at earlier shares)
still_live earlier t [] le begun = refl
still_live earlier t (s ∷ ss) le begun =
    by (still_live earlier t ss le begun.1) (nat_lt t s.from) refl (nat_lt earlier s.from) refl (nat_lt t s.until) refl (nat_lt earlier s.until) refl
  where
    by : live_at t ss ≡ filter (lasts_until t) (live_at earlier ss) → (late : Bool) → nat_lt t s.from ≡ late → (early : Bool) → nat_lt earlier s.from ≡ early
        → (lasting : Bool) → nat_lt t s.until ≡ lasting → (lasted : Bool) → nat_lt earlier s.until ≡ lasted
        → live_at t (s ∷ ss) ≡ filter (lasts_until t) (live_at earlier (s ∷ ss))
    by rest true late early is_early lasting is_lasting lasted is_lasted = absurd (let first = begun.0 in grind (arith, nat_tests))
    by rest false late true early lasting is_lasting lasted is_lasted = absurd (let first = begun.0 in grind (arith, nat_tests))
    by rest false late false early true lasting true lasted = rw (late, early, lasting, lasted, lasting) (ap (λ xs. s ∷ xs) rest)
    by rest false late false early true lasting false lasted = absurd (grind (arith, nat_tests))
    by rest false late false early false lasting true lasted = rw (late, early, lasting, lasted, lasting) rest
    by rest false late false early false lasting false lasted = rw (late, early, lasting, lasted) rest

-- no more is held together where some of the shares are left
less_together : (p : Share → Bool) (live : List Share) (c : List ℕ)
    → others_of (filter p live) c ≤ others_of live c
less_together p live c =
    let fewer = clients_of_some (but_for c (greatest_of live)) p live in
    let each = total_le (but_for c (greatest_of (filter p live))) (but_for c (greatest_of live)) (clients_of (filter p live)) one in
    omega (arith, fewer, each)
  where
    one : (d : List ℕ) → but_for c (greatest_of (filter p live)) d ≤ but_for c (greatest_of live) d
    one d = by (same_text d c) refl
      where
        by : (same : Bool) → same_text d c ≡ same → but_for c (greatest_of (filter p live)) d ≤ but_for c (greatest_of live) d
        by true same = rw same (omega arith)
        by false same = rw same (some_hold p live d)

-- what is held together: what one client holds, and what the others do
pub together_of : (live : List Share) (c : List ℕ)
    → held_of live ≡ greatest_of live c + others_of live c
together_of live c = by (list_any (is_of c) live) refl
  where
    by : (there : Bool) → list_any (is_of c) live ≡ there
        → held_of live ≡ greatest_of live c + others_of live c
    by true there = one_there (greatest_of live) c live there
    by false none = let nothing = none_held live c none in let absent = one_absent (greatest_of live) c live none in omega (arith, nothing, absent)

-- the same with one share more
pub together_more : (live : List Share) (y : Share)
    → held_of (live ++ y ∷ []) ≡ max (greatest_of live y.client) y.count + others_of live y.client
together_more live y =
    let all = together_of (live ++ y ∷ []) y.client in
    let own = own_more live y y.client (same_itself y.client) in
    let others = total_same (but_for y.client (greatest_of (live ++ y ∷ []))) (but_for y.client (greatest_of live)) (clients_of (live ++ y ∷ [])) one in
    let fewer = others_more (greatest_of live) live y in
    omega (arith, all, own, others, fewer)
  where
    one : (d : List ℕ) → but_for y.client (greatest_of (live ++ y ∷ [])) d ≡ but_for y.client (greatest_of live) d
    one d = by (same_text d y.client) refl
      where
        by : (same : Bool) → same_text d y.client ≡ same → but_for y.client (greatest_of (live ++ y ∷ [])) d ≡ but_for y.client (greatest_of live) d
        by true same = rw same refl
        by false same = rw same (other_more live y d (same_back d y.client false same))

-- A share of a client that begins when it is granted fits with those before it.
pub fits_more : (count : ℕ) (shares : List Share) (y : Share) → SharesFitPool count shares → BegunBy y.from shares
    → y.count ≤ count - others_of (live_at y.from shares) y.client → SharesFitPool count (shares ++ y ∷ [])
fits_more count shares y fits begun part t = by (nat_lt t y.from) refl (nat_lt t y.until) refl
  where
    split : live_at t (shares ++ y ∷ []) ≡ live_at t shares ++ live_at t (y ∷ [])
    split = filter_more (is_live_at t) shares y

    alone : live_at t (y ∷ []) ≡ [] → held_together (shares ++ y ∷ []) t ≤ count
    alone none =
        let same : live_at t (shares ++ y ∷ []) ≡ live_at t shares = split ∙ ap (λ xs. live_at t shares ++ xs) none ∙ append-nil (live_at t shares) in
        let before = fits t in
        rw same before

    both : y.from ≤ t → live_at t (y ∷ []) ≡ y ∷ [] → held_together (shares ++ y ∷ []) t ≤ count
    both later one =
        let live = live_at t shares in
        let began = live_at y.from shares in
        let same : live_at t (shares ++ y ∷ []) ≡ live ++ y ∷ [] = split ∙ ap (λ xs. live ++ xs) one in
        let whole = together_more live y in
        let now = together_of live y.client in
        let then_ = together_of began y.client in
        let fits_now = fits t in
        let fits_then = fits y.from in
        let left : live ≡ filter (lasts_until t) began = still_live y.from t shares later begun in
        let fewer : others_of live y.client ≤ others_of began y.client =
        rw left (less_together (lasts_until t) began y.client) in
        rw same (omega (arith, whole, now, then_, fits_now, fits_then, fewer, part))

    by : (late : Bool) → nat_lt t y.from ≡ late → (lasting : Bool) → nat_lt t y.until ≡ lasting → held_together (shares ++ y ∷ []) t ≤ count
    by true late lasting is_lasting = alone (rw late refl)
    by false late false lasting = alone (rw (late, lasting) refl)
    by false late true lasting = both (grind (arith, nat_tests)) (rw (late, lasting) refl)
