-- Reports that are sorted by their moments, stably, are the reports in order.
use Rattle.std.proofs.Common.{◌≡◌, ℕ, ◌<◌, ◌≤◌, ◌==◌, Bool, true, false, not, ◌&&◌, List, [], ◌∷◌, refl, arith, ap, sym, ◌∙◌, cond, nat_le, suc, get_or, length}
use Rattle.std.specs.Bool.{⊤}
use Rattle.std.specs.List.{filter}
use Rattle.std.specs.List.Sorted.{IsNonDecreasingBy, IsStableByKey, ties}
use Rattle.std.specs.Ordering.{nat_cmp, is_lt}
use Rattle.std.proofs.lemmas.Bool.{eqb-true, eq-eqb, leb-true, leb-false}
use Rattle.std.proofs.lemmas.Bool.Decides.{nat_tests}
use Rattle.quota_buckets.specs.declared.report.Report.{Report}
use Rattle.quota_buckets.specs.Sending.{placed, by_moment}

-- those of one moment
abbrev at_moment : ℕ → List Report → List Report
at_moment k rs = filter (λ r. r.at == k) rs

-- none is earlier
abbrev AllFrom : ℕ → List Report → Type 0
AllFrom k [] = ⊤
AllFrom k (r ∷ rs) = (k ≤ r.at) × AllFrom k rs

abbrev Rises : List Report → Type 0
Rises [] = ⊤
Rises (r ∷ rs) = AllFrom r.at rs × Rises rs

all_from : (k : ℕ) (rs : List Report) → ((j : ℕ) (d : Report) → j < length rs → k ≤ (get_or rs j d).at) → AllFrom k rs
all_from k [] each = tt
all_from k (r ∷ rs) each = (each 0 r (omega arith), all_from k rs (λ j d lt. each (suc j) d (omega arith)))

rises_from : (rs : List Report) → IsNonDecreasingBy (λ r. r.at) rs → Rises rs
rises_from [] up = tt
rises_from (r ∷ rs) up = (
  all_from r.at rs (λ j d lt. up 0 (suc j) d (omega arith) (omega arith)),
  rises_from rs (λ i j d le lt. up (suc i) (suc j) d (omega arith) (omega arith)),
)

lower : (k m : ℕ) (rs : List Report) → k ≤ m → AllFrom m rs → AllFrom k rs
lower k m [] le from = tt
lower k m (r ∷ rs) le from = (omega (arith, from.0), lower k m rs le from.1)

-- a moment that occurs isn't before the first one
late_step : (k m : ℕ) (r x : Report) (rs xs : List Report) (b : Bool) → (b ≡ true → m ≤ k)
    → (at_moment k rs ≡ x ∷ xs → m ≤ k) → cond b (r ∷ at_moment k rs) (at_moment k rs) ≡ x ∷ xs → m ≤ k
late_step k m r x rs xs true here rest is = here refl
late_step k m r x rs xs false here rest is = rest is

occurs_late : (k m : ℕ) (rs : List Report) (x : Report) (xs : List Report) → AllFrom m rs → at_moment k rs ≡ x ∷ xs → m ≤ k
occurs_late k m [] x xs from is = absurd (cc)
occurs_late k m (r ∷ rs) x xs from is =
    late_step k m r x rs xs (r.at == k) (λ e. rw (← eqb-true _ _ e) from.0) (λ h. occurs_late k m rs x xs from.1 h) is

-- the head of a list is among those of its moment
at_head : (r : Report) (rs : List Report) → at_moment r.at (r ∷ rs) ≡ r ∷ at_moment r.at rs
at_head r rs = rw (eq-eqb r.at r.at refl) refl

abbrev SameMoments : List Report → List Report → Type 0
SameMoments xs ys = (k : ℕ) → at_moment k xs ≡ at_moment k ys

head_late : (x y : Report) (xs ys : List Report) → Rises (y ∷ ys) → at_moment x.at (y ∷ ys) ≡ at_moment x.at (x ∷ xs) → y.at ≤ x.at
head_late x y xs ys rises same =
    occurs_late x.at y.at (y ∷ ys) x (at_moment x.at xs) (omega arith, rises.0) (same ∙ at_head x xs)

tail_step : (b : Bool) (x : Report) (us vs : List Report) → cond b (x ∷ us) us ≡ cond b (x ∷ vs) vs → us ≡ vs
tail_step true x us vs is = cc
tail_step false x us vs is = is

-- two rising lists with the same reports at each moment are equal
same_rising : (xs ys : List Report) → Rises xs → Rises ys → SameMoments xs ys → xs ≡ ys
same_rising [] [] rx ry same = refl
same_rising [] (y ∷ ys) rx ry same = absurd (let e = same y.at ∙ at_head y ys in cc)
same_rising (x ∷ xs) [] rx ry same = absurd (let e = sym (same x.at) ∙ at_head x xs in cc)
same_rising (x ∷ xs) (y ∷ ys) rx ry same =
    let low = head_late x y xs ys ry (sym (same x.at)) in
    let high = head_late y x ys xs rx (same y.at) in
    let moments : x.at ≡ y.at = omega arith in
    let heads : x ∷ at_moment x.at xs ≡ y ∷ at_moment y.at ys =
    sym (at_head x xs) ∙ same x.at ∙ ap (λ k. at_moment k (y ∷ ys)) moments ∙ at_head y ys in
    let first : x ≡ y = cc in
    let rest : xs ≡ ys = same_rising xs ys rx.1 ry.1 (λ k. tail_step (x.at == k) x _ _
    (same k ∙ rw first refl)) in
    rw (first, rest) refl

-- the reports in order rise
from_step : (k : ℕ) (r x : Report) (xs ys : List Report) (b : Bool) → k ≤ r.at → k ≤ x.at → AllFrom k xs → AllFrom k ys
    → AllFrom k (cond b (r ∷ (x ∷ xs)) (x ∷ ys))
from_step k r x xs ys true lr lx lxs lys = (lr, (lx, lxs))
from_step k r x xs ys false lr lx lxs lys = (lx, lys)

placed_from : (k : ℕ) (r : Report) (xs : List Report) → k ≤ r.at → AllFrom k xs → AllFrom k (placed r xs)
placed_from k r [] le from = (le, tt)
placed_from k r (x ∷ xs) le from = from_step k r x xs _ (nat_le r.at x.at) le from.0 from.1 (placed_from k r xs le from.1)

rises_step : (r x : Report) (xs ys : List Report) (b : Bool) → (b ≡ true → r.at ≤ x.at) → AllFrom x.at xs → Rises xs
    → (b ≡ false → AllFrom x.at ys) → Rises ys → Rises (cond b (r ∷ (x ∷ xs)) (x ∷ ys))
rises_step r x xs ys true le from rx fy ry = ((le refl, lower r.at x.at xs (le refl) from), (from, rx))
rises_step r x xs ys false le from rx fy ry = (fy refl, ry)

placed_rises : (r : Report) (xs : List Report) → Rises xs → Rises (placed r xs)
placed_rises r [] rises = (tt, tt)
placed_rises r (x ∷ xs) rises =
    rises_step r x xs _ (nat_le r.at x.at) (λ e. leb-true _ _ e) rises.0 rises.1
    (λ e. let after = leb-false r.at x.at e in placed_from x.at r xs (omega arith) rises.0)
    (placed_rises r xs rises.1)

by_moment_rises : (rs : List Report) → Rises (by_moment rs)
by_moment_rises [] = tt
by_moment_rises (r ∷ rs) = placed_rises r (by_moment rs) (by_moment_rises rs)

-- and have those of each moment by age
apart : (b here there : Bool) (r x : Report) (us vs : List Report) → (b ≡ false → here ≡ true → there ≡ true → ⊥)
    → us ≡ cond here (r ∷ vs) vs
    → cond b (cond here (r ∷ cond there (x ∷ vs) vs) (cond there (x ∷ vs) vs)) (cond there (x ∷ us) us)
    ≡ cond here (r ∷ cond there (x ∷ vs) vs) (cond there (x ∷ vs) vs)
apart true here there r x us vs clash is = refl
apart false true true r x us vs clash is = absurd (clash refl refl refl)
apart false true false r x us vs clash is = is
apart false false true r x us vs clash is = ap (λ ws. x ∷ ws) is
apart false false false r x us vs clash is = is

at_choice : (k : ℕ) (b : Bool) (us vs : List Report) → at_moment k (cond b us vs) ≡ cond b (at_moment k us) (at_moment k vs)
at_choice k true us vs = refl
at_choice k false us vs = refl

placed_moments : (k : ℕ) (r : Report) (xs : List Report) → at_moment k (placed r xs) ≡ at_moment k (r ∷ xs)
placed_moments k r [] = refl
placed_moments k r (x ∷ xs) =
    at_choice k (nat_le r.at x.at) (r ∷ (x ∷ xs)) (x ∷ placed r xs)
    ∙ apart (nat_le r.at x.at) (r.at == k) (x.at == k) r x (at_moment k (placed r xs)) (at_moment k xs)
    (λ later here there.
    let a = leb-false r.at x.at later in
    let b = eqb-true r.at k here in
    let c = eqb-true x.at k there in
    omega arith)
    (placed_moments k r xs)

by_moment_moments : (k : ℕ) (rs : List Report) → at_moment k (by_moment rs) ≡ at_moment k rs
by_moment_moments k [] = refl
by_moment_moments k (r ∷ rs) =
    placed_moments k r (by_moment rs) ∙ ap (λ us. cond (r.at == k) (r ∷ us) us) (by_moment_moments k rs)

-- what stability says of one moment
tie_is : (m k : ℕ) → (not (is_lt (nat_cmp k m)) && not (is_lt (nat_cmp m k))) ≡ (m == k)
tie_is m k = grind (arith, nat_tests)

same_filter : (p q : Report → Bool) (rs : List Report) → ((r : Report) → p r ≡ q r) → filter p rs ≡ filter q rs
same_filter p q [] same = refl
same_filter p q (r ∷ rs) same = rw (same r, same_filter p q rs same) refl

pub in_order : (due sent : List Report) → IsNonDecreasingBy (λ r. r.at) sent → IsStableByKey (λ r. r.at) nat_cmp due sent
    → sent ≡ by_moment due
in_order due sent rises stable =
    same_rising sent (by_moment due) (rises_from sent rises) (by_moment_rises due)
    (λ k.
    let x : Report = record { at = k; bucket = []; elapsed = 0; allowed = 0; denied = 0 } in
    let test : Report → Bool = λ r. ties (λ (u v : Report). is_lt (nat_cmp u.at v.at)) x r in
    same_filter (λ r. r.at == k) test sent (λ r. sym (tie_is r.at k))
    ∙ stable x
    ∙ same_filter test (λ r. r.at == k) due (λ r. tie_is r.at k)
    ∙ sym (by_moment_moments k due))
