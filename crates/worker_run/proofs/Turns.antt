-- Values that never fall, in a lawful ledger with lawful sights: then each is what was charged before it.
use Rattle.std.proofs.Common.{◌≡◌, ◌⊎◌, inl, inr, ℕ, ◌+◌, ◌≤◌, ◌<◌, ◌==◌, ◌&&◌, List, [], ◌∷◌, ◌++◌, nat_lt, Bool, true, false, cond}
use Rattle.std.proofs.Common.{refl, sym, ap, ◌∙◌, subst, arith, append_assoc, eq-eqb}
use Rattle.std.proofs.lemmas.Bool.{lt-ltb, le-ltb, ne_eqb}
use Rattle.std.specs.List.{AllByRecursion}
use Rattle.rate_types.specs.Counters.{same_counter}
use Rattle.rate_types.specs.Ledger.{Charge, Sight, charged_below, IsLawfulLedger, IsLawfulSight}
use Rattle.rate_types.specs.Sums.{total}
use Rattle.rate_types.proofs.Sums.{total_append}
use Rattle.rate_types.specs.declared.counter_key.CounterKey.{CounterKey}
use Rattle.window_keys.proofs.Counters.{same_is, same_itself}
use Rattle.rls_core.specs.Sequential.{count_under}
use Rattle.rls_core.specs.declared.status.Count.{Count}
use Rattle.rls_core.specs.declared.status.Count.TheVariants.{NoCount, Before, Seen}
use Rattle.rate_limiter.proofs.Places.{all_back, all_front, all_weaker}
use Rattle.script_run.specs.Charges.{charged_in}
use Rattle.script_run.specs.Values.{KnownAtMost}
use Rattle.worker_run.proofs.Ledger.{sum_total}

-- what a status shows of a counter under a limit with its hits
pub data Event : Type 0 where
  event : CounterKey → ℕ → ℕ → Count → Event

-- the charges that they show
abbrev pub charges : List Event → List (Charge CounterKey)
charges [] = []
charges (event c limit hits (Before before) ∷ es) = record { counter = c; before = before; hits = hits } ∷ charges es
charges (event c limit hits count ∷ es) = charges es

-- the sights that they show
abbrev pub sights : List Event → List (Sight CounterKey)
sights [] = []
sights (event c limit hits (Seen seen) ∷ es) = record { counter = c; seen = seen } ∷ sights es
sights (event c limit hits count ∷ es) = sights es

-- the values that they make known
abbrev pub values : List Event → List (Sight CounterKey)
values [] = []
values (event c limit hits (Before before) ∷ es) = record { counter = c; seen = before + hits } ∷ values es
values (event c limit hits (Seen seen) ∷ es) = record { counter = c; seen = seen } ∷ values es
values (event c limit hits NoCount ∷ es) = values es

-- each is fair by what is known and by those before it
abbrev pub Fair : List (Sight CounterKey) → List Event → Type 0
Fair known [] = Unit {0}
Fair known (event c limit hits (Before before) ∷ es) =
    KnownAtMost known c limit × KnownAtMost known c before × Fair (known ++ (record { counter = c; seen = before + hits }) ∷ []) es
Fair known (event c limit hits (Seen seen) ∷ es) =
    ((hits ≡ 0) ⊎ (limit < seen)) × KnownAtMost known c seen × Fair (known ++ (record { counter = c; seen = seen }) ∷ []) es
Fair known (event c limit hits NoCount ∷ es) = Fair known es

-- each counts what was charged before it
abbrev pub Turns : List (Charge CounterKey) → List Event → Type 0
Turns ledger [] = Unit {0}
Turns ledger (event c limit hits (Before before) ∷ es) =
    (Before before ≡ count_under limit hits (charged_in ledger c)) × Turns (ledger ++ (record { counter = c; before = before; hits = hits }) ∷ []) es
Turns ledger (event c limit hits (Seen seen) ∷ es) = (Seen seen ≡ count_under limit hits (charged_in ledger c)) × Turns ledger es
Turns ledger (event c limit hits NoCount ∷ es) = Turns ledger es

-- a value of the counter is known, or a greater one
abbrev KnownIs : List (Sight CounterKey) → CounterKey → ℕ → Type 0
KnownIs known c value = (most : ℕ) → KnownAtMost known c most → value ≤ most

known_front : (xs ys : List (Sight CounterKey)) (c : CounterKey) (most : ℕ) → KnownAtMost (xs ++ ys) c most → KnownAtMost xs c most
known_front [] ys c most h = tt
known_front (x ∷ xs) ys c most h = (h.0, known_front xs ys c most h.1)

known_last : (xs : List (Sight CounterKey)) (c : CounterKey) (value : ℕ) → KnownIs (xs ++ (record { counter = c; seen = value }) ∷ []) c value
known_last [] c value most h = h.0 (same_itself c)
known_last (x ∷ xs) c value most h = known_last xs c value most h.1

known_still : (known more : List (Sight CounterKey)) (c : CounterKey) (value : ℕ) → KnownIs known c value → KnownIs (known ++ more) c value
known_still known more c value k = λ most h. k most (known_front known more c most h)

same_most : (known : List (Sight CounterKey)) (c q : CounterKey) (most : ℕ) → same_counter c q ≡ true → KnownAtMost known q most → KnownAtMost known c most
same_most known c q most same h = subst (λ (x : CounterKey). KnownAtMost known x most) (sym (same_is c q same)) h

-- later charges of a counter stand on at least what is known of it
abbrev OnAtLeast : CounterKey → ℕ → Charge CounterKey → Type 0
OnAtLeast c value x = same_counter x.counter c ≡ true → value ≤ x.before

later : (known : List (Sight CounterKey)) (es : List Event) (c : CounterKey) (value : ℕ) → Fair known es → KnownIs known c value → AllByRecursion (OnAtLeast c value) (charges es)
later known [] c value fair k = tt
later known (event q limit hits (Before before) ∷ es) c value fair k = (
  λ same. k before (subst (λ (x : CounterKey). KnownAtMost known x before) (same_is q c same) fair.1),
  later (known ++ (record { counter = q; seen = before + hits }) ∷ []) es c value fair.2 (known_still known _ c value k),
)
later known (event q limit hits (Seen seen) ∷ es) c value fair k =
    later (known ++ (record { counter = q; seen = seen }) ∷ []) es c value fair.2 (known_still known _ c value k)
later known (event q limit hits NoCount ∷ es) c value fair k = later known es c value fair k

-- ---- sums

module _ (c : CounterKey) (bound : ℕ) where
  abbrev all_of : Charge CounterKey → ℕ
  all_of x = cond (same_counter x.counter c) x.hits 0

  abbrev below_of : Charge CounterKey → ℕ
  below_of x = cond (same_counter x.counter c && nat_lt x.before bound) x.hits 0

  front_sum : (ledger : List (Charge CounterKey)) → AllByRecursion (λ x. same_counter x.counter c ≡ true → x.before < bound) ledger → total below_of ledger ≡ total all_of ledger
  front_sum [] h = refl
  front_sum (x ∷ xs) h =
      let r = front_sum xs h.1 in
      let one = by (same_counter x.counter c) refl in
      omega (arith, r, one)
    where
      by : (t : Bool) → same_counter x.counter c ≡ t → cond (t && nat_lt x.before bound) x.hits 0 ≡ cond t x.hits 0
      by true e = let lt = lt-ltb x.before bound (h.0 e) in rw lt refl
      by false e = refl

  back_sum : (ledger : List (Charge CounterKey)) → AllByRecursion (OnAtLeast c bound) ledger → total below_of ledger ≡ 0
  back_sum [] h = refl
  back_sum (x ∷ xs) h =
      let r = back_sum xs h.1 in
      let one = by (same_counter x.counter c) refl in
      omega (arith, r, one)
    where
      by : (t : Bool) → same_counter x.counter c ≡ t → cond (t && nat_lt x.before bound) x.hits 0 ≡ 0
      by true e = let ge = le-ltb x.before bound (h.0 e) in rw ge refl
      by false e = refl

  -- where the front is below the bound and the back isn't, what is below it is what was charged in front
  below_front : (front back : List (Charge CounterKey)) → AllByRecursion (λ x. same_counter x.counter c ≡ true → x.before < bound) front
      → AllByRecursion (OnAtLeast c bound) back → charged_below same_counter c bound (front ++ back) ≡ charged_in front c
  below_front front back f k =
      let a = sum_total below_of (front ++ back) in
      let s = total_append below_of front back in
      let x = front_sum front f in
      let y = back_sum back k in
      let z = sum_total all_of front in
      omega (arith, a, s, x, y, z)

all_push : {A : Type 0} (P : A → Type 0) (xs : List A) (y : A) → AllByRecursion P xs → P y → AllByRecursion P (xs ++ y ∷ [])
all_push P [] y h k = (k, tt)
all_push P (x ∷ xs) y h k = (h.0, all_push P xs y h.1 k)

pub charged_more : (ledger more : List (Charge CounterKey)) (c : CounterKey) → charged_in (ledger ++ more) c ≡ charged_in ledger c + charged_in more c
charged_more ledger more c =
    let f : Charge CounterKey → ℕ = λ (x : Charge CounterKey). cond (same_counter x.counter c) x.hits 0 in
    let a = sum_total f (ledger ++ more) in
    let b = sum_total f ledger in
    let d = sum_total f more in
    let s = total_append f ledger more in
    omega (arith, a, b, d, s)

counts_before : (limit hits value : ℕ) → 1 ≤ hits → value ≤ limit → count_under limit hits value ≡ Before value
counts_before limit hits value some le =
    let no = ne_eqb hits 0 (λ e. omega arith) in
    let low = le-ltb limit value le in
    rw (no, low) refl

counts_seen : (limit hits value : ℕ) → (hits ≡ 0) ⊎ (limit < value) → count_under limit hits value ≡ Seen value
counts_seen limit hits value (inl e) = let yes = eq-eqb hits 0 e in rw yes refl
counts_seen limit hits value (inr lt) = pick (hits == 0) refl
  where
    pick : (t : Bool) → (hits == 0) ≡ t → count_under limit hits value ≡ Seen value
    pick true e = rw e refl
    pick false e = let yes = lt-ltb limit value lt in rw (e, yes) refl

-- ---- the turns

module _ (whole : List (Charge CounterKey)) (lawful : IsLawfulLedger same_counter whole) where
  -- each charge so far has its value among those known
  abbrev Covers : List (Sight CounterKey) → List (Charge CounterKey) → Type 0
  Covers known ledger = AllByRecursion (λ (x : Charge CounterKey). KnownIs known x.counter (x.before + x.hits)) ledger

  covered_below : (known : List (Sight CounterKey)) (ledger : List (Charge CounterKey)) (c : CounterKey) (bound : ℕ) → Covers known ledger
      → AllByRecursion (λ (x : Charge CounterKey). 1 ≤ x.hits) ledger → KnownAtMost known c bound
      → AllByRecursion (λ (x : Charge CounterKey). same_counter x.counter c ≡ true → x.before < bound) ledger
  covered_below known [] c bound cov hits most = tt
  covered_below known (x ∷ xs) c bound cov hits most = (
    λ same. let le = cov.0 bound (same_most known x.counter c bound same most) in let some = hits.0 in omega (arith, le, some),
    covered_below known xs c bound cov.1 hits.1 most,
  )

  covers_still : (known more : List (Sight CounterKey)) (ledger : List (Charge CounterKey)) → Covers known ledger → Covers (known ++ more) ledger
  covers_still known more ledger cov =
      all_weaker (λ (x : Charge CounterKey). KnownIs known x.counter (x.before + x.hits)) (λ (x : Charge CounterKey). KnownIs (known ++ more) x.counter (x.before + x.hits))
      (λ x k. known_still known more x.counter (x.before + x.hits) k) ledger cov

  pub turns : (known : List (Sight CounterKey)) (ledger : List (Charge CounterKey)) (es : List Event) → Fair known es → Covers known ledger
      → ((c : CounterKey) → KnownIs known c (charged_in ledger c)) → whole ≡ ledger ++ charges es → AllByRecursion (IsLawfulSight same_counter whole) (sights es) → Turns ledger es
  turns known ledger [] fair cov bound is seen = tt
  turns known ledger (event c limit hits NoCount ∷ es) fair cov bound is seen = turns known ledger es fair cov bound is seen
  turns known ledger (event c limit hits (Seen s) ∷ es) fair cov bound is seen =
      let known' = known ++ (record { counter = c; seen = s }) ∷ [] in
      let front_hits = all_front (λ (x : Charge CounterKey). 1 ≤ x.hits) ledger (charges es)
      (subst (λ l. AllByRecursion (λ (x : Charge CounterKey). 1 ≤ x.hits) l) is lawful.hits) in
      let front = covered_below known ledger c s cov front_hits fair.1 in
      let back = later known' es c s fair.2 (known_last known c s) in
      let sum = below_front c s ledger (charges es) front back in
      let value : s ≡ charged_in ledger c = seen.0 ∙ ap (charged_below same_counter c s) is ∙ sum in (
        sym (counts_seen limit hits s fair.0) ∙ ap (count_under limit hits) value,
        turns known' ledger es fair.2 (covers_still known _ ledger cov) (λ q. known_still known _ q (charged_in ledger q) (bound q)) is seen.1,
      )
  turns known ledger (event c limit hits (Before b) ∷ es) fair cov bound is seen =
      let known' = known ++ (record { counter = c; seen = b + hits }) ∷ [] in
      let new : Charge CounterKey = record { counter = c; before = b; hits = hits } in
      let all_hits = subst (λ l. AllByRecursion (λ (x : Charge CounterKey). 1 ≤ x.hits) l) is lawful.hits in
      let front_hits = all_front (λ (x : Charge CounterKey). 1 ≤ x.hits) ledger (new ∷ charges es) all_hits in
      let its_hits : 1 ≤ hits = (all_back (λ (x : Charge CounterKey). 1 ≤ x.hits) ledger (new ∷ charges es) all_hits).0 in
      let sums = subst (λ l. AllByRecursion (λ (x : Charge CounterKey). x.before ≡ charged_below same_counter x.counter x.before whole) l) is lawful.sums in
      let its_sum : b ≡ charged_below same_counter c b whole =
      (all_back (λ (x : Charge CounterKey). x.before ≡ charged_below same_counter x.counter x.before whole) ledger (new ∷ charges es) sums).0 in
      let front = covered_below known ledger c b cov front_hits fair.1 in
      let after = later known' es c (b + hits) fair.2 (known_last known c (b + hits)) in
      let back : AllByRecursion (OnAtLeast c b) (new ∷ charges es) =
      (λ same. omega arith, all_weaker (OnAtLeast c (b + hits)) (OnAtLeast c b) (λ x k same. let le = k same in omega (arith, le)) (charges es) after) in
      let sum = below_front c b ledger (new ∷ charges es) front back in
      let value : b ≡ charged_in ledger c = its_sum ∙ ap (charged_below same_counter c b) is ∙ sum in
      let low = bound c limit fair.0 in
      let fits : b ≤ limit = omega (arith, low, value) in (
        sym (counts_before limit hits b its_hits fits) ∙ ap (count_under limit hits) value,
        turns known' (ledger ++ new ∷ []) es fair.2
            (all_push (λ (x : Charge CounterKey). KnownIs known' x.counter (x.before + x.hits)) ledger new (covers_still known _ ledger cov) (known_last known c (b + hits)))
            (next value) (is ∙ sym (append_assoc ledger (new ∷ []) (charges es))) seen,
      )
    where
      next : b ≡ charged_in ledger c → (q : CounterKey)
          → KnownIs (known ++ (record { counter = c; seen = b + hits }) ∷ []) q (charged_in (ledger ++ (record { counter = c; before = b; hits = hits }) ∷ []) q)
      next value q most at = pick (same_counter c q) refl
        where
          new : Charge CounterKey
          new = record { counter = c; before = b; hits = hits }

          more : charged_in (ledger ++ new ∷ []) q ≡ charged_in ledger q + charged_in (new ∷ []) q
          more = charged_more ledger (new ∷ []) q

          one : charged_in (new ∷ []) q ≡ cond (same_counter c q) hits 0
          one = let t = sum_total (λ (x : Charge CounterKey). cond (same_counter x.counter q) x.hits 0) (new ∷ []) in omega (arith, t)

          pick : (t : Bool) → same_counter c q ≡ t → charged_in (ledger ++ new ∷ []) q ≤ most
          pick true e =
              let same : c ≡ q = same_is c q e in
              let mine : charged_in ledger q ≡ b = ap (charged_in ledger) (sym same) ∙ sym value in
              let its = known_last known c (b + hits) most (subst (λ (x : CounterKey). KnownAtMost (known ++ (record { counter = c; seen = b + hits }) ∷ []) x most) (sym same) at)
              in
              let hit : charged_in (new ∷ []) q ≡ hits = one ∙ rw e refl in
              omega (arith, more, mine, its, hit)
          pick false e =
              let old = bound q most (known_front known _ q most at) in
              let none : charged_in (new ∷ []) q ≡ 0 = one ∙ rw e refl in
              omega (arith, more, old, none)
