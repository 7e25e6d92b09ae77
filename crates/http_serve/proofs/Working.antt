-- What workers served, put together.
use Rattle.std.proofs.Common.{◌≡◌, ℕ, zero, suc, ◌+◌, ◌≤◌, ◌<◌, ◌==◌, List, [], ◌∷◌, length, get_or, map, true, refl, sym, ap, ◌∙◌, subst, arith}
use Rattle.std.proofs.lemmas.Bool.Decides.{nat_tests}
use Rattle.std.specs.List.{AllByRecursion}
use mathlib.Core.Option.{some, some-ne-none, some-injective}
use lib.ListN.{get_elem?}
use native.Mathlib.Decide.{dec_lt}
use Rattle.rate_types.specs.Sums.{total, one_if, times}
use Rattle.rate_types.proofs.Sums.{total_append, total_one}
use Rattle.link_handover.specs.Passes.{TakesFrom, taken_by, numbers_taken, is_end, IsOnceBelow}
use Rattle.link_handover.specs.declared.handover.Handover.{Handover}
use Rattle.rate_io.specs.declared.link.Link.{Ghosts}
use Rattle.http_endpoint.specs.Answers.{CheckStep, Asked, Lead}
use Rattle.http_serve.specs.Service.{Service, AreServed, AreServedBy}
use Rattle.http_serve.specs.Links.{AreNumbered}
use Rattle.http_serve.specs.Merged.{joined, on_number, EachNumberOnce, Merges}
use Rattle.http_serve.specs.Working.{HasWorked}
use Rattle.http_serve.specs.declared.served.Fresh.{Fresh}
use Rattle.http_serve.specs.declared.worker.Worker.{Worker}
use Rattle.http_serve.proofs.Services.{served_leads}

-- links in the order of their numbers
pub numbered_by : (n : ℕ) (ss : List Service) → ((i : ℕ) (s : Service) → get_elem? ss i ≡ some s → s.number ≡ n + i) → AreNumbered n ss
numbered_by n [] h = tt
numbered_by n (s ∷ ss) h = (let a = h 0 s refl in omega arith, numbered_by (n + 1) ss (λ i x e. let a = h (suc i) x e in omega arith))

numbers_count : (n : ℕ) (ss : List Service) → times n (map (λ s. s.number) ss) ≡ total (on_number n) ss
numbers_count n [] = refl
numbers_count n (s ∷ ss) = let r = numbers_count n ss in omega arith

sum_joined : (f : Service → ℕ) (lists : List (List Service)) → total f (joined lists) ≡ total (total f) lists
sum_joined f [] = refl
sum_joined f (j ∷ js) = let r = sum_joined f js in let a = total_append f j (joined js) in omega arith

one_same : (a b : ℕ) → a ≡ b → one_if (a == b) ≡ 1
one_same a b e = grind (arith, nat_tests)

-- what holds at each place holds of all
place_all : {A : Type 0} (P : A → Type 0) (xs : List A) → ((i : ℕ) (x : A) → get_elem? xs i ≡ some x → P x) → AllByRecursion P xs
place_all P [] h = tt
place_all P (x ∷ xs) h = (h 0 x refl, place_all P xs (λ i y e. h (suc i) y e))

pub all_map : {A B : Type 0} (P : B → Type 0) (f : A → B) (xs : List A) → AllByRecursion (λ x. P (f x)) xs → AllByRecursion P (map f xs)
all_map P f [] h = tt
all_map P f (x ∷ xs) h = (h.0, all_map P f xs h.1)

-- numbers that are each taken once below a count are below it
all_below : (count : ℕ) (ss : List Service) → ((n : ℕ) → IsOnceBelow count n (total (on_number n) ss)) → AllByRecursion (λ s. s.number < count) ss
all_below count ss once = place_all (λ s. s.number < count) ss (λ i s at. pick s (total_one (on_number s.number) ss i s at) (dec_lt s.number count))
  where
    pick : (s : Service) → on_number s.number s ≤ total (on_number s.number) ss → Dec (s.number < count) → s.number < count
    pick s le (yes lt) = lt
    pick s le (no ge) =
        let one = one_same s.number s.number refl in
        let none = (once s.number).none (omega arith) in
        absurd (omega arith)

module _ {N S : Type 0} {link : Ghosts N} where
  abbrev pub served_of : Worker N S link → List Service
  served_of w = w.served.items

  -- the numbers that were taken are those of the links that were served
  numbers_of_all : (n : ℕ) (ws : List (Worker N S link)) → AllByRecursion (λ w. numbers_taken w.take ≡ map (λ s. s.number) (served_of w)) ws
      → total (λ t. times n (numbers_taken t)) (map (λ (w : Worker N S link). w.take) ws) ≡ total (total (on_number n)) (map served_of ws)
  numbers_of_all n [] h = refl
  numbers_of_all n (w ∷ ws) h =
      let a : times n (numbers_taken w.take) ≡ total (on_number n) (served_of w) = ap (times n) h.0 ∙ numbers_count n (served_of w) in
      let r = numbers_of_all n ws h.1 in
      omega arith

  pub each_once : (count : ℕ) (ws : List (Worker N S link)) → AllByRecursion (λ w. numbers_taken w.take ≡ map (λ s. s.number) (served_of w)) ws
      → ((n : ℕ) → IsOnceBelow count n (total (λ t. times n (numbers_taken t)) (map (λ (w : Worker N S link). w.take) ws))) → EachNumberOnce count (joined (map served_of ws))
  each_once count ws same once =
      let of : (n : ℕ) → IsOnceBelow count n (total (on_number n) (joined (map served_of ws))) = λ n.
      subst (λ (k : ℕ). IsOnceBelow count n k) (numbers_of_all n ws same ∙ sym (sum_joined (on_number n) (map served_of ws))) (once n) in
      record { once = λ n lt. (of n).once lt; within = all_below count (joined (map served_of ws)) of }

  module _ (answers : CheckStep S) (h : Handover (Fresh N link)) where
    -- worker by worker
    abbrev pub AllWorked : List (Worker N S link) → List (Worker N S link) → Type 0
    AllWorked [] [] = Unit {0}
    AllWorked (v ∷ vs) (w ∷ ws) = HasWorked answers h v w × AllWorked vs ws
    AllWorked vs ws = ⊥

    pub worked_all : (old new : List (Worker N S link)) → length new ≡ length old
        → ((i : ℕ) (d : Worker N S link) → i < length old → HasWorked answers h (get_or old i d) (get_or new i d)) → AllWorked old new
    worked_all [] [] len each = tt
    worked_all [] (w ∷ ws) len each = absurd (omega arith)
    worked_all (v ∷ vs) [] len each = absurd (omega arith)
    worked_all (v ∷ vs) (w ∷ ws) len each = (each 0 v (omega arith), worked_all vs ws (omega arith) (λ i d lt. each (suc i) d (omega arith)))

    -- the same, where the list that was lent is theirs
    pub all_worked : (ws slice new : List (Worker N S link)) → slice ≡ ws → length new ≡ length slice
        → ((i : ℕ) (d : Worker N S link) → i < length slice → HasWorked answers h (get_or slice i d) (get_or new i d)) → AllWorked ws new
    all_worked ws slice new same len each = worked_all ws new (len ∙ ap length same)
        (λ i d lt. subst (λ (l : List (Worker N S link)). HasWorked answers h (get_or l i d) (get_or new i d)) same
        (each i d (subst (λ (l : List (Worker N S link)). i < length l) (sym same) lt)))

    -- each took its end mark
    pub ends_all : (old new : List (Worker N S link)) → AllWorked old new → total (λ t. total is_end (taken_by t)) (map (λ (w : Worker N S link). w.take) new) ≡ length old
    ends_all [] [] a = refl
    ends_all [] (w ∷ ws) a = absurd a
    ends_all (v ∷ vs) [] a = absurd a
    ends_all (v ∷ vs) (w ∷ ws) a = let r = ends_all vs ws a.1 in let e = a.0.ends in omega arith

    pub takes_all : (old new : List (Worker N S link)) → AllWorked old new → AllByRecursion (λ (w : Worker N S link). TakesFrom h w.take) new
    takes_all [] [] a = tt
    takes_all [] (w ∷ ws) a = absurd a
    takes_all (v ∷ vs) [] a = absurd a
    takes_all (v ∷ vs) (w ∷ ws) a = (a.0.take, takes_all vs ws a.1)

    -- what they took, where memory sufficed
    pub numbers_all : (old new : List (Worker N S link)) → AllWorked old new → AllByRecursion (λ (w : Worker N S link). w.is_whole ≡ true) new
        → AllByRecursion (λ w. numbers_taken w.take ≡ map (λ s. s.number) (served_of w)) new
    numbers_all [] [] a whole = tt
    numbers_all [] (w ∷ ws) a whole = absurd a
    numbers_all (v ∷ vs) [] a whole = absurd a
    numbers_all (v ∷ vs) (w ∷ ws) a whole = (a.0.taken whole.0, numbers_all vs ws a.1 whole.1)

    abbrev pub asked_all : (old new : List (Worker N S link)) → AllWorked old new → List (List Asked)
    asked_all [] [] a = []
    asked_all [] (w ∷ ws) a = absurd a
    asked_all (v ∷ vs) [] a = absurd a
    asked_all (v ∷ vs) (w ∷ ws) a = a.0.asked ∷ asked_all vs ws a.1

    lengths : (old new : List (Worker N S link)) → (a : AllWorked old new)
        → (length (map (λ (w : Worker N S link). w.checks) new) ≡ length (map (λ (w : Worker N S link). w.checks) old))
        × (length (map served_of new) ≡ length (map (λ (w : Worker N S link). w.checks) old))
        × (length (asked_all old new a) ≡ length (map (λ (w : Worker N S link). w.checks) old))
    lengths [] [] a = (refl, refl, refl)
    lengths [] (w ∷ ws) a = absurd a
    lengths (v ∷ vs) [] a = absurd a
    lengths (v ∷ vs) (w ∷ ws) a = let r = lengths vs ws a.1 in (ap suc r.0, ap suc r.1, ap suc r.2)

    each_one : (old new : List (Worker N S link)) (a : AllWorked old new) (k : ℕ) (p : S) (ss : List Service) (xs : List Asked) (q : S)
        → get_elem? (map (λ (w : Worker N S link). w.checks) old) k ≡ some p → get_elem? (map served_of new) k ≡ some ss → get_elem? (asked_all old new a) k ≡ some xs
        → get_elem? (map (λ (w : Worker N S link). w.checks) new) k ≡ some q → AreServed answers p ss xs q × Lead answers p xs q
    each_one [] [] a k p ss xs q e f g i = absurd (some-ne-none p (sym e))
    each_one [] (w ∷ ws) a k p ss xs q e f g i = absurd a
    each_one (v ∷ vs) [] a k p ss xs q e f g i = absurd a
    each_one (v ∷ vs) (w ∷ ws) a zero p ss xs q e f g i =
        let s : AreServed answers p ss xs q =
        subst (λ (x : S). AreServed answers x ss xs q) (some-injective v.checks p e)
        (subst (λ (x : List Service). AreServed answers v.checks x xs q) (some-injective (served_of w) ss f)
        (subst (λ (x : List Asked). AreServed answers v.checks (served_of w) x q) (some-injective a.0.asked xs g)
        (subst (λ (x : S). AreServed answers v.checks (served_of w) a.0.asked x) (some-injective w.checks q i) a.0.served))) in
        (s, served_leads answers p ss xs q s)
    each_one (v ∷ vs) (w ∷ ws) a (suc k) p ss xs q e f g i = each_one vs ws a.1 k p ss xs q e f g i

    -- all links were served by the workers
    pub served_by : (old new : List (Worker N S link)) (a : AllWorked old new) (count : ℕ) (services : List Service) → Merges count (map served_of new) services
        → AreServedBy answers (map (λ (w : Worker N S link). w.checks) old) (map (λ (w : Worker N S link). w.checks) new) services (asked_all old new a)
    served_by old new a count services m = record {
      lists = map served_of new;
      as_many = lengths old new a;
      each = λ k p ss xs q e f g i. each_one old new a k p ss xs q e f g i;
      sums = m.sums;
    }
