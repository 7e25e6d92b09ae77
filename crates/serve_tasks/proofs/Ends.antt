-- All links were served.
use Rattle.std.proofs.Common.{◌≡◌, ℕ, zero, suc, ◌+◌, ◌<◌, Bool, true, false, true≢false, append_assoc, List, [], ◌∷◌, ◌++◌, Option, Some, None, IsSome, get_or, length, map, refl, sym, ap, ◌∙◌, subst, arith}
use Rattle.std.proofs.lemmas.List.{length-map}
use Rattle.std.specs.List.{AllByRecursion}
use Rattle.http_endpoint.specs.Answers.{CheckStep, Asked}
use Rattle.http_serve.specs.Service.{Service}
use Rattle.std.specs.Prelude.{Ok}
use Rattle.rate_io.specs.Causes.{Rose}
use Rattle.rate_io.specs.Listeners.{ListenEvent}
use Rattle.http_serve.specs.Links.{AreNumbered, accepts, given_back, HasHandled}
use Rattle.serve_tasks.specs.Rounds.{EndsRounds}
use Rattle.conn_tasks.specs.State.{TaskState}
use Rattle.serve_tasks.specs.Service.{made_for, IsTaskServed, AreTasksServed}
use Rattle.serve_tasks.specs.Running.{StandsAt, AllStand, Standing, Runs, live_count}
use Rattle.serve_tasks.proofs.Standings.{none_stand, none_live}

-- where none goes on, each was served
ended_at : (k : ℕ) (asked : List Asked) (t : Option TaskState) (s : Option Service) → t ≡ None → StandsAt k asked t s → IsSome s
ended_at k asked (Some t) s is x = absurd (cc)
ended_at k asked None None is x = absurd x
ended_at k asked None (Some s) is x = refl

all_some : (n : ℕ) (served : List (Option Service)) → ((k : ℕ) → k < length served → IsSome (get_or served k None)) → AllByRecursion (λ (s : Option Service). IsSome s) served
all_some n [] each = tt
all_some n (s ∷ served) each = (each 0 (omega arith), all_some n served (λ k less. each (suc k) (omega (arith, less))))

pub each_served : (made : List (ℕ × Asked)) (tasks : List (Option TaskState)) (served : List (Option Service)) → AllStand made tasks served → live_count tasks ≡ 0
    → AllByRecursion (λ (s : Option Service). IsSome s) served
each_served made tasks served all zeroes = all_some 0 served
    (λ k less. ended_at k (made_for k made) (get_or tasks k None) (get_or served k None) (none_live tasks k zeroes) (all.each k (omega (arith, less, all.as_many))))

served_at : (k : ℕ) (asked : List Asked) (t : Option TaskState) (s : Service) → t ≡ None → StandsAt k asked t (Some s) → (s.number ≡ k) × IsTaskServed s asked
served_at k asked (Some t) s is x = absurd (cc)
served_at k asked None s is x = x

abbrev Are : List (ℕ × Asked) → ℕ → List Service → Type 0
Are made n ss = AreNumbered n ss × AllByRecursion (λ (s : Service). IsTaskServed s (made_for s.number made)) ss

are : (made : List (ℕ × Asked)) (n : ℕ) (ss : List Service)
    → ((k : ℕ) (s : Service) → get_or (map Some ss) k None ≡ Some s → (s.number ≡ n + k) × IsTaskServed s (made_for (n + k) made)) → Are made n ss
are made n [] each = (tt, tt)
are made n (s ∷ ss) each =
    let here = each 0 s refl in
    let zeroes : n + 0 ≡ n = omega arith in
    let rest = are made (n + 1) ss (λ k x is.
    let e : n + suc k ≡ n + 1 + k = omega arith in
    subst (λ (j : ℕ). (x.number ≡ j) × IsTaskServed x (made_for j made)) e (each (suc k) x is)) in (
      (here.0 ∙ zeroes, rest.0),
      (subst (λ (j : ℕ). IsTaskServed s (made_for j made)) (sym here.0) here.1, rest.1),
    )

within : (ss : List Service) (k : ℕ) (s : Service) → get_or (map Some ss) k None ≡ Some s → k < length ss
within [] k s is = absurd (cc)
within (x ∷ ss) zero s is = omega arith
within (x ∷ ss) (suc k) s is = let r = within ss k s is in omega (arith, r)

-- the links in the order of their numbers, each with its checks
pub all_are : (made : List (ℕ × Asked)) (tasks : List (Option TaskState)) (served : List (Option Service)) (ss : List Service) → AllStand made tasks served
    → live_count tasks ≡ 0 → map Some ss ≡ served → AreNumbered 0 ss × AllByRecursion (λ (s : Service). IsTaskServed s (made_for s.number made)) ss
all_are made tasks served ss all zeroes is = are made 0 ss (λ k s here.
    let same : 0 + k ≡ k = omega arith in
    let few = ap length is ∙ all.as_many in
    let less = within ss k s here in
    let at = subst (λ (o : Option Service). StandsAt k (made_for k made) (get_or tasks k None) o) (ap (λ (os : List (Option Service)). get_or os k None) (sym is) ∙ here)
    (all.each k (omega (arith, less, few, length-map ss Some))) in
    subst (λ (j : ℕ). (s.number ≡ j) × IsTaskServed s (made_for j made)) (sym same) (served_at k (made_for k made) (get_or tasks k None) s (none_live tasks k zeroes) at))

-- what one checker served
pub tasks_served : {S : Type 0} (answers : CheckStep S) (p q : S) (tasks : List (Option TaskState)) (served : List (Option Service)) (ss : List Service)
    → Runs answers p q (record { tasks = []; served = [] }) (record { tasks = tasks; served = served }) → live_count tasks ≡ 0 → map Some ss ≡ served
    → AreNumbered 0 ss × AreTasksServed answers p ss q
tasks_served answers p q tasks served ss r zeroes is =
    let all = r.2 [] none_stand in
    let x = all_are r.0 tasks served ss all zeroes is in
    let many : length tasks ≡ length ss = sym all.as_many ∙ (sym (ap length is) ∙ length-map ss Some) in (
      x.0,
      record { made = r.0; lead = r.1; each = x.1; only = subst (λ (n : ℕ). AllByRecursion (λ (y : ℕ × Asked). y.0 < n) r.0) many all.only },
    )

-- from no link on
pub from_none : {S : Type 0} (answers : CheckStep S) (p q : S) (old new : Standing) → Runs answers p q old new → old.tasks ≡ [] → old.served ≡ []
    → Runs answers p q (record { tasks = []; served = [] }) new
from_none answers p q old new r no_tasks no_served = (
  r.0,
  r.1,
  λ made all. r.2 made (subst (λ (ts : List (Option TaskState)). AllStand made ts old.served) (sym no_tasks)
      (subst (λ (ss : List (Option Service)). AllStand made [] ss) (sym no_served) all)),
)

-- how the rounds ended
pub rounds_done : (connections count live : ℕ) (old new : List ListenEvent) (faults : ℕ × ℕ) (b : Bool) → EndsRounds connections count live old new faults (Ok b)
    → (live ≡ 0) × (new ≡ old ++ accepts count b)
rounds_done connections count live old new faults true x = (x.1, x.2)
rounds_done connections count live old new faults false x = (x.1, x.2)

pub rounds_all : (connections count live : ℕ) (old new : List ListenEvent) (faults : ℕ × ℕ) (b : Bool) → EndsRounds connections count live old new faults (Ok b)
    → b ≡ true → count ≡ connections
rounds_all connections count live old new faults true x e = x.0
rounds_all connections count live old new faults false x e = absurd (true≢false (sym e))

pub rounds_failed : (connections count live : ℕ) (old new : List ListenEvent) (faults : ℕ × ℕ) (b : Bool) → EndsRounds connections count live old new faults (Ok b)
    → b ≡ false → (count < connections) × Rose faults.0 faults.1
rounds_failed connections count live old new faults true x e = absurd (true≢false e)
rounds_failed connections count live old new faults false x e = (x.0, x.3)

-- accepted, and then given back
pub handled_all : (old mid new : List ListenEvent) (n : ℕ) (b : Bool) (ss : List Service) → mid ≡ old ++ accepts n b → new ≡ mid ++ given_back ss → n ≡ length ss
    → HasHandled old new ss b
handled_all old mid new n b ss x y many =
    y ∙ (ap (λ (h : List ListenEvent). h ++ given_back ss) x ∙ (append_assoc old (accepts n b) (given_back ss)
    ∙ ap (λ (k : ℕ). old ++ (accepts k b ++ given_back ss)) many))
