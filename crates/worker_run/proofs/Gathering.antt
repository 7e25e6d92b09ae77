-- What workers that are done left together.
use Rattle.std.proofs.Common.{◌≡◌, ℕ, zero, suc, ◌+◌, ◌-◌, ◌≤◌, ◌<◌, ◌==◌, List, [], ◌∷◌, ◌++◌, length, map, true, Bool, Some, None, Option, refl, sym, ap, ◌∙◌, subst, arith}
use Rattle.std.proofs.Common.{zero-add, eq-eqb, ne_eqb}
use Rattle.std.specs.Prelude.{All, IfOk, slice_get, slice_index_or, Result, Ok}
use Rattle.rate_types.specs.declared.memory.OutOfMemory.{OutOfMemory}
use Rattle.std.specs.List.{AllByRecursion}
use mathlib.Core.Option.{some, some-injective, some-ne-none}
use native.Mathlib.Decide.{ℕ_discrete}
use lib.ListN.{get_elem?}
use Rattle.rate_types.specs.Sums.{total, one_if, times}
use Rattle.rate_types.proofs.Sums.{total_append}
use Rattle.counter_directory.specs.Acquired.{Bounds}
use Rattle.line_numbers.specs.Batches.{BatchesId, given, batches_of, is_done}
use Rattle.line_numbers.specs.Rising.{IsRising, IsDrawnOnce}
use Rattle.line_numbers.specs.declared.batch_drawer.BatchDrawer.{BatchDrawer}
use Rattle.rate_limiter.specs.Passes.{LimiterId, LimiterView, PassView}
use Rattle.reply_text.specs.declared.record.Record.{Record}
use Rattle.script_run.specs.ScriptLine.{ScriptLine}
use Rattle.script_run.specs.Merged.{joined, on_line, EachLineOnce, Merges}
use Rattle.run_stats.specs.RunStats.{HaveCounted}
use Rattle.worker_run.specs.Journal.{Journal}
use Rattle.worker_run.specs.Parts.{IsReady, AreWorkers, IsDone, AreDone}
use Rattle.worker_run.specs.Work.{HaveRun}
use Rattle.worker_run.specs.declared.working.Worker.{Worker}
use Rattle.worker_run.specs.declared.working.Worked.{Worked}

pub all_index : {A : Type 0} (P : A → Type 0) (xs : List A) → AllByRecursion P xs → All P xs
all_index P [] h k d lt = absurd (omega arith)
all_index P (x ∷ xs) h zero d lt = h.0
all_index P (x ∷ xs) h (suc k) d lt = all_index P xs h.1 k d (omega arith)

pub index_all : {A : Type 0} (P : A → Type 0) (xs : List A) → All P xs → AllByRecursion P xs
index_all P [] h = tt
index_all P (x ∷ xs) h = (h 0 x (omega arith), index_all P xs (λ k d lt. h (suc k) d (omega arith)))

all_append : {A : Type 0} (P : A → Type 0) (xs ys : List A) → AllByRecursion P xs → AllByRecursion P ys → AllByRecursion P (xs ++ ys)
all_append P [] ys h k = k
all_append P (x ∷ xs) ys h k = (h.0, all_append P xs ys h.1 k)

-- the line of a record step is one of the lines
there : (lines : List ScriptLine) (k : ℕ) (l : ScriptLine) → slice_get lines k ≡ Some l → k < length lines
there [] k l e = absurd (none_some l e)
  where
    none_some : (x : ScriptLine) → ◌≡◌ {A = Option ScriptLine} None (Some x) → ⊥
    none_some x h = cc
there (x ∷ xs) zero l e = omega arith
there (x ∷ xs) (suc k) l e = let r = there xs k l e in omega arith

-- each record of a journal is that of a line
pub within : (b : Bounds) (limiter : LimiterView) (start worker : ℕ) (lines : List ScriptLine) (p : PassView) (rs : List Record) (q : PassView)
    → Journal b limiter start worker lines p rs q → AllByRecursion (λ r. (1 ≤ r.line) × (r.line ≤ length lines)) rs
within b limiter start worker lines p [] q h = tt
within b limiter start worker lines p (r ∷ rs) q h =
    let s = h.1 in
    let low = s.numbered in
    let t = there lines (r.line - 1) s.line s.there in
    ((low, omega arith), within b limiter start worker lines h.0 rs q h.2)

one_off : (a n : ℕ) → 1 ≤ a → one_if (a - 1 == n) ≡ one_if (a == n + 1)
one_off a n h = pick (ℕ_discrete a (n + 1))
  where
    pick : Dec (a ≡ n + 1) → one_if (a - 1 == n) ≡ one_if (a == n + 1)
    pick (yes e) = ap one_if (eq-eqb (a - 1) n (omega arith)) ∙ sym (ap one_if (eq-eqb a (n + 1) e))
    pick (no ne) = ap one_if (ne_eqb (a - 1) n (λ e. ne (omega arith))) ∙ sym (ap one_if (ne_eqb a (n + 1) ne))

shifted : (n : ℕ) (rs : List Record) (m : ℕ) → AllByRecursion (λ r. (1 ≤ r.line) × (r.line ≤ m)) rs → times n (map (λ (x : Record). x.line - 1) rs) ≡ total (on_line (n + 1)) rs
shifted n [] m h = refl
shifted n (r ∷ rs) m h = let a = one_off r.line n h.0.0 in let b = shifted n rs m h.1 in omega arith

mapped : {A B : Type 0} (f : A → B) (xs : List A) → length (map f xs) ≡ length xs
mapped f [] = refl
mapped f (x ∷ xs) = ap suc (mapped f xs)

module _ {N : Type 0} where
  -- one worker more
  pub workers_more : (limiter : LimiterId) (numbers : BatchesId) (n : ℕ) (ws : List (Worker N)) (w : Worker N) → AreWorkers limiter numbers n ws → w.number ≡ n + length ws
      → IsReady limiter numbers w → AreWorkers limiter numbers n (ws ++ w ∷ [])
  workers_more limiter numbers n [] w h e r = (omega arith, r, tt)
  workers_more limiter numbers n (x ∷ xs) w h e r = (h.0, h.1, workers_more limiter numbers (suc n) xs w h.2 (omega arith) r)

  pub all_ready : (limiter : LimiterId) (numbers : BatchesId) (n : ℕ) (ws : List (Worker N)) → AreWorkers limiter numbers n ws
      → AllByRecursion (λ w. IsReady limiter numbers w) ws
  all_ready limiter numbers n [] h = tt
  all_ready limiter numbers n (w ∷ ws) h = (h.1, all_ready limiter numbers (suc n) ws h.2)

module _ {N : Type 0} (stats : Bool) where
  -- workers that are done, where what each gave is there
  pub all_done : (b : Bounds) (limiter : LimiterView) (start : ℕ) (lines : List ScriptLine) (numbers : BatchesId) (ws : List (Worker N)) (vs : List (Worked N))
      (rs : List (Result (Worked N) OutOfMemory)) → map Ok vs ≡ rs → length vs ≡ length ws
      → ((i : ℕ) (d : Result (Worked N) OutOfMemory) (e : Worker N) → i < length ws
      → IfOk (slice_index_or rs i d) (λ v. IsDone stats b limiter start lines numbers (slice_index_or ws i e) v))
      → AreDone stats b limiter start lines numbers ws vs
  all_done b limiter start lines numbers ws vs rs same many each =
      done_each ws vs many (subst (λ l. (i : ℕ) (d : Result (Worked N) OutOfMemory) (e : Worker N) → i < length ws
      → IfOk (slice_index_or l i d) (λ v. IsDone stats b limiter start lines numbers (slice_index_or ws i e) v)) (sym same) each)
    where
      done_each : (us : List (Worker N)) (xs : List (Worked N)) → length xs ≡ length us
          → ((i : ℕ) (d : Result (Worked N) OutOfMemory) (e : Worker N) → i < length us
          → IfOk (slice_index_or (map Ok xs) i d) (λ v. IsDone stats b limiter start lines numbers (slice_index_or us i e) v))
          → AreDone stats b limiter start lines numbers us xs
      done_each [] [] e h = tt
      done_each [] (x ∷ xs) e h = absurd (omega (arith, e))
      done_each (u ∷ us) [] e h = absurd (omega (arith, e))
      done_each (u ∷ us) (x ∷ xs) e h = (h 0 (Ok x) u (omega arith), done_each us xs (omega (arith, e)) (λ i d f lt. h (suc i) d f (omega (arith, lt))))

  pub as_many : (b : Bounds) (limiter : LimiterView) (start : ℕ) (lines : List ScriptLine) (numbers : BatchesId) (ws : List (Worker N)) (vs : List (Worked N))
      → AreDone stats b limiter start lines numbers ws vs → length vs ≡ length ws
  as_many b limiter start lines numbers [] [] h = refl
  as_many b limiter start lines numbers [] (v ∷ vs) h = absurd h
  as_many b limiter start lines numbers (w ∷ ws) [] h = absurd h
  as_many b limiter start lines numbers (w ∷ ws) (v ∷ vs) h = ap suc (as_many b limiter start lines numbers ws vs h.1)

  pub drawers_here : (b : Bounds) (limiter : LimiterView) (start : ℕ) (lines : List ScriptLine) (numbers : BatchesId) (ws : List (Worker N)) (vs : List (Worked N))
      → AreDone stats b limiter start lines numbers ws vs → AllByRecursion (λ d. (batches_of d ≡ numbers) × (is_done d ≡ true)) (map (λ v. v.drawer) vs)
  drawers_here b limiter start lines numbers [] [] h = tt
  drawers_here b limiter start lines numbers [] (v ∷ vs) h = absurd h
  drawers_here b limiter start lines numbers (w ∷ ws) [] h = absurd h
  drawers_here b limiter start lines numbers (w ∷ ws) (v ∷ vs) h = ((h.0.0, h.0.1.told), drawers_here b limiter start lines numbers ws vs h.1)

  pub passes_here : (b : Bounds) (limiter : LimiterView) (start : ℕ) (lines : List ScriptLine) (numbers : BatchesId) (ws : List (Worker N)) (vs : List (Worked N))
      → AreDone stats b limiter start lines numbers ws vs → AllByRecursion (λ (p : PassView). p.limiter ≡ limiter.id) (map (λ v. v.pass) vs)
  passes_here b limiter start lines numbers [] [] h = tt
  passes_here b limiter start lines numbers [] (v ∷ vs) h = absurd h
  passes_here b limiter start lines numbers (w ∷ ws) [] h = absurd h
  passes_here b limiter start lines numbers (w ∷ ws) (v ∷ vs) h = (h.0.1.same, passes_here b limiter start lines numbers ws vs h.1)

  -- what each worker drew are the lines of its journal
  pub drawn_lines : (b : Bounds) (limiter : LimiterView) (start : ℕ) (lines : List ScriptLine) (numbers : BatchesId) (ws : List (Worker N)) (vs : List (Worked N)) (n : ℕ)
      → AreDone stats b limiter start lines numbers ws vs
      → total (λ (d : BatchDrawer). times n (given d)) (map (λ v. v.drawer) vs) ≡ total (on_line (n + 1)) (joined (map (λ v. v.journal) vs))
  drawn_lines b limiter start lines numbers [] [] n h = refl
  drawn_lines b limiter start lines numbers [] (v ∷ vs) n h = absurd h
  drawn_lines b limiter start lines numbers (w ∷ ws) [] n h = absurd h
  drawn_lines b limiter start lines numbers (w ∷ ws) (v ∷ vs) n h =
      let r = drawn_lines b limiter start lines numbers ws vs n h.1 in
      let a = total_append (on_line (n + 1)) v.journal (joined (map (λ v. v.journal) vs)) in
      let s = shifted n v.journal (length lines) (within b limiter start w.number lines w.pass v.journal v.pass h.0.1.journal) in
      let t : times n (given v.drawer) ≡ times n (map (λ (x : Record). x.line - 1) v.journal) = ap (times n) h.0.1.drawn in
      omega arith

  pub all_within : (b : Bounds) (limiter : LimiterView) (start : ℕ) (lines : List ScriptLine) (numbers : BatchesId) (ws : List (Worker N)) (vs : List (Worked N))
      → AreDone stats b limiter start lines numbers ws vs → AllByRecursion (λ r. (1 ≤ r.line) × (r.line ≤ length lines)) (joined (map (λ v. v.journal) vs))
  all_within b limiter start lines numbers [] [] h = tt
  all_within b limiter start lines numbers [] (v ∷ vs) h = absurd h
  all_within b limiter start lines numbers (w ∷ ws) [] h = absurd h
  all_within b limiter start lines numbers (w ∷ ws) (v ∷ vs) h =
      all_append (λ (r : Record). (1 ≤ r.line) × (r.line ≤ length lines)) v.journal (joined (map (λ v. v.journal) vs))
      (within b limiter start w.number lines w.pass v.journal v.pass h.0.1.journal) (all_within b limiter start lines numbers ws vs h.1)

  -- each worker's journal
  pub journal_at : (b : Bounds) (limiter : LimiterView) (start : ℕ) (lines : List ScriptLine) (id : LimiterId) (numbers : BatchesId) (n : ℕ) (ws : List (Worker N))
      (vs : List (Worked N)) → AreWorkers id numbers n ws → AreDone stats b limiter start lines numbers ws vs → (i : ℕ) (p : PassView) (rs : List Record) (q : PassView)
      → get_elem? (map (λ w. w.pass) ws) i ≡ some p → get_elem? (map (λ v. v.journal) vs) i ≡ some rs → get_elem? (map (λ v. v.pass) vs) i ≡ some q
      → Journal b limiter start (n + i) lines p rs q
  journal_at b limiter start lines id numbers n [] vs a h i p rs q e f k = absurd (some-ne-none p (sym e))
  journal_at b limiter start lines id numbers n (w ∷ ws) [] a h i p rs q e f k = absurd h
  journal_at b limiter start lines id numbers n (w ∷ ws) (v ∷ vs) a h zero p rs q e f k =
      let number : w.number ≡ n + 0 = omega (arith, a.0) in
      subst (λ (x : PassView). Journal b limiter start (n + 0) lines p rs x) (some-injective _ _ k)
      (subst (λ (x : List Record). Journal b limiter start (n + 0) lines p x v.pass) (some-injective _ _ f)
      (subst (λ (x : PassView). Journal b limiter start (n + 0) lines x v.journal v.pass) (some-injective _ _ e)
      (subst (λ (x : ℕ). Journal b limiter start x lines w.pass v.journal v.pass) number h.0.1.journal)))
  journal_at b limiter start lines id numbers n (w ∷ ws) (v ∷ vs) a h (suc i) p rs q e f k =
      let number : suc n + i ≡ n + suc i = omega arith in
      subst (λ (x : ℕ). Journal b limiter start x lines p rs q) number
      (journal_at b limiter start lines id numbers (suc n) ws vs a.2 h.1 i p rs q e f k)

  -- each line was run once
  pub lines_once : (b : Bounds) (limiter : LimiterView) (start : ℕ) (lines : List ScriptLine) (numbers : BatchesId) (ws : List (Worker N)) (vs : List (Worked N)) (count : ℕ)
      → AreDone stats b limiter start lines numbers ws vs → count ≡ length lines → ((n : ℕ) → IsDrawnOnce count n (total (λ (d : BatchDrawer). times n (given d)) (map (λ v. v.drawer) vs)))
      → EachLineOnce (length lines) (joined (map (λ v. v.journal) vs))
  lines_once b limiter start lines numbers ws vs count h is once = record {
    once = λ n low high.
        let o = (once (n - 1)).drawn (omega arith) in
        let t = drawn_lines b limiter start lines numbers ws vs (n - 1) h in
        let same : n - 1 + 1 ≡ n = omega arith in
        subst (λ (m : ℕ). total (on_line m) (joined (map (λ v. v.journal) vs)) ≡ 1) same (sym t ∙ o);
    within = all_within b limiter start lines numbers ws vs h;
  }

  in_order : (b : Bounds) (limiter : LimiterView) (start : ℕ) (lines : List ScriptLine) (numbers : BatchesId) (ws : List (Worker N)) (vs : List (Worked N))
      → AreDone stats b limiter start lines numbers ws vs → (i : ℕ) (rs : List Record) → get_elem? (map (λ v. v.journal) vs) i ≡ some rs → IsRising (map (λ (r : Record). r.line - 1) rs)
  in_order b limiter start lines numbers [] [] h i rs e = absurd (some-ne-none rs (sym e))
  in_order b limiter start lines numbers [] (v ∷ vs) h i rs e = absurd h
  in_order b limiter start lines numbers (w ∷ ws) [] h i rs e = absurd h
  in_order b limiter start lines numbers (w ∷ ws) (v ∷ vs) h zero rs e =
      subst (λ (x : List Record). IsRising (map (λ (r : Record). r.line - 1) x)) (some-injective _ _ e) (subst IsRising h.0.1.drawn v.drawer.rises)
  in_order b limiter start lines numbers (w ∷ ws) (v ∷ vs) h (suc i) rs e = in_order b limiter start lines numbers ws vs h.1 i rs e

  pub have_run : (b : Bounds) (limiter : LimiterView) (start : ℕ) (lines : List ScriptLine) (numbers : BatchesId) (ws : List (Worker N)) (vs : List (Worked N))
      (records : List Record) → AreWorkers limiter.id numbers 0 ws → AreDone stats b limiter start lines numbers ws vs → Merges (length lines) (map (λ v. v.journal) vs) records
      → HaveRun b limiter start lines (map (λ w. w.pass) ws) (map (λ v. v.pass) vs) records
  have_run b limiter start lines numbers ws vs records a h m = record {
    journals = map (λ v. v.journal) vs;
    as_many = (
      mapped (λ (v : Worked N). v.pass) vs ∙ as_many b limiter start lines numbers ws vs h ∙ sym (mapped (λ (w : Worker N). w.pass) ws),
      mapped (λ (v : Worked N). v.journal) vs ∙ as_many b limiter start lines numbers ws vs h ∙ sym (mapped (λ (w : Worker N). w.pass) ws),
    );
    each = λ i p rs q e f k. subst (λ (n : ℕ). Journal b limiter start n lines p rs q) (zero-add i)
        (journal_at b limiter start lines limiter.id numbers 0 ws vs a h i p rs q e f k);
    in_order = in_order b limiter start lines numbers ws vs h;
    merges = m;
  }

  -- each worker's tally is that of its journal
  pub have_counted : (b : Bounds) (limiter : LimiterView) (start : ℕ) (lines : List ScriptLine) (numbers : BatchesId) (ws : List (Worker N)) (vs : List (Worked N))
      → AreDone stats b limiter start lines numbers ws vs → HaveCounted stats lines (map (λ v. v.journal) vs) (map (λ v. v.tally) vs)
  have_counted b limiter start lines numbers [] [] h = tt
  have_counted b limiter start lines numbers [] (v ∷ vs) h = absurd h
  have_counted b limiter start lines numbers (w ∷ ws) [] h = absurd h
  have_counted b limiter start lines numbers (w ∷ ws) (v ∷ vs) h = (h.0.2, have_counted b limiter start lines numbers ws vs h.1)
