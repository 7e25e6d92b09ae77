-- The counters that the records of lines name, line after line and record by record.
use Rattle.std.proofs.Common.{◌≡◌, ℕ, zero, suc, ◌+◌, ◌-◌, ◌*◌, ◌≤◌, List, [], ◌∷◌, length, take, Bool, true, false, cond, Some, None, Option, refl, sym, ap, ◌∙◌}
use Rattle.std.proofs.Common.{arith, length-append}
use Rattle.std.specs.Prelude.{slice_get}
use Rattle.std.specs.List.{AllByRecursion}
use Rattle.rate_types.specs.Counters.{same_counter}
use Rattle.rate_types.specs.Sums.{total, one_if}
use Rattle.rate_types.proofs.Sums.{total_append}
use Rattle.rate_types.specs.declared.counter_key.CounterKey.{CounterKey}
use Rattle.rate_types.specs.declared.limits.TheConstants.{MOST_DESCRIPTORS}
use Rattle.descriptor_tree.specs.Trees.{DomainTree}
use Rattle.rate_limiter.proofs.RequestCounters.{named_few}
use Rattle.rate_limiter.proofs.CounterLists.{count}
use Rattle.rate_limiter.proofs.Places.{take_at}
use Rattle.reply_text.specs.declared.record.Record.{Record}
use Rattle.reply_text.specs.declared.record.Outcome.{Outcome}
use Rattle.reply_text.specs.declared.record.Outcome.TheVariants as outcome
use Rattle.script_run.specs.ScriptLine.{ScriptLine, check, reload, tick, bad}
use Rattle.script_run.specs.Named.{counters_tried, counters_bound, all_tried, bound_by}
use Rattle.worker_run.proofs.Ledger.{IsFrom, from_next}

-- a counter that was given a cell is one that the check names
pub bound_tried : (config : List DomainTree) (l : ScriptLine) (m : ℕ) (o : Outcome) (c : CounterKey) → count c (counters_bound config l m o) ≤ count c (counters_tried config l m)
bound_tried config l m (outcome.Checked answer) c = omega arith
bound_tried config l m (outcome.Ticked now) c = omega arith
bound_tried config l m outcome.Installed c = omega arith
bound_tried config l m (outcome.Bad refused) c = omega arith
bound_tried config l m (outcome.Full live held wanted) c = omega arith
bound_tried config l m (outcome.Spent claims wanted) c = omega arith
bound_tried config l m (outcome.VersionsFull versions) c = omega arith

-- a line's request has no more descriptors than a request may have
abbrev pub HasFew : ScriptLine → Type 0
HasFew (check request) = length request.descriptors ≤ MOST_DESCRIPTORS
HasFew line = Unit {0}

tried_few : (config : List DomainTree) (l : ScriptLine) (m : ℕ) → HasFew l → length (counters_tried config l m) ≤ 32
tried_few config (check request) m h = let n = named_few config request m in omega arith
tried_few config (reload other) m h = omega arith
tried_few config (tick now) m h = omega arith
tried_few config (bad refused) m h = omega arith

-- so the checks of a script name at most so many together
pub all_few : (configs : ℕ → List DomainTree) (ls : List ScriptLine) (rs : List Record) → AllByRecursion HasFew ls → length (all_tried configs ls rs) ≤ 32 * length ls
all_few configs [] rs h = omega arith
all_few configs (l ∷ ls) [] h = omega arith
all_few configs (l ∷ ls) (r ∷ rs) h =
    let a = length-append (counters_tried (configs r.version) l r.moment) (all_tried configs ls rs) in
    let f = tried_few (configs r.version) l r.moment h.0 in
    let n = all_few configs ls rs h.1 in
    omega arith

-- the first lines and their records
pub from_front : (all : List ScriptLine) (n i : ℕ) (ls : List ScriptLine) (rs : List Record) → IsFrom all n ls rs → IsFrom all n (take i ls) (take i rs)
from_front all n i ls rs h = record {
  lines = λ j l e. h.lines j l (front_get ls i j l e);
  records = λ j r e. h.records j r (take_at rs i j r e).0;
  as_many = same i ls rs h.as_many;
}
  where
    front_get : (xs : List ScriptLine) (k j : ℕ) (x : ScriptLine) → slice_get (take k xs) j ≡ Some x → slice_get xs j ≡ Some x
    front_get [] zero j x e = e
    front_get [] (suc k) j x e = e
    front_get (y ∷ ys) zero j x e = absurd (none x e)
      where
        none : (z : ScriptLine) → ◌≡◌ {A = Option ScriptLine} None (Some z) → ⊥
        none z g = cc
    front_get (y ∷ ys) (suc k) zero x e = e
    front_get (y ∷ ys) (suc k) (suc j) x e = front_get ys k j x e

    same : (k : ℕ) (xs : List ScriptLine) (ys : List Record) → length ys ≡ length xs → length (take k ys) ≡ length (take k xs)
    same zero xs ys e = refl
    same (suc k) [] [] e = refl
    same (suc k) [] (y ∷ ys) e = absurd (omega arith)
    same (suc k) (x ∷ xs) [] e = absurd (omega arith)
    same (suc k) (x ∷ xs) (y ∷ ys) e = ap suc (same k xs ys (omega arith))

module _ (configs : ℕ → List DomainTree) where
  -- the counters to which a record's line gave cells, where it is this one
  abbrev pub found_bound : Option ScriptLine → Record → List CounterKey
  found_bound None r = []
  found_bound (Some l) r = counters_bound (configs r.version) l r.moment r.outcome

  -- those that it names
  abbrev pub found_tried : Option ScriptLine → Record → List CounterKey
  found_tried None r = []
  found_tried (Some l) r = counters_tried (configs r.version) l r.moment

  module _ (all : List ScriptLine) where
    -- of the line with the record's number
    abbrev pub bound_in : Record → List CounterKey
    bound_in r = found_bound (slice_get all (r.line - 1)) r

    abbrev pub tried_in : Record → List CounterKey
    tried_in r = found_tried (slice_get all (r.line - 1)) r

    pub bound_among : (r : Record) (c : CounterKey) → count c (bound_in r) ≤ count c (tried_in r)
    bound_among r c = by (slice_get all (r.line - 1))
      where
        by : (o : Option ScriptLine) → count c (found_bound o r) ≤ count c (found_tried o r)
        by None = omega arith
        by (Some l) = bound_tried (configs r.version) l r.moment r.outcome c

    first_line : (n : ℕ) (l : ScriptLine) (ls : List ScriptLine) (r : Record) (rs : List Record) → IsFrom all n (l ∷ ls) (r ∷ rs) → Some l ≡ slice_get all (r.line - 1)
    first_line n l ls r rs h =
        let a = h.records 0 r refl in
        let at : n + 0 ≡ r.line - 1 = omega arith in
        sym (h.lines 0 l refl) ∙ ap (slice_get all) at

    pub bound_total : (by : ℕ → Bool) (c : CounterKey) (n : ℕ) (ls : List ScriptLine) (rs : List Record) → IsFrom all n ls rs
        → count c (bound_by by configs ls rs) ≡ total (λ (r : Record). cond (by r.worker) (count c (bound_in r)) 0) rs
    bound_total by c n [] [] h = refl
    bound_total by c n [] (r ∷ rs) h = let a = h.as_many in absurd (omega arith)
    bound_total by c n (l ∷ ls) [] h = let a = h.as_many in absurd (omega arith)
    bound_total by c n (l ∷ ls) (r ∷ rs) h =
        let t = bound_total by c (suc n) ls rs (from_next all n l ls r rs h) in
        let own = counters_bound (configs r.version) l r.moment r.outcome in
        let e : count c own ≡ count c (bound_in r) = ap (λ (o : Option ScriptLine). count c (found_bound o r)) (first_line n l ls r rs h) in
        let a = total_append (λ (k : CounterKey). one_if (same_counter k c)) (cond (by r.worker) own []) (bound_by by configs ls rs) in
        let f = chosen (by r.worker) own (bound_in r) e in
        omega arith
      where
        chosen : (b : Bool) (xs ys : List CounterKey) → count c xs ≡ count c ys → count c (cond b xs []) ≡ cond b (count c ys) 0
        chosen true xs ys e = e
        chosen false xs ys e = refl

    pub tried_total : (c : CounterKey) (n : ℕ) (ls : List ScriptLine) (rs : List Record) → IsFrom all n ls rs
        → count c (all_tried configs ls rs) ≡ total (λ (r : Record). count c (tried_in r)) rs
    tried_total c n [] [] h = refl
    tried_total c n [] (r ∷ rs) h = let a = h.as_many in absurd (omega arith)
    tried_total c n (l ∷ ls) [] h = let a = h.as_many in absurd (omega arith)
    tried_total c n (l ∷ ls) (r ∷ rs) h =
        let t = tried_total c (suc n) ls rs (from_next all n l ls r rs h) in
        let own = counters_tried (configs r.version) l r.moment in
        let e : count c own ≡ count c (tried_in r) = ap (λ (o : Option ScriptLine). count c (found_tried o r)) (first_line n l ls r rs h) in
        let a = total_append (λ (k : CounterKey). one_if (same_counter k c)) own (all_tried configs ls rs) in
        omega arith
