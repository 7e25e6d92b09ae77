-- The charges that the records of workers show are those of their passes.
use Rattle.std.proofs.Common.{◌≡◌, ℕ, zero, suc, ◌+◌, ◌-◌, ◌≤◌, ◌==◌, ◌&&◌, List, [], ◌∷◌, ◌++◌, length, map, cond, Some, None, Option, refl, sym, ap, ◌∙◌, subst}
use Rattle.std.proofs.Common.{arith, append_assoc}
use Rattle.std.proofs.lemmas.List.{map-append}
use Rattle.std.proofs.lemmas.List.Sums.{sum_by-cons}
use Rattle.std.specs.Prelude.{slice_get, sum_by, nat_lt}
use Rattle.std.specs.List.{AllByRecursion}
use mathlib.Core.List.{IsPrefix}
use mathlib.Core.Option.{some, some-injective, some-ne-none}
use lib.ListN.{get_elem?}
use Rattle.rate_types.specs.Sums.{total, one_if}
use Rattle.rate_types.proofs.Sums.{total_append}
use Rattle.rate_types.specs.Counters.{same_counter}
use Rattle.rate_types.specs.Ledger.{Charge, charged_below, IsLawfulLedger}
use Rattle.rate_types.specs.declared.counter_key.CounterKey.{CounterKey}
use Rattle.rls_core.specs.Reply.{charges_of}
use Rattle.counter_cells.specs.Ledgers.{charge_of}
use Rattle.counter_cells.specs.Ledgers as cells
use Rattle.counter_cells.specs.declared.view.Charge as cell_charge
use Rattle.counter_directory.specs.Acquired.{Bounds}
use Rattle.counter_directory.specs.declared.claim.Claim.{Claim}
use Rattle.rate_limiter.specs.Passes.{LimiterView, PassView}
use Rattle.rate_limiter.specs.Named.{claimed_as, AreNamed}
use Rattle.rate_limiter.specs.Closing.{cells_of, IsOneLedger}
use Rattle.reply_text.specs.Answer.{Answer}
use Rattle.reply_text.specs.declared.record.Record.{Record}
use Rattle.reply_text.specs.declared.record.Outcome.{Outcome}
use Rattle.reply_text.specs.declared.record.Outcome.TheVariants as outcome
use Rattle.script_run.specs.ScriptLine.{ScriptLine, check, reload, tick, bad}
use Rattle.script_run.specs.Charges.{charges_shown, ledger_of, ChargesFormLedger}
use Rattle.worker_run.specs.LineSteps.{LineStep}
use Rattle.worker_run.specs.Journal.{Journal}
use Rattle.worker_run.specs.Work.{HaveRun}

pub prefix_self : {A : Type 0} (xs : List A) → IsPrefix xs xs
prefix_self [] = ([], refl)
prefix_self (x ∷ xs) = (let r = prefix_self xs in r.0, ap (λ ys. x ∷ ys) (prefix_self xs).1)

pub prefix_same : {A : Type 0} (xs ys : List A) → ys ≡ xs → IsPrefix xs ys
prefix_same xs ys e = subst (λ (l : List _). IsPrefix xs l) (sym e) (prefix_self xs)

pub prefix_on : {A : Type 0} (xs ys zs : List A) → IsPrefix xs ys → IsPrefix ys zs → IsPrefix xs zs
prefix_on xs ys zs p q = (p.0 ++ q.0, sym (append_assoc xs p.0 q.0) ∙ ap (λ l. l ++ q.0) p.1 ∙ q.1)

pub prefix_added : {A : Type 0} (xs ys zs ws : List A) → IsPrefix xs ys → ws ≡ ys ++ zs → IsPrefix xs ws
prefix_added xs ys zs ws p e = (p.0 ++ zs, sym (append_assoc xs p.0 zs) ∙ ap (λ l. l ++ zs) p.1 ∙ sym e)

pub claimed_grows : (q : CounterKey) (n : ℕ) (xs ys : List Claim) → IsPrefix xs ys → claimed_as q n xs ≤ claimed_as q n ys
claimed_grows q n xs ys p =
    let a = total_append (λ (x : Claim). one_if (same_counter x.key q && (x.claim == n))) xs p.0 in
    let e = ap (claimed_as q n) p.1 in
    omega arith

-- a ledger that was named by earlier claims is named by all
named_grows : (xs ys : List Claim) → IsPrefix xs ys → (us : List (Charge ℕ)) (vs : List (Charge CounterKey)) → AreNamed xs us vs → AreNamed ys us vs
named_grows xs ys p [] [] a = tt
named_grows xs ys p [] (v ∷ vs) a = absurd a
named_grows xs ys p (u ∷ us) [] a = absurd a
named_grows xs ys p (u ∷ us) (v ∷ vs) a =
    let g = claimed_grows v.counter u.counter xs ys p in
    let o = a.0.bound in
    (record { bound = omega arith; before = a.0.before; hits = a.0.hits }, named_grows xs ys p us vs a.1)

named_append : (c : List Claim) (us : List (Charge ℕ)) (vs : List (Charge CounterKey)) (us' : List (Charge ℕ)) (vs' : List (Charge CounterKey)) → AreNamed c us vs
    → AreNamed c us' vs' → AreNamed c (us ++ us') (vs ++ vs')
named_append c [] [] us' vs' a b = b
named_append c [] (v ∷ vs) us' vs' a b = absurd a
named_append c (u ∷ us) [] us' vs' a b = absurd a
named_append c (u ∷ us) (v ∷ vs) us' vs' a b = (a.0, named_append c us vs us' vs' a.1 b)

-- the charges that a record shows, of the line with its number
abbrev pub found_charges : Option ScriptLine → Record → List (Charge CounterKey)
found_charges None r = []
found_charges (Some l) r = charges_shown l r.moment r.outcome

abbrev pub charges_by : List ScriptLine → Record → List (Charge CounterKey)
charges_by lines r = found_charges (slice_get lines (r.line - 1)) r

abbrev pub charges_in : List ScriptLine → List Record → List (Charge CounterKey)
charges_in lines [] = []
charges_in lines (r ∷ rs) = charges_by lines r ++ charges_in lines rs

abbrev pub charges_all : List ScriptLine → List (List Record) → List (Charge CounterKey)
charges_all lines [] = []
charges_all lines (js ∷ jss) = charges_in lines js ++ charges_all lines jss

-- the pass has charged these, and no others
pub record Grows (claims : List Claim) (p q : PassView) (charges : List (Charge CounterKey)) : Type 0 where
  pub added : List cell_charge.Charge
  pub grew : q.cells.charges ≡ p.cells.charges ++ added
  pub named : AreNamed claims (map charge_of added) charges

append_nil : {A : Type 0} (xs : List A) → xs ≡ xs ++ []
append_nil [] = refl
append_nil (x ∷ xs) = ap (λ (l : List _). x ∷ l) (append_nil xs)

none_charged : (claims : List Claim) (p q : PassView) → q.cells.charges ≡ p.cells.charges → Grows claims p q []
none_charged claims p q e = record { added = []; grew = e ∙ append_nil p.cells.charges; named = tt }

pub step_claims : (b : Bounds) (limiter : LimiterView) (start : ℕ) (l : ScriptLine) (o : Outcome) (p q : PassView) → LineStep b limiter start l p o q
    → IsPrefix p.claims.known q.claims.known
step_claims b limiter start (check request) (outcome.Checked answer) p q s = let c = s.1.claims in prefix_added p.claims.known c.found c.added q.claims.known c.knew c.known
step_claims b limiter start (check request) (outcome.Full live held wanted) p q s = s.0.claims
step_claims b limiter start (check request) (outcome.Spent claims wanted) p q s = s.0.claims
step_claims b limiter start (reload config) outcome.Installed p q s = prefix_same _ _ (ap (λ (x : PassView). x.claims.known) s.0)
step_claims b limiter start (reload config) (outcome.VersionsFull versions) p q s = prefix_same _ _ (ap (λ (x : PassView). x.claims.known) s.0)
step_claims b limiter start (tick now) (outcome.Ticked shown) p q s = prefix_same _ _ (ap (λ (x : PassView). x.claims.known) s.2)
step_claims b limiter start (bad refused) (outcome.Bad shown) p q s = prefix_same _ _ (ap (λ (x : PassView). x.claims.known) s.1)
step_claims b limiter start l o p q s = absurd s

pub step_charges : (b : Bounds) (limiter : LimiterView) (start : ℕ) (l : ScriptLine) (o : Outcome) (p q : PassView) → LineStep b limiter start l p o q
    → Grows q.claims.known p q (charges_shown l q.cells.moment o)
step_charges b limiter start (check request) (outcome.Checked answer) p q s =
    let c = s.1.charged in
    let same : answer.statuses ≡ s.0.statuses.items = ap (λ (a : Answer). a.statuses) s.2 in
    record {
      added = c.added;
      grew = c.grew;
      named = subst (λ (ss : List _). AreNamed q.claims.known (map charge_of c.added) (charges_of request q.cells.moment request.descriptors ss)) (sym same) c.named;
    }
step_charges b limiter start (check request) (outcome.Full live held wanted) p q s = none_charged _ p q s.0.counts.charges
step_charges b limiter start (check request) (outcome.Spent claims wanted) p q s = none_charged _ p q s.0.counts.charges
step_charges b limiter start (reload config) outcome.Installed p q s = none_charged _ p q (ap (λ (x : PassView). x.cells.charges) s.0)
step_charges b limiter start (reload config) (outcome.VersionsFull versions) p q s = none_charged _ p q (ap (λ (x : PassView). x.cells.charges) s.0)
step_charges b limiter start (tick now) (outcome.Ticked shown) p q s = none_charged _ p q (ap (λ (x : PassView). x.cells.charges) s.2)
step_charges b limiter start (bad refused) (outcome.Bad shown) p q s = none_charged _ p q (ap (λ (x : PassView). x.cells.charges) s.1)
step_charges b limiter start l o p q s = absurd s

module _ (b : Bounds) (limiter : LimiterView) (start : ℕ) (lines : List ScriptLine) where
  pub journal_claims : (w : ℕ) (p : PassView) (rs : List Record) (q : PassView) → Journal b limiter start w lines p rs q → IsPrefix p.claims.known q.claims.known
  journal_claims w p [] q h = prefix_same _ _ (ap (λ (x : PassView). x.claims.known) h)
  journal_claims w p (r ∷ rs) q h =
      prefix_on _ h.0.claims.known _ (step_claims b limiter start h.1.line r.outcome p h.0 h.1.step) (journal_claims w h.0 rs q h.2)

  journal_charges : (w : ℕ) (p : PassView) (rs : List Record) (q : PassView) → Journal b limiter start w lines p rs q → Grows q.claims.known p q (charges_in lines rs)
  journal_charges w p [] q h = none_charged q.claims.known p q (ap (λ (x : PassView). x.cells.charges) h)
  journal_charges w p (r ∷ rs) q h =
      let mid = h.0 in
      let s = h.1 in
      let one = step_charges b limiter start s.line r.outcome p mid s.step in
      let more = journal_charges w mid rs q h.2 in
      let known = journal_claims w mid rs q h.2 in
      let shown : charges_shown s.line mid.cells.moment r.outcome ≡ charges_by lines r =
      ap (λ (m : ℕ). charges_shown s.line m r.outcome) (sym s.at) ∙ ap (λ (o : Option ScriptLine). found_charges o r) (sym s.there) in
      let first = subst (λ (cs : List (Charge CounterKey)). AreNamed q.claims.known (map charge_of one.added) cs) shown
      (named_grows mid.claims.known q.claims.known known (map charge_of one.added) _ one.named) in
      record {
        added = one.added ++ more.added;
        grew = more.grew ∙ ap (λ l. l ++ more.added) one.grew ∙ append_assoc p.cells.charges one.added more.added;
        named = subst (λ (us : List (Charge ℕ)). AreNamed q.claims.known us (charges_by lines r ++ charges_in lines rs)) (sym (map-append charge_of one.added more.added))
            (named_append q.claims.known (map charge_of one.added) _ (map charge_of more.added) _ first more.named);
      }

  -- the charges of all passes, one pass after the other
  pub all_named : (claims : List Claim) (before after : List PassView) (journals : List (List Record)) → length after ≡ length before → length journals ≡ length before
      → AllByRecursion (λ (p : PassView). p.cells.charges ≡ []) before → AllByRecursion (λ (q : PassView). IsPrefix q.claims.known claims) after
      → ((i : ℕ) (p : PassView) (rs : List Record) (q : PassView) → get_elem? before i ≡ some p → get_elem? journals i ≡ some rs → get_elem? after i ≡ some q
      → (w : ℕ) × Journal b limiter start w lines p rs q)
      → AreNamed claims (cells.ledger_of (cells_of after)) (charges_all lines journals)
  all_named claims [] [] [] a j none known each = tt
  all_named claims [] (q ∷ qs) js a j none known each = absurd (omega arith)
  all_named claims [] [] (r ∷ rs) a j none known each = absurd (omega arith)
  all_named claims (p ∷ ps) [] js a j none known each = absurd (omega arith)
  all_named claims (p ∷ ps) (q ∷ qs) [] a j none known each = absurd (omega arith)
  all_named claims (p ∷ ps) (q ∷ qs) (rs ∷ js) a j none known each =
      let w = each 0 p rs q refl refl refl in
      let g = journal_charges w.0 p rs q w.1 in
      let all : q.cells.charges ≡ g.added = g.grew ∙ ap (λ l. l ++ g.added) none.0 in
      let mine = subst (λ (l : List cell_charge.Charge). AreNamed claims (map charge_of l) (charges_in lines rs)) (sym all)
      (named_grows q.claims.known claims known.0 (map charge_of g.added) _ g.named) in
      let others = all_named claims ps qs js (omega arith) (omega arith) none.1 known.1 (λ i p' rs' q' x y z. each (suc i) p' rs' q' x y z) in
      named_append claims (map charge_of q.cells.charges) _ (cells.ledger_of (cells_of qs)) _ mine others

-- sums over a ledger in any order
pub sum_total : {A : Type 0} (f : A → ℕ) (xs : List A) → sum_by f xs ≡ total f xs
sum_total f [] = refl
sum_total f (x ∷ xs) = let s = sum_by-cons f x xs in let r = sum_total f xs in omega arith

total_in : (f : Charge CounterKey → ℕ) (lines : List ScriptLine) (rs : List Record) → total f (charges_in lines rs) ≡ total (λ (r : Record). total f (charges_by lines r)) rs
total_in f lines [] = refl
total_in f lines (r ∷ rs) = let a = total_append f (charges_by lines r) (charges_in lines rs) in let t = total_in f lines rs in omega arith

total_over : (f : Charge CounterKey → ℕ) (lines : List ScriptLine) (js : List (List Record)) → total f (charges_all lines js)
    ≡ total (λ (rs : List Record). total (λ (r : Record). total f (charges_by lines r)) rs) js
total_over f lines [] = refl
total_over f lines (rs ∷ js) =
    let a = total_append f (charges_in lines rs) (charges_all lines js) in
    let t = total_in f lines rs in
    let u = total_over f lines js in
    omega arith

module _ (all : List ScriptLine) where
  -- lines from a place on, and their records
  pub record IsFrom (n : ℕ) (ls : List ScriptLine) (rs : List Record) : Type 0 where
    pub lines : (i : ℕ) (l : ScriptLine) → slice_get ls i ≡ Some l → slice_get all (n + i) ≡ Some l
    pub records : (i : ℕ) (r : Record) → get_elem? rs i ≡ some r → r.line ≡ n + i + 1
    pub as_many : length rs ≡ length ls

  pub from_next : (n : ℕ) (l : ScriptLine) (ls : List ScriptLine) (r : Record) (rs : List Record) → IsFrom n (l ∷ ls) (r ∷ rs) → IsFrom (suc n) ls rs
  from_next n l ls r rs h = record {
    lines = λ i m e. let same : n + suc i ≡ suc n + i = omega arith in subst (λ (k : ℕ). slice_get all k ≡ Some m) same (h.lines (suc i) m e);
    records = λ i s e. let a = h.records (suc i) s e in omega arith;
    as_many = let a = h.as_many in omega arith;
  }

  -- the first record's charges
  first_charges : (n : ℕ) (l : ScriptLine) (ls : List ScriptLine) (r : Record) (rs : List Record) → IsFrom n (l ∷ ls) (r ∷ rs) → charges_shown l r.moment r.outcome
      ≡ charges_by all r
  first_charges n l ls r rs h =
      let a = h.records 0 r refl in
      let at : n + 0 ≡ r.line - 1 = omega arith in
      ap (λ (o : Option ScriptLine). found_charges o r) (sym (h.lines 0 l refl) ∙ ap (slice_get all) at)

  ledger_total : (f : Charge CounterKey → ℕ) (n : ℕ) (ls : List ScriptLine) (rs : List Record) → IsFrom n ls rs
      → total f (ledger_of ls rs) ≡ total (λ (r : Record). total f (charges_by all r)) rs
  ledger_total f n [] [] h = refl
  ledger_total f n [] (r ∷ rs) h = let a = h.as_many in absurd (omega arith)
  ledger_total f n (l ∷ ls) [] h = let a = h.as_many in absurd (omega arith)
  ledger_total f n (l ∷ ls) (r ∷ rs) h =
      let t = ledger_total f (suc n) ls rs (from_next n l ls r rs h) in
      let e = ap (total f) (first_charges n l ls r rs h) in
      let a = total_append f (charges_shown l r.moment r.outcome) (ledger_of ls rs) in
      omega arith

  module _ (P : Charge CounterKey → Type 0) where
    all_both : (xs ys : List (Charge CounterKey)) → AllByRecursion P xs → AllByRecursion P ys → AllByRecursion P (xs ++ ys)
    all_both [] ys h k = k
    all_both (x ∷ xs) ys h k = (h.0, all_both xs ys h.1 k)

    all_front : (xs ys : List (Charge CounterKey)) → AllByRecursion P (xs ++ ys) → AllByRecursion P xs
    all_front [] ys h = tt
    all_front (x ∷ xs) ys h = (h.0, all_front xs ys h.1)

    all_back : (xs ys : List (Charge CounterKey)) → AllByRecursion P (xs ++ ys) → AllByRecursion P ys
    all_back [] ys h = h
    all_back (x ∷ xs) ys h = all_back xs ys h.1

    of_record : (rs : List Record) (k : ℕ) (r : Record) → get_elem? rs k ≡ some r → AllByRecursion P (charges_in all rs) → AllByRecursion P (charges_by all r)
    of_record [] k r e h = absurd (some-ne-none r (sym e))
    of_record (x ∷ xs) zero r e h =
        subst (λ (y : Record). AllByRecursion P (charges_by all y)) (some-injective x r e) (all_front (charges_by all x) (charges_in all xs) h)
    of_record (x ∷ xs) (suc k) r e h = of_record xs k r e (all_back (charges_by all x) (charges_in all xs) h)

    of_journal : (js : List (List Record)) (w : ℕ) (rs : List Record) → get_elem? js w ≡ some rs → AllByRecursion P (charges_all all js) → AllByRecursion P (charges_in all rs)
    of_journal [] w rs e h = absurd (some-ne-none rs (sym e))
    of_journal (x ∷ xs) zero rs e h =
        subst (λ (y : List Record). AllByRecursion P (charges_in all y)) (some-injective x rs e) (all_front (charges_in all x) (charges_all all xs) h)
    of_journal (x ∷ xs) (suc w) rs e h = of_journal xs w rs e (all_back (charges_in all x) (charges_all all xs) h)

    in_ledger : (n : ℕ) (ls : List ScriptLine) (rs : List Record) → IsFrom n ls rs → ((i : ℕ) (r : Record) → get_elem? rs i ≡ some r → AllByRecursion P (charges_by all r))
        → AllByRecursion P (ledger_of ls rs)
    in_ledger n [] [] h each = tt
    in_ledger n [] (r ∷ rs) h each = tt
    in_ledger n (l ∷ ls) [] h each = tt
    in_ledger n (l ∷ ls) (r ∷ rs) h each =
        all_both (charges_shown l r.moment r.outcome) (ledger_of ls rs)
        (subst (λ (cs : List (Charge CounterKey)). AllByRecursion P cs) (sym (first_charges n l ls r rs h)) (each 0 r refl))
        (in_ledger (suc n) ls rs (from_next n l ls r rs h) (λ i s e. each (suc i) s e))

weaker : (P Q : Charge CounterKey → Type 0) → ((x : Charge CounterKey) → P x → Q x) → (xs : List (Charge CounterKey)) → AllByRecursion P xs → AllByRecursion Q xs
weaker P Q f [] h = tt
weaker P Q f (x ∷ xs) h = (f x h.0, weaker P Q f xs h.1)

module _ (b : Bounds) (limiter : LimiterView) (start : ℕ) (lines : List ScriptLine) (before after : List PassView) (records : List Record)
    (h : HaveRun b limiter start lines before after records) where
  pub whole : IsFrom lines 0 lines records
  whole = record {
    lines = λ i l e. subst (λ (k : ℕ). slice_get lines k ≡ Some l) (zero_plus i) e;
    records = λ i r e. let n = h.merges.numbered i r e in omega arith;
    as_many = h.merges.as_many;
  }
    where
      zero_plus : (i : ℕ) → i ≡ 0 + i
      zero_plus i = omega arith

  same_total : (f : Charge CounterKey → ℕ) → total f (ledger_of lines records) ≡ total f (charges_all lines h.journals)
  same_total f =
      ledger_total lines f 0 lines records whole ∙ h.merges.sums (λ (r : Record). total f (charges_by lines r)) ∙ sym (total_over f lines h.journals)

  pub same_sum : (f : Charge CounterKey → ℕ) → sum_by f (ledger_of lines records) ≡ sum_by f (charges_all lines h.journals)
  same_sum f = sum_total f (ledger_of lines records) ∙ same_total f ∙ sym (sum_total f (charges_all lines h.journals))

  moved : (P : Charge CounterKey → Type 0) → AllByRecursion P (charges_all lines h.journals) → AllByRecursion P (ledger_of lines records)
  moved P a =
      in_ledger lines P 0 lines records whole
      (λ i r e. let f = h.merges.from i r e in of_record lines P f.journal f.place r f.here (of_journal lines P h.journals f.worker f.journal f.there a))

  lawful : IsLawfulLedger same_counter (charges_all lines h.journals) → ChargesFormLedger lines records
  lawful law = record {
    hits = moved (λ (x : Charge CounterKey). 1 ≤ x.hits) law.hits;
    sums = weaker (λ (x : Charge CounterKey). x.before ≡ charged_below same_counter x.counter x.before (charges_all lines h.journals))
        (λ (x : Charge CounterKey). x.before ≡ charged_below same_counter x.counter x.before (ledger_of lines records))
        (λ x e. e ∙ sym (same_sum (λ (y : Charge CounterKey). cond (same_counter y.counter x.counter && nat_lt y.before x.before) y.hits 0)))
        (ledger_of lines records)
        (moved (λ (x : Charge CounterKey). x.before ≡ charged_below same_counter x.counter x.before (charges_all lines h.journals)) law.sums);
    apart = λ c n.
        let e = same_sum (λ (y : Charge CounterKey). cond (same_counter y.counter c && (y.before == n)) 1 0) in
        subst (λ (k : ℕ). k ≤ 1) (sym e) (law.apart c n);
  }

  -- the charges of all answered checks form one lawful ledger
  pub charges_form_ledger : (claims : List Claim) → AllByRecursion (λ (p : PassView). p.cells.charges ≡ []) before
      → AllByRecursion (λ (q : PassView). IsPrefix q.claims.known claims) after → IsOneLedger claims after → ChargesFormLedger lines records
  charges_form_ledger claims none known one =
      lawful (one (charges_all lines h.journals)
      (all_named b limiter start lines claims before after h.journals h.as_many.0 h.as_many.1 none known (λ i p rs q x y z. (i, h.each i p rs q x y z))))
