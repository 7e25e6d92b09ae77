-- The versions that the records of a run install, and which configuration each is.
use Rattle.std.proofs.Common.{◌≡◌, ◌⊎◌, inl, inr, ⊎_elim, ℕ, zero, suc, ◌+◌, ◌≤◌, ◌<◌, ◌==◌, ◌&&◌, List, [], ◌∷◌, ◌++◌, length, take, Bool, true, false, true≢false, Some}
use Rattle.std.proofs.Common.{refl, sym, ap, ◌∙◌, subst, arith, length-append}
use Rattle.std.proofs.lemmas.Bool.Decides.{nat_tests}
use Rattle.std.specs.Prelude.{slice_get}
use Rattle.std.specs.List.{AllByRecursion}
use mathlib.Core.List.{IsPrefix}
use mathlib.Core.Option.{some}
use native.Mathlib.Decide.{dec_le}
use lib.ListN.{get_elem?}
use Rattle.rate_types.specs.Sums.{total, one_if, times}
use Rattle.rate_types.specs.declared.limits.TheConstants.{MOST_VERSIONS}
use Rattle.rate_types.proofs.Sums.{total_append}
use Rattle.told_list.specs.Lists.{IsOwnedOnce}
use Rattle.config_versions.specs.PassState.{IsFirst}
use Rattle.counter_directory.specs.Acquired.{Bounds}
use Rattle.descriptor_tree.specs.Trees.{DomainTree}
use Rattle.rate_limiter.specs.Passes.{LimiterView, PassView}
use Rattle.rate_limiter.proofs.Places.{all_of_each, at_each, below, here, prefix_get, prefix_length, take_at, to_elem}
use Rattle.reply_text.specs.declared.record.Record.{Record}
use Rattle.reply_text.specs.declared.record.Outcome.{Outcome}
use Rattle.reply_text.specs.declared.record.Outcome.TheVariants as outcome
use Rattle.script_run.specs.ScriptLine.{ScriptLine, check, reload, tick, bad}
use Rattle.script_run.specs.Replies.{IsByRule, RepliesByRule}
use Rattle.script_run.specs.Versions.{is_installed, installs, installed_or, version_in, IsAbove, VersionsNumbered}
use Rattle.worker_run.specs.LineSteps.{LineStep}
use Rattle.worker_run.specs.Journal.{Journal}
use Rattle.worker_run.specs.Work.{HaveRun}
use Rattle.worker_run.proofs.Clauses.{line_is}
use Rattle.worker_run.proofs.Ordering.{versions_rise}
use Rattle.worker_run.proofs.Ledger.{prefix_self, prefix_on, sum_total}
use Rattle.worker_run.proofs.Replying.{config_at, config_or, step_versions}
use Rattle.worker_run.proofs.Splitting.{split_at, related, Placed, placed, earlier_split}
use Rattle.worker_run.proofs.Counting.{IsFullAt, installed_as, all_below, owned_below, none_as}

-- ---- steps

-- a step adds to a pass's own versions just that which it installs
step_own : (b : Bounds) (limiter : LimiterView) (start n : ℕ) (l : ScriptLine) (o : Outcome) (p q : PassView) → LineStep b limiter start l p o q
    → times n q.version.view.own ≡ times n p.version.view.own + one_if (is_installed o && (q.version.version == n))
step_own b limiter start n (check request) (outcome.Checked answer) p q s = let e = ap (times n) s.1.version.own in omega arith
step_own b limiter start n (check request) (outcome.Full live held wanted) p q s = let e = ap (times n) s.0.own_versions in omega arith
step_own b limiter start n (check request) (outcome.Spent claims wanted) p q s = let e = ap (times n) s.0.own_versions in omega arith
step_own b limiter start n (reload config) outcome.Installed p q s =
    let i = s.1.1 in
    let e = ap (times n) i.own in
    let a = total_append (λ (x : ℕ). one_if (x == n)) p.version.view.own (s.1.0 ∷ []) in
    let v : one_if (s.1.0 == n) ≡ one_if (q.version.version == n) = ap (λ (k : ℕ). one_if (k == n)) (sym i.version) in
    omega (arith, e, a, v)
step_own b limiter start n (reload config) (outcome.VersionsFull versions) p q s = let e = ap (times n) s.1.2.own in omega arith
step_own b limiter start n (tick now) (outcome.Ticked shown) p q s = let e = ap (λ (x : PassView). times n x.version.view.own) s.2 in omega arith
step_own b limiter start n (bad refused) (outcome.Bad shown) p q s = let e = ap (λ (x : PassView). times n x.version.view.own) s.1 in omega arith
step_own b limiter start n l o p q s = absurd s

-- the pass is at one of the versions that it knows
abbrev IsAtKnown : PassView → Type 0
IsAtKnown p = p.version.version < length p.version.view.known

at_index : (q : PassView) → slice_get q.version.view.known q.version.version ≡ Some q.version.index → IsAtKnown q
at_index q e = below q.version.view.known q.version.version q.version.index (to_elem q.version.view.known q.version.version q.version.index e)

same_version : (p q : PassView) → q.version ≡ p.version → IsAtKnown p → IsAtKnown q
same_version p q e h = let v = ap (λ x. x.version) e in let k = ap (λ x. length x.view.known) e in omega (arith, v, k, h)

step_known : (b : Bounds) (limiter : LimiterView) (start : ℕ) (l : ScriptLine) (o : Outcome) (p q : PassView) → LineStep b limiter start l p o q → IsAtKnown p → IsAtKnown q
step_known b limiter start (check request) (outcome.Checked answer) p q s h = at_index q s.1.version.at
step_known b limiter start (check request) (outcome.Full live held wanted) p q s h = at_index q s.1.1.1.at
step_known b limiter start (check request) (outcome.Spent claims wanted) p q s h = at_index q s.1.1.at
step_known b limiter start (reload config) outcome.Installed p q s h =
    let i = s.1.1 in
    let k = ap length i.known in
    let a = length-append i.found (config ∷ []) in
    let v = i.version in
    let n = i.place in
    omega (arith, k, a, v, n)
step_known b limiter start (reload config) (outcome.VersionsFull versions) p q s h = let v = s.1.2.version in omega arith
step_known b limiter start (tick now) (outcome.Ticked shown) p q s h = same_version p q (ap (λ (x : PassView). x.version) s.2) h
step_known b limiter start (bad refused) (outcome.Bad shown) p q s h = same_version p q (ap (λ (x : PassView). x.version) s.1) h
step_known b limiter start l o p q s h = absurd s

-- what a step that installed a version did
pub record HasMade (l : ScriptLine) (p q : PassView) : Type 0 where
  pub config : List DomainTree
  pub line : l ≡ reload config
  pub at : slice_get q.version.view.known q.version.version ≡ Some config
  pub few : q.version.version < MOST_VERSIONS
  pub above : p.version.version < q.version.version

last_at : (xs : List (List DomainTree)) (y : List DomainTree) → slice_get (xs ++ y ∷ []) (length xs) ≡ Some y
last_at [] y = refl
last_at (x ∷ xs) y = last_at xs y

step_made : (b : Bounds) (limiter : LimiterView) (start : ℕ) (l : ScriptLine) (o : Outcome) (p q : PassView) → LineStep b limiter start l p o q → is_installed o ≡ true
    → HasMade l p q
step_made b limiter start (reload config) outcome.Installed p q s e =
    let i = s.1.1 in
    let v : q.version.version ≡ length i.found = i.version ∙ i.place in
    let rise = i.rises in
    let room = i.room in
    record {
      config = config;
      line = refl;
      at = ap (slice_get q.version.view.known) v ∙ ap (λ (l : List (List DomainTree)). slice_get l (length i.found)) i.known ∙ last_at i.found config;
      few = omega (arith, i.version, room);
      above = omega (arith, i.version, rise);
    }
step_made b limiter start (check request) (outcome.Checked answer) p q s e = absurd (true≢false (sym e))
step_made b limiter start (check request) (outcome.Full live held wanted) p q s e = absurd (true≢false (sym e))
step_made b limiter start (check request) (outcome.Spent claims wanted) p q s e = absurd (true≢false (sym e))
step_made b limiter start (reload config) (outcome.VersionsFull versions) p q s e = absurd (true≢false (sym e))
step_made b limiter start (tick now) (outcome.Ticked shown) p q s e = absurd (true≢false (sym e))
step_made b limiter start (bad refused) (outcome.Bad shown) p q s e = absurd (true≢false (sym e))
step_made b limiter start l o p q s e = absurd s

step_full : (b : Bounds) (limiter : LimiterView) (start : ℕ) (l : ScriptLine) (o : Outcome) (p q : PassView) → LineStep b limiter start l p o q → IsFullAt o q.version.version
step_full b limiter start (reload config) (outcome.VersionsFull n) p q s = let v = s.1.2.version in let k = s.1.1 in omega (arith, v, k)
step_full b limiter start (reload config) outcome.Installed p q s = tt
step_full b limiter start (check request) (outcome.Checked answer) p q s = tt
step_full b limiter start (check request) (outcome.Full live held wanted) p q s = tt
step_full b limiter start (check request) (outcome.Spent claims wanted) p q s = tt
step_full b limiter start (tick now) (outcome.Ticked shown) p q s = tt
step_full b limiter start (bad refused) (outcome.Bad shown) p q s = tt
step_full b limiter start l o p q s = absurd s

-- ---- journals

module _ (b : Bounds) (limiter : LimiterView) (start : ℕ) (lines : List ScriptLine) where
  journal_own : (n w : ℕ) (p : PassView) (rs : List Record) (q : PassView) → Journal b limiter start w lines p rs q
      → times n q.version.view.own ≡ times n p.version.view.own + installed_as n rs
  journal_own n w p [] q h = let e = ap (λ (x : PassView). times n x.version.view.own) h in omega arith
  journal_own n w p (r ∷ rs) q h =
      let s = h.1 in
      let one = step_own b limiter start n s.line r.outcome p h.0 s.step in
      let more = journal_own n w h.0 rs q h.2 in
      let same : one_if (is_installed r.outcome && (r.version == n)) ≡ one_if (is_installed r.outcome && (h.0.version.version == n)) =
      ap (λ (v : ℕ). one_if (is_installed r.outcome && (v == n))) s.by_version in
      omega (arith, one, more, same)

  all_own : (n : ℕ) (before after : List PassView) (journals : List (List Record)) → length after ≡ length before → length journals ≡ length before
      → AllByRecursion (λ (p : PassView). p.version.view.own ≡ []) before
      → ((i : ℕ) (p : PassView) (rs : List Record) (q : PassView) → get_elem? before i ≡ some p → get_elem? journals i ≡ some rs → get_elem? after i ≡ some q
      → (w : ℕ) × Journal b limiter start w lines p rs q)
      → total (λ (q : PassView). times n q.version.view.own) after ≡ total (installed_as n) journals
  all_own n [] [] [] a j none each = refl
  all_own n [] (q ∷ qs) js a j none each = absurd (omega arith)
  all_own n [] [] (r ∷ rs) a j none each = absurd (omega arith)
  all_own n (p ∷ ps) [] js a j none each = absurd (omega arith)
  all_own n (p ∷ ps) (q ∷ qs) [] a j none each = absurd (omega arith)
  all_own n (p ∷ ps) (q ∷ qs) (rs ∷ js) a j none each =
      let w = each 0 p rs q refl refl refl in
      let mine = journal_own n w.0 p rs q w.1 in
      let empty = ap (times n) none.0 in
      let others = all_own n ps qs js (omega arith) (omega arith) none.1 (λ i p' rs' q' x y z. each (suc i) p' rs' q' x y z) in
      omega (arith, mine, empty, others)

-- ---- the run

module _ (b : Bounds) (limiter : LimiterView) (start : ℕ) (lines : List ScriptLine) (before after : List PassView) (records : List Record)
    (h : HaveRun b limiter start lines before after records) (first : List DomainTree) (versions : List (List DomainTree))
    (fresh : AllByRecursion (λ (p : PassView). IsFirst first p.version) before) (many : 1 ≤ length before)
    (known : AllByRecursion (λ (q : PassView). IsPrefix q.version.view.known versions) after)
    (owned : (n : ℕ) → IsOwnedOnce 1 (length versions) n (total (λ (q : PassView). times n q.version.view.own) after)) where
  none_owned : (ps : List PassView) → AllByRecursion (λ (p : PassView). IsFirst first p.version) ps → AllByRecursion (λ (p : PassView). p.version.view.own ≡ []) ps
  none_owned [] f = tt
  none_owned (p ∷ ps) f = (f.0.own, none_owned ps f.1)

  -- each version past the first is installed by one record
  pub once : (n : ℕ) → IsOwnedOnce 1 (length versions) n (installed_as n records)
  once n =
      let all = all_own b limiter start lines n before after h.journals h.as_many.0 h.as_many.1 (none_owned before fresh) (λ i p rs q x y z. (i, h.each i p rs q x y z)) in
      let moved = h.merges.sums (λ (r : Record). one_if (is_installed r.outcome && (r.version == n))) in
      subst (IsOwnedOnce 1 (length versions) n) (all ∙ sym moved) (owned n)

  -- what a pass knows at the end
  its_known : (r : Record) (y : Placed b limiter start lines before after records h r) → IsPrefix y.split.to.version.view.known versions
  its_known r y =
      prefix_on _ y.last.version.view.known versions
      (related b limiter start y.worker lines (λ (p q : PassView). IsPrefix p.version.view.known q.version.view.known) (λ p. prefix_self p.version.view.known)
      (λ p m q e f. prefix_on _ m.version.view.known _ e f) (λ l o p q s. step_versions b limiter start l o p q s) y.split.to y.split.later y.last y.split.back)
      (at_each (λ (q : PassView). IsPrefix q.version.view.known versions) after y.worker y.last y.last_is known)

  its_first : (r : Record) (y : Placed b limiter start lines before after records h r) → IsFirst first y.first.version
  its_first r y = at_each (λ (p : PassView). IsFirst first p.version) before y.worker y.first y.first_is fresh

  -- a record's version is one of them
  is_there : (i : ℕ) (r : Record) → get_elem? records i ≡ some r → r.version < length versions
  is_there i r e =
      let y = placed b limiter start lines before after records h i r e in
      let f = its_first r y in
      let k = ap length f.known in
      let z = f.version in
      let start_at : IsAtKnown y.first = omega (arith, k, z) in
      let from = related b limiter start y.worker lines (λ (p q : PassView). IsAtKnown p → IsAtKnown q) (λ p x. x) (λ p m q u v x. v (u x))
      (λ l o p q s. step_known b limiter start l o p q s) y.first y.split.earlier y.split.from y.split.front start_at in
      let to = step_known b limiter start y.split.step.line r.outcome y.split.from y.split.to y.split.step.step from in
      let len = prefix_length _ versions (its_known r y) in
      let is = y.split.step.by_version in
      omega (arith, to, len, is)

  -- the first version
  pub zeroth : slice_get versions 0 ≡ Some first
  zeroth =
      let p = here before 0 (omega arith) in
      let q = here after 0 (omega (arith, h.as_many.0)) in
      let rs = here h.journals 0 (omega (arith, h.as_many.1)) in
      let j = h.each 0 p.0 rs.0 q.0 p.1 rs.1 q.1 in
      let f = at_each (λ (p : PassView). IsFirst first p.version) before 0 p.0 p.1 fresh in
      let grows = related b limiter start 0 lines (λ (p q : PassView). IsPrefix p.version.view.known q.version.view.known) (λ p. prefix_self p.version.view.known)
      (λ p m q e f. prefix_on _ m.version.view.known _ e f) (λ l o p q s. step_versions b limiter start l o p q s) p.0 rs.0 q.0 j in
      let mine = at_each (λ (q : PassView). IsPrefix q.version.view.known versions) after 0 q.0 q.1 known in
      let at : slice_get p.0.version.view.known 0 ≡ Some first = ap (λ (l : List (List DomainTree)). slice_get l 0) f.known in
      prefix_get p.0.version.view.known versions 0 first (prefix_on _ q.0.version.view.known versions grows mine) at

  some_versions : 1 ≤ length versions
  some_versions = let b = below versions 0 first (to_elem versions 0 first zeroth) in omega arith

  all_there : AllByRecursion (λ (r : Record). r.version < length versions) records
  all_there = all_of_each (λ (r : Record). r.version < length versions) records is_there

  -- there are as many versions as were installed, and the first
  pub as_many_versions : installs records + 1 ≡ length versions
  as_many_versions =
      let c = sum_total (λ (r : Record). one_if (is_installed r.outcome)) records in
      let a = all_below (length versions) records all_there in
      let o = owned_below records (length versions) once (length versions) some_versions (omega arith) in
      omega (arith, c, a, o)

  -- the record's line is the configuration that it installed
  made : (i : ℕ) (r : Record) (y : Placed b limiter start lines before after records h r) → is_installed r.outcome ≡ true → HasMade y.split.step.line y.split.from y.split.to
  made i r y e = step_made b limiter start y.split.step.line r.outcome y.split.from y.split.to y.split.step.step e

  few : installs records < MOST_VERSIONS
  few = pick (dec_le MOST_VERSIONS (installs records))
    where
      each_few : AllByRecursion (λ (r : Record). is_installed r.outcome ≡ true → r.version < MOST_VERSIONS) records
      each_few = all_of_each (λ (r : Record). is_installed r.outcome ≡ true → r.version < MOST_VERSIONS) records
          (λ i r e is. let y = placed b limiter start lines before after records h i r e in let m = made i r y is in let v = y.split.step.by_version in omega (arith, m.few, v))

      pick : Dec (MOST_VERSIONS ≤ installs records) → installs records < MOST_VERSIONS
      pick (no n) = omega arith
      pick (yes le) =
          let none = none_as MOST_VERSIONS records each_few in
          let many = as_many_versions in
          let one = (once MOST_VERSIONS).there (omega arith) (omega (arith, many)) in
          absurd (omega (arith, none, one))

  -- an installed version is above those of its worker's earlier records
  is_above : (i : ℕ) (l : ScriptLine) (r : Record) → slice_get lines i ≡ Some l → slice_get records i ≡ Some r → IsAbove (take i records) r r.outcome
  is_above i l r el er = cases r.outcome each
    where
      at : get_elem? records i ≡ some r
      at = to_elem records i r er

      y : Placed b limiter start lines before after records h r
      y = placed b limiter start lines before after records h i r at

      one : is_installed r.outcome ≡ true → (j : ℕ) (e : Record) → get_elem? (take i records) j ≡ some e → e.worker ≡ r.worker → e.version < r.version
      one is j e f same =
          let t = take_at records i j e f in
          let k = earlier_split b limiter start lines before after records h j i e r t.1 t.0 at same y in
          let s = split_at b limiter start y.worker lines y.first y.split.earlier y.split.from y.split.front k.0 e k.1 in
          let rise = related b limiter start y.worker lines (λ (p q : PassView). p.version.version ≤ q.version.version) (λ p. omega arith) (λ p m q u v. omega (arith, u, v))
          (λ l o p q s. versions_rise b limiter start l o p q s) s.to s.later y.split.from s.back in
          let m = made i r y is in
          omega (arith, rise, m.above, s.step.by_version, y.split.step.by_version)

      each : is_installed r.outcome ≡ true → AllByRecursion (λ (e : Record). e.worker ≡ r.worker → e.version < r.version) (take i records)
      each is = all_of_each (λ (e : Record). e.worker ≡ r.worker → e.version < r.version) (take i records) (one is)

      cases : (o : Outcome) → (is_installed o ≡ true → AllByRecursion (λ (e : Record). e.worker ≡ r.worker → e.version < r.version) (take i records)) → IsAbove (take i records) r o
      cases outcome.Installed f = f refl
      cases (outcome.Checked answer) f = tt
      cases (outcome.Full live held wanted) f = tt
      cases (outcome.Spent claims wanted) f = tt
      cases (outcome.VersionsFull n) f = tt
      cases (outcome.Ticked shown) f = tt
      cases (outcome.Bad shown) f = tt

  -- the versions from 1 on are installed without a gap, by one line each
  pub versions_numbered : VersionsNumbered lines records
  versions_numbered = record {
    once = λ v low high.
        let many = as_many_versions in
        let one = (once v).there low (omega (arith, many)) in
        sum_total (λ (r : Record). one_if (is_installed r.outcome && (r.version == v))) records ∙ one;
    few = few;
    known = all_of_each (λ (r : Record). r.version ≤ installs records) records (λ i r e. let t = is_there i r e in let many = as_many_versions in omega (arith, t, many));
    above = is_above;
  }

  -- what a record that installed a version says of its line
  record Says (l : ScriptLine) (version : ℕ) : Type 0 where
    pub config : List DomainTree
    pub line : l ≡ reload config
    pub at : config_at versions version ≡ config

  says : (i : ℕ) (l : ScriptLine) (r : Record) → slice_get lines i ≡ Some l → get_elem? records i ≡ some r → is_installed r.outcome ≡ true → Says l r.version
  says i l r el e is =
      let y = placed b limiter start lines before after records h i r e in
      let m = made i r y is in
      let its = prefix_get _ versions y.split.to.version.version m.config (its_known r y) m.at in
      record {
        config = m.config;
        line = sym (line_is b limiter start lines before after records h i l r el e y.worker y.split.from y.split.to y.split.step) ∙ m.line;
        at = ap (config_at versions) y.split.step.by_version ∙ ap config_or its;
      }

  -- one line: it is the version, or it isn't and changes nothing
  abbrev IsOne : ℕ → ScriptLine → ℕ → Outcome → List DomainTree → Type 0
  IsOne v l version o rest = (installed_or v l version o rest ≡ config_at versions v)
      ⊎ ((one_if (is_installed o && (version == v)) ≡ 0) × (installed_or v l version o rest ≡ rest))

  one_line : (v : ℕ) (l : ScriptLine) (version : ℕ) (o : Outcome) (rest : List DomainTree) → (is_installed o ≡ true → Says l version) → IsOne v l version o rest
  one_line v (reload config) version outcome.Installed rest says = pick (version == v) refl
    where
      pick : (t : Bool) → (version == v) ≡ t → IsOne v (reload config) version outcome.Installed rest
      pick true e =
          let f = says refl in
          let same : version ≡ v = grind (arith, nat_tests) in
          let is : config ≡ f.config = reload_of config f.config f.line in
          inl (rw e (is ∙ sym f.at ∙ ap (config_at versions) same))
        where
          reload_of : (c d : List DomainTree) → reload c ≡ reload d → c ≡ d
          reload_of c d h = cc
      pick false e = inr (rw e refl, rw e refl)
  one_line v (check request) version outcome.Installed rest says = let f = says refl in absurd (check_no request f.config f.line)
    where
      check_no : (r : _) (c : List DomainTree) → check r ≡ reload c → ⊥
      check_no r c h = cc
  one_line v (tick now) version outcome.Installed rest says = let f = says refl in absurd (tick_no now f.config f.line)
    where
      tick_no : (n : ℕ) (c : List DomainTree) → tick n ≡ reload c → ⊥
      tick_no n c h = cc
  one_line v (bad refused) version outcome.Installed rest says = let f = says refl in absurd (bad_no refused f.config f.line)
    where
      bad_no : (r : _) (c : List DomainTree) → bad r ≡ reload c → ⊥
      bad_no r c h = cc
  one_line v (reload config) version o rest says = inr (refl, refl)
  one_line v (check request) version o rest says = inr (refl, refl)
  one_line v (tick now) version o rest says = inr (refl, refl)
  one_line v (bad refused) version o rest says = inr (refl, refl)

  in_version : (v : ℕ) (ls : List ScriptLine) (rs : List Record)
      → ((i : ℕ) (l : ScriptLine) (r : Record) → slice_get ls i ≡ Some l → get_elem? rs i ≡ some r → is_installed r.outcome ≡ true → Says l r.version) → length rs ≡ length ls
      → (version_in first ls rs v ≡ config_at versions v) ⊎ ((installed_as v rs ≡ 0) × (version_in first ls rs v ≡ first))
  in_version v [] [] each n = inr (refl, refl)
  in_version v [] (r ∷ rs) each n = absurd (omega arith)
  in_version v (l ∷ ls) [] each n = absurd (omega arith)
  in_version v (l ∷ ls) (r ∷ rs) each n =
      ⊎_elim (λ e. inl e)
      (λ z. ⊎_elim (λ e. inl (z.1 ∙ e)) (λ k. inr (omega (arith, z.0, k.0), z.1 ∙ k.1))
      (in_version v ls rs (λ i m s el es is. each (suc i) m s el es is) (omega arith)))
      (one_line v l r.version r.outcome (version_in first ls rs v) (λ is. each 0 l r refl refl is))

  -- the configuration of each version that was installed, and of the first, is the one of its number among all versions
  pub version_is : (v : ℕ) → v ≤ installs records → version_in first lines records v ≡ config_at versions v
  version_is v le = ⊎_elim (λ e. e) (λ z. pick v le z.0 z.1) (in_version v lines records says h.merges.as_many)
    where
      pick : (v : ℕ) → v ≤ installs records → installed_as v records ≡ 0 → version_in first lines records v ≡ first → version_in first lines records v ≡ config_at versions v
      pick zero le none is = is ∙ sym (ap config_or zeroth)
      pick (suc v) le none is =
          let many = as_many_versions in
          let one = (once (suc v)).there (omega arith) (omega (arith, many)) in
          absurd (omega (arith, none, one))

  pub full_at : (i : ℕ) (r : Record) → get_elem? records i ≡ some r → IsFullAt r.outcome r.version
  full_at i r e =
      let y = placed b limiter start lines before after records h i r e in
      subst (IsFullAt r.outcome) (sym y.split.step.by_version) (step_full b limiter start y.split.step.line r.outcome y.split.from y.split.to y.split.step.step)

  -- each reply is that of the version that its record shows
  pub replies_by_version : (global_shadow : Bool) → RepliesByRule (config_at versions) global_shadow lines records
      → RepliesByRule (version_in first lines records) global_shadow lines records
  replies_by_version global_shadow rule i l r el er =
      let at = to_elem records i r er in
      let t = is_there i r at in
      let many = as_many_versions in
      let is = version_is r.version (omega (arith, t, many)) in
      subst (λ (c : List DomainTree). IsByRule c global_shadow l r.moment r.outcome) (sym is) (rule i l r el er)

  -- so the configurations that the records give their versions are those of all versions, number by number
  pub agrees : (n : ℕ) (c : List DomainTree) → slice_get versions n ≡ Some c → version_in first lines records n ≡ c
  agrees n c e =
      let low = below versions n c (to_elem versions n c e) in
      let many = as_many_versions in
      version_is n (omega (arith, low, many)) ∙ ap config_or e
