-- With one worker each record is by the version installed last, at the greatest of the start and the ticks, and counts in its turn.
use Rattle.std.proofs.Common.{◌≡◌, ◌⊎◌, inl, inr, ℕ, zero, suc, ◌+◌, ◌≤◌, ◌<◌, ◌==◌, ◌&&◌, not, List, [], ◌∷◌, ◌++◌, length, take, nat_lt, Bool, true, false, true≢false, cond}
use Rattle.std.proofs.Common.{refl, sym, ap, ◌∙◌, subst, arith, eq-eqb}
use Rattle.std.proofs.lemmas.Bool.{lt-ltb, le-ltb}
use Rattle.std.specs.List.{AllByRecursion}
use mathlib.Core.Option.{some, some-injective}
use native.Mathlib.Decide.{dec_le}
use lib.ListN.{get_elem?}
use Rattle.rate_types.specs.Sums.{total, one_if}
use Rattle.rate_types.proofs.Sums.{total_none, total_push}
use Rattle.rate_types.specs.declared.limits.TheConstants.{MOST_VERSIONS}
use Rattle.descriptor_tree.specs.Trees.{DomainTree}
use Rattle.told_list.specs.Lists.{IsOwnedOnce}
use Rattle.rate_limiter.proofs.Places.{all_of_each, at_each, below, front_at, here, of_elem, take_at, take_next, to_elem}
use Rattle.reply_text.specs.declared.record.Record.{Record}
use Rattle.reply_text.specs.declared.record.Outcome.{Outcome}
use Rattle.reply_text.specs.declared.record.Outcome.TheVariants as outcome
use Rattle.script_run.specs.ScriptLine.{ScriptLine, check, reload, tick, bad}
use Rattle.script_run.specs.Lines.{EachLine, IsAtLeastEarlier}
use Rattle.script_run.specs.Kinds.{OneRecordPerLine}
use Rattle.script_run.specs.Versions.{is_installed, installs, IsAbove, VersionsNumbered, VersionsNeverFall}
use Rattle.script_run.specs.Moments.{tick_of, moment_after, offer_of, offers, IsTimely, MomentsNeverFall}
use Rattle.script_run.specs.Charges.{ledger_of, ChargesFormLedger, SightsLawful}
use Rattle.script_run.specs.Replies.{RepliesByRule}
use Rattle.script_run.specs.Values.{ValuesNeverFall}
use Rattle.worker_run.proofs.Counting.{IsFullAt, installed_as, owned_below}
use Rattle.worker_run.proofs.InTurn.{IsCountedInTurn, CountedWithOneWorker}
use Rattle.worker_run.proofs.Finding.{none_or_some}
use Rattle.worker_run.proofs.Ledger.{sum_total}
use Rattle.worker_run.proofs.Sequencing.{Counts, counts_at}
use Rattle.worker_run.proofs.Timing.{start_least, all_ticks, offer_is_tick}

-- a sum up to a place
sum_split : (f g : Record → ℕ) (n : ℕ) (rs : List Record) → ((j : ℕ) (e : Record) → get_elem? rs j ≡ some e → j < n → f e ≡ g e)
    → ((j : ℕ) (e : Record) → get_elem? rs j ≡ some e → n ≤ j → g e ≡ 0) → total f (take n rs) ≡ total g rs
sum_split f g zero rs front back = sym (total_none g rs (λ j e at. back j e at (omega arith)))
sum_split f g (suc n) [] front back = refl
sum_split f g (suc n) (r ∷ rs) front back =
    let one = front 0 r refl (omega arith) in
    let more = sum_split f g n rs (λ j e at lt. front (suc j) e at (omega arith)) (λ j e at le. back (suc j) e at (omega arith)) in
    omega (arith, one, more)

installs_push : (rs : List Record) (r : Record) → installs (rs ++ r ∷ []) ≡ installs rs + one_if (is_installed r.outcome)
installs_push rs r =
    let f : Record → ℕ = λ (x : Record). one_if (is_installed x.outcome) in
    let a = sum_total f (rs ++ r ∷ []) in
    let b = sum_total f rs in
    let c = total_push f rs r in
    omega (arith, a, b, c)

-- where no line was run by a worker that passes the test, none offered
offers_none : (by : ℕ → Bool) (m : ℕ) (ls : List ScriptLine) (rs : List Record) → AllByRecursion (λ (r : Record). by r.worker ≡ false) rs → offers by m ls rs ≡ 0
offers_none by m [] rs none = refl
offers_none by m (l ∷ ls) [] none = refl
offers_none by m (l ∷ ls) (r ∷ rs) none =
    let more = offers_none by m ls rs none.1 in
    let one : cond (by r.worker) (offer_of m l) 0 ≡ 0 = rw none.0 refl in
    omega (arith, one, more)

offers_within : (by : ℕ → Bool) (m start : ℕ) (ls : List ScriptLine) (rs : List Record) → 1 ≤ offers by m ls rs → m ≤ moment_after start ls
offers_within by m start [] rs h = absurd (omega arith)
offers_within by m start (l ∷ ls) [] h = absurd (omega arith)
offers_within by m start (l ∷ ls) (r ∷ rs) h = pick (none_or_some (cond (by r.worker) (offer_of m l) 0)) (λ s. offers_within by m start ls rs s)
  where
    mine : (t : Bool) → 1 ≤ cond t (offer_of m l) 0 → 1 ≤ offer_of m l
    mine true s = s
    mine false s = absurd (omega arith)

    pick : (cond (by r.worker) (offer_of m l) 0 ≡ 0) ⊎ (1 ≤ cond (by r.worker) (offer_of m l) 0) → (1 ≤ offers by m ls rs → m ≤ moment_after start ls)
        → m ≤ moment_after start (l ∷ ls)
    pick (inl z) rest = let more = rest (omega (arith, z, h)) in omega (arith, more)
    pick (inr s) rest = let t = offer_is_tick m l (mine (by r.worker) s) in omega (arith, t)

above_of : (earlier : List Record) (r : Record) (o : Outcome) → is_installed o ≡ true → IsAbove earlier r o
    → AllByRecursion (λ (e : Record). e.worker ≡ r.worker → e.version < r.version) earlier
above_of earlier r outcome.Installed is a = a
above_of earlier r (outcome.Checked answer) is a = absurd (true≢false (sym is))
above_of earlier r (outcome.Full live held wanted) is a = absurd (true≢false (sym is))
above_of earlier r (outcome.Spent claims wanted) is a = absurd (true≢false (sym is))
above_of earlier r (outcome.VersionsFull n) is a = absurd (true≢false (sym is))
above_of earlier r (outcome.Ticked shown) is a = absurd (true≢false (sym is))
above_of earlier r (outcome.Bad shown) is a = absurd (true≢false (sym is))

module _ (start : ℕ) (lines : List ScriptLine) (records : List Record) (long : length records ≡ length lines) (one : AllByRecursion (λ (r : Record). r.worker ≡ 0) records) where
  same_worker : (j i : ℕ) (e r : Record) → get_elem? records j ≡ some e → get_elem? records i ≡ some r → e.worker ≡ r.worker
  same_worker j i e r ej ei = at_each (λ (x : Record). x.worker ≡ 0) records j e ej one ∙ sym (at_each (λ (x : Record). x.worker ≡ 0) records i r ei one)

  line_here : (i : ℕ) (r : Record) → get_elem? records i ≡ some r → (l : ScriptLine) × (get_elem? lines i ≡ some l)
  line_here i r e = let n = below records i r e in here lines i (omega (arith, n, long))

  -- what never falls along the records of the one worker never falls
  in_order : (number : Record → ℕ) → EachLine lines records (λ before earlier l r. IsAtLeastEarlier number earlier r) → (j i : ℕ) (e r : Record) → j ≤ i
      → get_elem? records j ≡ some e
      → get_elem? records i ≡ some r → number e ≤ number r
  in_order number never j i e r le ej ei = pick (dec_le i j)
    where
      pick : Dec (i ≤ j) → number e ≤ number r
      pick (yes ge) =
          let at : j ≡ i = omega arith in
          let same = ap number (some-injective e r (sym ej ∙ ap (get_elem? records) at ∙ ei)) in
          omega (arith, same)
      pick (no n) =
          let l = line_here i r ei in
          at_each (λ (x : Record). x.worker ≡ r.worker → number x ≤ number r) (take i records) j e (front_at records i j e ej (omega arith))
          (never i l.0 r (of_elem lines i l.0 l.1) (of_elem records i r ei)) (same_worker j i e r ej ei)

  module _ (never : VersionsNeverFall lines records) (numbered : VersionsNumbered lines records)
      (once : (v : ℕ) → IsOwnedOnce 1 (installs records + 1) v (installed_as v records)) where
    -- a record is by the version that was installed last
    by_version : (i : ℕ) (r : Record) → get_elem? records i ≡ some r → r.version ≡ installs (take (suc i) records)
    by_version i r e =
        let f : Record → ℕ = λ (x : Record). one_if (is_installed x.outcome) in
        let c = sum_total f (take (suc i) records) in
        let s = sum_split f (λ (x : Record). one_if (is_installed x.outcome && nat_lt x.version (suc r.version))) (suc i) records front back in
        let known = at_each (λ (x : Record). x.version ≤ installs records) records i r e numbered.known in
        let o = owned_below records (installs records + 1) once (suc r.version) (omega arith) (omega (arith, known)) in
        omega (arith, c, s, o)
      where
        front : (j : ℕ) (x : Record) → get_elem? records j ≡ some x → j < suc i
            → one_if (is_installed x.outcome) ≡ one_if (is_installed x.outcome && nat_lt x.version (suc r.version))
        front j x at lt = by (is_installed x.outcome)
          where
            low : nat_lt x.version (suc r.version) ≡ true
            low = let le = in_order (λ (s : Record). s.version) never j i x r (omega arith) at e in lt-ltb x.version (suc r.version) (omega (arith, le))

            by : (t : Bool) → one_if t ≡ one_if (t && nat_lt x.version (suc r.version))
            by true = rw low refl
            by false = refl

        back : (j : ℕ) (x : Record) → get_elem? records j ≡ some x → suc i ≤ j → one_if (is_installed x.outcome && nat_lt x.version (suc r.version)) ≡ 0
        back j x at le = by (is_installed x.outcome) refl
          where
            high : is_installed x.outcome ≡ true → nat_lt x.version (suc r.version) ≡ false
            high is =
                let l = line_here j x at in
                let above = above_of (take j records) x x.outcome is (numbered.above j l.0 x (of_elem lines j l.0 l.1) (of_elem records j x at)) in
                let lt = at_each (λ (y : Record). y.worker ≡ x.worker → y.version < x.version) (take j records) i r (front_at records j i r e (omega arith)) above
                (same_worker i j r x e at) in
                le-ltb x.version (suc r.version) (omega (arith, lt))

            by : (t : Bool) → is_installed x.outcome ≡ t → one_if (t && nat_lt x.version (suc r.version)) ≡ 0
            by true is = let no = high is in rw no refl
            by false is = refl

  module _ (moments : MomentsNeverFall start lines records) where
    -- its moment is the greatest of the start and the ticks up to its line
    at_moment : (i : ℕ) (l : ScriptLine) (r : Record) → get_elem? lines i ≡ some l → get_elem? records i ≡ some r → r.moment ≡ moment_after start (take i lines ++ l ∷ [])
    at_moment i l r el er = let a = top timely.source in let c = bottom in omega (arith, a, c)
      where
        timely : IsTimely start lines records (take i lines) (take i records) l r
        timely = moments.timely i l r (of_elem lines i l el) (of_elem records i r er)

        none : AllByRecursion (λ (x : Record). not (x.worker == r.worker) ≡ false) records
        none = all_of_each (λ (x : Record). not (x.worker == r.worker) ≡ false) records
            (λ j x at. let same = eq-eqb x.worker r.worker (same_worker j i x r at er) in rw same refl)

        top : (r.moment ≡ start) ⊎ ((1 ≤ offers (λ w. not (w == r.worker)) r.moment lines records)
            ⊎ (1 ≤ offers (λ w. w == r.worker) r.moment (take i lines ++ l ∷ []) (take i records ++ r ∷ []))) → r.moment ≤ moment_after start (take i lines ++ l ∷ [])
        top (inl e) = let s = start_least start (take i lines ++ l ∷ []) in omega (arith, e, s)
        top (inr (inl o)) = let z = offers_none (λ w. not (w == r.worker)) r.moment lines records none in absurd (omega (arith, o, z))
        top (inr (inr o)) = offers_within (λ w. w == r.worker) r.moment start (take i lines ++ l ∷ []) (take i records ++ r ∷ []) o

        each : (k : ℕ) (m : ScriptLine) → get_elem? (take (suc i) lines) k ≡ some m → tick_of m ≤ r.moment
        each k m e =
            let t = take_at lines (suc i) k m e in
            let n = below lines k m t.0 in
            let x = here records k (omega (arith, n, long)) in
            let least = (moments.timely k m x.0 (of_elem lines k m t.0) (of_elem records k x.0 x.1)).ticked in
            let lt = t.1 in
            let rise = in_order (λ (s : Record). s.moment) moments.never_fall k i x.0 r (omega (arith, lt)) x.1 er in
            omega (arith, least, rise)

        bottom : moment_after start (take i lines ++ l ∷ []) ≤ r.moment
        bottom = subst (λ (x : List ScriptLine). moment_after start x ≤ r.moment) (sym (take_next lines i l el)) (all_ticks start r.moment (take (suc i) lines) timely.least each)

-- what a line counts in its turn
in_its_turn : (configs : ℕ → List DomainTree) (before : List ScriptLine) (earlier : List Record) (r : Record) (l : ScriptLine) (o : Outcome)
    → Counts (configs r.version) (ledger_of before earlier) l r.moment o → (is_installed o ≡ true → installs earlier + 1 < MOST_VERSIONS) → IsFullAt o (installs earlier)
    → IsCountedInTurn configs before earlier l r o
in_its_turn configs before earlier r (check request) (outcome.Checked answer) counts few full = counts
in_its_turn configs before earlier r (reload config) outcome.Installed counts few full = few refl
in_its_turn configs before earlier r (reload config) (outcome.VersionsFull n) counts few full = full
in_its_turn configs before earlier r (check request) o counts few full = tt
in_its_turn configs before earlier r (reload config) o counts few full = tt
in_its_turn configs before earlier r (tick now) o counts few full = tt
in_its_turn configs before earlier r (bad refused) o counts few full = tt

all_one : (workers : ℕ) (lines : List ScriptLine) (records : List Record) → workers ≡ 1 → OneRecordPerLine workers lines records
    → AllByRecursion (λ (r : Record). r.worker ≡ 0) records
all_one workers lines records is o =
    all_of_each (λ (r : Record). r.worker ≡ 0) records
    (λ i r e.
    let n = below records i r e in
    let l = here lines i (omega (arith, n, o.as_many)) in
    let w = (o.each i l.0 r (of_elem lines i l.0 l.1) (of_elem records i r e)).by_worker in
    omega (arith, w, is))

module _ (configs : ℕ → List DomainTree) (workers start : ℕ) (global_shadow : Bool) (lines : List ScriptLine) (records : List Record)
    (each_one : OneRecordPerLine workers lines records)
    (never : VersionsNeverFall lines records) (numbered : VersionsNumbered lines records) (once : (v : ℕ) → IsOwnedOnce 1 (installs records + 1) v (installed_as v records))
    (full : (i : ℕ) (r : Record) → get_elem? records i ≡ some r → IsFullAt r.outcome r.version) (rule : RepliesByRule configs global_shadow lines records)
    (moments : MomentsNeverFall start lines records) (ledger : ChargesFormLedger lines records) (seen : SightsLawful lines records) (fair : ValuesNeverFall lines records) where
  -- with one worker each line is the next one
  pub counted_with_one_worker : CountedWithOneWorker configs workers start lines records
  counted_with_one_worker is i l r el er = record {
    by_version = version ∙ ap installs (sym (take_next records i r at));
    at = at_moment start lines records each_one.as_many ones moments i l r (to_elem lines i l el) at;
    counted = in_its_turn configs (take i lines) (take i records) r l r.outcome (counts_at lines records ones fair ledger seen configs global_shadow rule i l r el er) few
        (its_full r.outcome refl (full i r at));
  }
    where
      at : get_elem? records i ≡ some r
      at = to_elem records i r er

      ones : AllByRecursion (λ (x : Record). x.worker ≡ 0) records
      ones = all_one workers lines records is each_one

      version : r.version ≡ installs (take (suc i) records)
      version = by_version start lines records each_one.as_many ones never numbered once i r at

      pushed : r.version ≡ installs (take i records) + one_if (is_installed r.outcome)
      pushed = version ∙ ap installs (sym (take_next records i r at)) ∙ installs_push (take i records) r

      few : is_installed r.outcome ≡ true → installs (take i records) + 1 < MOST_VERSIONS
      few e =
          let one = ap one_if e in
          let known = at_each (λ (x : Record). x.version ≤ installs records) records i r at numbered.known in
          let f = numbered.few in
          omega (arith, pushed, one, known, f)

      its_full : (o : Outcome) → r.outcome ≡ o → IsFullAt o r.version → IsFullAt o (installs (take i records))
      its_full (outcome.VersionsFull n) e f = let z = ap (λ (x : Outcome). one_if (is_installed x)) e in omega (arith, pushed, z, f)
      its_full outcome.Installed e f = tt
      its_full (outcome.Checked answer) e f = tt
      its_full (outcome.Full live held wanted) e f = tt
      its_full (outcome.Spent claims wanted) e f = tt
      its_full (outcome.Ticked shown) e f = tt
      its_full (outcome.Bad shown) e f = tt
