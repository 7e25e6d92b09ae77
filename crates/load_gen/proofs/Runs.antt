-- Each lawful run of a load has its summary.
use Rattle.std.proofs.Common.{◌≡◌, ℕ, zero, suc, ◌+◌, ◌-◌, ◌*◌, ◌≤◌, ◌<◌, ◌==◌, not, List, [], ◌∷◌}
use Rattle.std.proofs.Common.{◌++◌, length, take, Bool, true, false, min, ⊎_elim, Some, refl, ap, ◌∙◌, arith, length-append}
use Rattle.std.specs.Prelude.{slice_get, count_by, if◌then◌else◌, ⊤}
use Rattle.std.specs.List.{AllByRecursion}
use Rattle.std.proofs.lemmas.List.{length-map}
use Rattle.std.proofs.lemmas.Option.{same_Some, none-some}
use Rattle.rate_types.specs.Sums.{times}
use Rattle.rate_types.specs.declared.limits.TheConstants.{MOST_PINS}
use Rattle.descriptor_tree.specs.Trees.{DomainTree}
use Rattle.reply_text.specs.declared.record.Record.{Record}
use Rattle.reply_text.specs.declared.record.Outcome.{Outcome}
use Rattle.reply_text.specs.declared.record.Outcome.TheVariants as outcome
use Rattle.script_run.specs.ScriptLine.{ScriptLine, check, reload, tick, bad}
use Rattle.script_run.specs.Kinds.{IsOfKind}
use Rattle.script_run.specs.Moments.{offers}
use Rattle.script_run.specs.Replies.{IsByRule}
use Rattle.script_run.specs.Refusals.{HasRefusalCause}
use Rattle.script_run.specs.Run.{IsRun}
use Rattle.script_run.specs.Versions.{version_in}
use Rattle.load_gen.specs.Load.{load_config, load_lines, request_for, checks_for, values_of, value_at}
use Rattle.script_run.specs.Answers.{is_admitted, is_denied}
use Rattle.load_gen.specs.Summary.{counted, admitted_of, load_counts, counts_line, IsSameForEachRun}
use Rattle.load_gen.specs.declared.constants.TheConstants.{VALUES, LIMIT}
use Rattle.load_gen.specs.declared.counts.CheckCounts.{CheckCounts}
use Rattle.load_gen.proofs.Answering.{IsAnswered, answered}
use Rattle.load_gen.proofs.Checks.{AreAnswered, admitted_sum, either_code, admits_of}
use Rattle.load_gen.proofs.Rooms.{AreAtStart, not_full}
use Rattle.load_gen.proofs.Sums.{sum_same}

-- ---- lists of values

pub values_length : (number checks : ℕ) → length (values_of number checks) ≡ checks
unfolding values_of
values_length number zero = refl
values_length number (suc checks) =
    let so_far = values_length number checks in
    let all = length-append (values_of number checks) (value_at number checks ∷ []) in
    omega (arith, so_far, all)

pub lines_length : (number checks : ℕ) → length (load_lines number checks) ≡ checks
lines_length number checks = length-map (values_of number checks) (λ value. check (request_for value)) ∙ values_length number checks

all_push : (P : ℕ → Type 0) (xs : List ℕ) (x : ℕ) → AllByRecursion P xs → P x → AllByRecursion P (xs ++ x ∷ [])
all_push P [] x all p = (p, tt)
all_push P (y ∷ ys) x all p = (all.0, all_push P ys x all.1 p)

pub values_low : (number checks : ℕ) → AllByRecursion (λ v. v < VALUES) (values_of number checks)
unfolding values_of
values_low number zero = tt
values_low number (suc checks) =
    all_push (λ v. v < VALUES) (values_of number checks) (value_at number checks) (values_low number checks) (omega arith)

line_at : (vs : List ℕ) (i v : ℕ) → slice_get vs i ≡ Some v → slice_get (checks_for vs) i ≡ Some (check (request_for v))
line_at [] i v e = absurd (none-some v e)
line_at (w ∷ vs) zero v e = ap (λ (x : ℕ). Some (check (request_for x))) (same_Some w v e)
line_at (w ∷ vs) (suc i) v e = line_at vs i v e

-- ---- lines that are checks offer nothing, and install nothing

abbrev IsCheck : ScriptLine → Type 0
IsCheck (check request) = ⊤
IsCheck other = ⊥

none_offered : (by : ℕ → Bool) (moment : ℕ) (ls : List ScriptLine) (rs : List Record) → AllByRecursion IsCheck ls → offers by moment ls rs ≡ 0
none_offered by moment [] rs all = refl
none_offered by moment (check request ∷ ls) [] all = refl
none_offered by moment (check request ∷ ls) (r ∷ rs) all =
    let rest = none_offered by moment ls rs all.1 in pick (by r.worker) rest
  where
    pick : (b : Bool) → offers by moment ls rs ≡ 0 → (if b then 0 else 0) + offers by moment ls rs ≡ 0
    pick true e = omega (arith, e)
    pick false e = omega (arith, e)
none_offered by moment (reload config ∷ ls) rs all = absurd all.0
none_offered by moment (tick now ∷ ls) rs all = absurd all.0
none_offered by moment (bad refused ∷ ls) rs all = absurd all.0

are_checks : (vs : List ℕ) → AllByRecursion IsCheck (checks_for vs)
are_checks [] = tt
are_checks (v ∷ vs) = (tt, are_checks vs)

front_checks : (i : ℕ) (vs : List ℕ) (v : ℕ) → AllByRecursion IsCheck (take i (checks_for vs) ++ check (request_for v) ∷ [])
front_checks zero vs v = (tt, tt)
front_checks (suc i) [] v = (tt, tt)
front_checks (suc i) (w ∷ vs) v = (tt, front_checks i vs v)

one_version : (vs : List ℕ) (rs : List Record) (n : ℕ) → version_in load_config (checks_for vs) rs n ≡ load_config
one_version [] rs n = refl
one_version (v ∷ vs) [] n = refl
one_version (v ∷ vs) (r ∷ rs) n = one_version vs rs n

-- ---- facts of each value and its record

module _ (F : ℕ → Record → Type 0) where
  abbrev Both : List ℕ → List Record → Type 0
  Both [] [] = Unit {0}
  Both (v ∷ vs) (r ∷ rs) = (v < VALUES) × F v r × Both vs rs
  Both vs rs = ⊥

  both : (vs : List ℕ) (rs : List Record) → length rs ≡ length vs → AllByRecursion (λ v. v < VALUES) vs
      → ((i v : ℕ) (r : Record) → slice_get vs i ≡ Some v → slice_get rs i ≡ Some r → v < VALUES → F v r) → Both vs rs
  both [] [] same low each = tt
  both [] (r ∷ rs) same low each = absurd (omega arith)
  both (v ∷ vs) [] same low each = absurd (omega arith)
  both (v ∷ vs) (r ∷ rs) same low each =
      (low.0, each 0 v r refl refl low.0, both vs rs (omega arith) low.1 (λ i w s at there small. each (suc i) w s at there small))

at_start : (vs : List ℕ) (rs : List Record) → Both (λ v r. r.moment ≡ 0) vs rs → AreAtStart vs rs
at_start [] [] h = tt
at_start [] (r ∷ rs) h = absurd h
at_start (v ∷ vs) [] h = absurd h
at_start (v ∷ vs) (r ∷ rs) h = (h.0, h.1, at_start vs rs h.2)

are_answered : (vs : List ℕ) (rs : List Record) → Both (λ v r. IsAnswered v r.moment r.outcome) vs rs → AreAnswered vs rs
are_answered [] [] h = tt
are_answered [] (r ∷ rs) h = absurd h
are_answered (v ∷ vs) [] h = absurd h
are_answered (v ∷ vs) (r ∷ rs) h = (h.0, h.1, are_answered vs rs h.2)

module _ (workers cells : ℕ) (room : VALUES + MOST_PINS * (workers - 1) ≤ cells) (vs : List ℕ) (low : AllByRecursion (λ v. v < VALUES) vs)
    (rs : List Record) (run : IsRun load_config workers cells 0 false (checks_for vs) rs) where
  as_many : length rs ≡ length vs
  as_many = run.one_record_per_line.as_many ∙ length-map vs (λ value. check (request_for value))

  -- each check is made at the start
  moment_is : (i v : ℕ) (r : Record) → slice_get vs i ≡ Some v → slice_get rs i ≡ Some r → v < VALUES → r.moment ≡ 0
  moment_is i v r at there small =
      let t = run.moments_never_fall.timely i (check (request_for v)) r (line_at vs i v at) there in
      let others = none_offered (λ w. not (w == r.worker)) r.moment (checks_for vs) rs (are_checks vs) in
      let own = none_offered (λ w. w == r.worker) r.moment (take i (checks_for vs) ++ check (request_for v) ∷ []) (take i rs ++ r ∷ []) (front_checks i vs v) in
      ⊎_elim (λ e. e) (λ o. ⊎_elim (λ a. absurd (omega (arith, a, others))) (λ b. absurd (omega (arith, b, own))) o) t.source

  starts : AreAtStart vs rs
  starts = at_start vs rs (both (λ v r. r.moment ≡ 0) vs rs as_many low moment_is)

  abbrev configs : ℕ → List DomainTree
  configs = version_in load_config (checks_for vs) rs

  -- and is answered
  answer_is : (i v : ℕ) (r : Record) → slice_get vs i ≡ Some v → slice_get rs i ≡ Some r → v < VALUES → IsAnswered v r.moment r.outcome
  answer_is i v r at there small =
      let line = line_at vs i v at in
      let kind = run.one_record_per_line.each i (check (request_for v)) r line there in
      let rule = run.replies_by_rule i (check (request_for v)) r line there in
      let cause = run.refusals_have_causes i (check (request_for v)) r line there in
      by r.outcome kind.kind rule cause
    where
      by : (o : Outcome) → IsOfKind (check (request_for v)) o → IsByRule (configs r.version) false (check (request_for v)) r.moment o
          → HasRefusalCause configs workers cells (checks_for vs) rs (take i (checks_for vs)) (take i rs) (check (request_for v)) r o
          → IsAnswered v r.moment o
      by (outcome.Checked answer) kind rule cause =
          answered v r.moment (configs r.version) answer (moment_is i v r at there small) (one_version vs rs r.version) rule
      by (outcome.Full live held wanted) kind rule cause =
          absurd (not_full configs (one_version vs rs) workers cells vs rs (take i (checks_for vs)) (take i rs) v r live held wanted room starts cause)
      by (outcome.Spent claims wanted) kind rule cause = absurd cause
      by (outcome.Ticked now) kind rule cause = absurd kind
      by outcome.Installed kind rule cause = absurd kind
      by (outcome.Bad refused) kind rule cause = absurd kind
      by (outcome.VersionsFull versions) kind rule cause = absurd kind

  all_answered : AreAnswered vs rs
  all_answered = are_answered vs rs (both (λ v r. IsAnswered v r.moment r.outcome) vs rs as_many low answer_is)

  -- each counter admits the smaller of its checks and its limit
  pub admitted_are : count_by (λ r. is_admitted r.outcome) rs ≡ admitted_of vs
  admitted_are =
      admitted_sum vs rs all_answered
      ∙ sum_same VALUES _ (λ a. min (times a vs) LIMIT)
      (λ a small. admits_of a small vs rs all_answered run.charges_form_ledger run.limits_hold run.sights_lawful)

  pub all_counted : count_by (λ r. is_admitted r.outcome) rs + count_by (λ r. is_denied r.outcome) rs ≡ length vs
  all_counted = either_code vs rs all_answered

-- counts are three numbers
same_counts : (c : CheckCounts) (admitted checks denied : ℕ) → c.admitted ≡ admitted → c.checks ≡ checks → c.denied ≡ denied
    → c ≡ record { admitted = admitted; checks = checks; denied = denied }
same_counts c admitted checks denied p q r = λ i. record { admitted = p i; checks = q i; denied = r i }

-- The counts of the records of a lawful run of a load are those of the load.
counts_are : (records : List Record) (number checks workers cells : ℕ) → VALUES + MOST_PINS * (workers - 1) ≤ cells
    → IsRun load_config workers cells 0 false (load_lines number checks) records → counted records ≡ load_counts number checks
counts_are records number checks workers cells room run =
    let low = values_low number checks in
    let many = values_length number checks in
    let admitted = admitted_are workers cells room (values_of number checks) low records run in
    let all = all_counted workers cells room (values_of number checks) low records run in
    same_counts (counted records) (admitted_of (values_of number checks)) checks (checks - admitted_of (values_of number checks))
    admitted (omega (arith, all, many)) (omega (arith, all, many, admitted))

-- so they have one text
pub same_for_each_run : (records : List Record) (text : List ℕ) → text ≡ counts_line (counted records) → IsSameForEachRun records text
same_for_each_run records text is number checks workers cells room run =
    is ∙ ap counts_line (counts_are records number checks workers cells room run)
