-- Records are found again in the values that show them.
use Rattle.std.proofs.Common.{◌≡◌, ℕ, ◌^◌, ◌<◌, ◌≤◌, List, [], length, map, Bool, true, false, cond, Some, refl, ap, ap₂, ◌∙◌, le-ltb}
use Rattle.std.specs.List.{AllByRecursion}
use Rattle.rate_types.specs.declared.limits.TheConstants.{MOST_DESCRIPTORS, LATEST_MOMENT}
use Rattle.rls_core.specs.declared.status.Status.{Status}
use Rattle.reply_text.specs.Answer.{Answer}
use Rattle.reply_text.specs.Shown.{Shown}
use Rattle.reply_text.specs.declared.record.Outcome.{Outcome}
use Rattle.reply_text.specs.declared.record.Outcome.TheVariants.{Checked, Ticked, Installed, Bad, Full, Spent, VersionsFull}
use Rattle.reply_text.specs.Texts.{code_name, overall_code, status_data, count_data, counts_data, reply_data, refused_data, full_data, spent_data, versions_full_data}
use Rattle.reply_text.specs.Texts.{checked_line_data, ticked_line_data, installed_line_data, refused_line_data, outcome_data, record_data}
use Rattle.run_text.specs.Found.{is_over, statuses_in, if_few, answer_in, outcome_in, record_in}
use Rattle.run_text.specs.Said.{IsSaidStatus, IsSaidOutcome, IsSaid}
use Rattle.run_text.proofs.Numbers.{whole_back, u32_back, moment_back}
use Rattle.run_text.proofs.Lists.{listed_back}
use Rattle.run_text.proofs.StatusesBack.{statuses_back}

over_back : (over : Bool) → is_over (code_name (overall_code over)) ≡ over
over_back true = refl
over_back false = refl

few_back : (ss : List Status) → length ss ≤ MOST_DESCRIPTORS → if_few ss ≡ ss
few_back ss h = ap (λ b. cond b [] ss) (le-ltb MOST_DESCRIPTORS (length ss) h)

same_answer : (a b : Bool) (ss ts : List Status) → a ≡ b → ss ≡ ts
    → (let x : Answer = record { over = a; statuses = ss } in x) ≡ (let x : Answer = record { over = b; statuses = ts } in x)
same_answer a b ss ts e f = ap₂ (λ (c : Bool) (us : List Status). let x : Answer = record { over = c; statuses = us } in x) e f

answer_back : (answer : Answer) → length answer.statuses ≤ MOST_DESCRIPTORS → AllByRecursion IsSaidStatus answer.statuses
    → answer_in (Some (counts_data answer.statuses)) (Some (reply_data answer)) ≡ answer
unfolding answer_in counts_data reply_data
answer_back answer few all =
    same_answer _ answer.over _ answer.statuses (over_back answer.over)
    (ap if_few (ap₂ statuses_in (listed_back (map (λ s. count_data s.count) answer.statuses)) (listed_back (map status_data answer.statuses))
    ∙ statuses_back answer.statuses all) ∙ few_back answer.statuses few)

same_record : (a b c d e f g h : ℕ) (o p : Outcome) → a ≡ b → c ≡ d → e ≡ f → g ≡ h → o ≡ p
    → (let x : Shown = record { line = a; worker = c; version = e; moment = g; outcome = o } in x)
    ≡ (let x : Shown = record { line = b; worker = d; version = f; moment = h; outcome = p } in x)
same_record a b c d e f g h o p i j k l m = rw (i, j, k, l, m) refl

outcome_back : (line moment version worker : ℕ) (o : Outcome) → line < 2 ^ 32 → worker < 2 ^ 32 → version < 2 ^ 32 → moment ≤ LATEST_MOMENT
    → IsSaidOutcome o
    → record_in (outcome_data line moment version worker o)
    ≡ (let x : Shown = record { line = line; worker = worker; version = version; moment = moment; outcome = o } in x)
unfolding record_in outcome_in checked_line_data ticked_line_data installed_line_data refused_line_data refused_data full_data spent_data versions_full_data
outcome_back line moment version worker (Checked answer) l w v m h =
    same_record _ line _ worker _ version _ moment _ (Checked answer) (u32_back line l) (u32_back worker w) (u32_back version v)
    (moment_back moment m) (ap Checked (answer_back answer h.0 h.1))
outcome_back line moment version worker (Ticked ticked) l w v m h =
    same_record _ line _ worker _ version _ moment _ (Ticked ticked) (u32_back line l) (u32_back worker w) (u32_back version v)
    (moment_back moment m) (ap Ticked (moment_back ticked h))
outcome_back line moment version worker Installed l w v m h =
    same_record _ line _ worker _ version _ moment _ Installed (u32_back line l) (u32_back worker w) (u32_back version v)
    (moment_back moment m) refl
outcome_back line moment version worker (Bad refused) l w v m h =
    same_record _ line _ worker _ version _ moment _ (Bad refused) (u32_back line l) (u32_back worker w) (u32_back version v)
    (moment_back moment m) (ap (λ n. Bad (record { at = refused.at; number = n })) (u32_back refused.number h.1))
outcome_back line moment version worker (Full live held wanted) l w v m h =
    same_record _ line _ worker _ version _ moment _ (Full live held wanted) (u32_back line l) (u32_back worker w) (u32_back version v)
    (moment_back moment m) (rw (u32_back live h.0, u32_back held h.1, u32_back wanted h.2) refl)
outcome_back line moment version worker (Spent claims wanted) l w v m h =
    same_record _ line _ worker _ version _ moment _ (Spent claims wanted) (u32_back line l) (u32_back worker w) (u32_back version v)
    (moment_back moment m) (ap₂ Spent (whole_back claims h.0) (u32_back wanted h.1))
outcome_back line moment version worker (VersionsFull versions) l w v m h =
    same_record _ line _ worker _ version _ moment _ (VersionsFull versions) (u32_back line l) (u32_back worker w) (u32_back version v)
    (moment_back moment m) (ap VersionsFull (u32_back versions h))

pub record_back : (r : Shown) → IsSaid r → record_in (record_data r) ≡ r
unfolding record_data
record_back r h = outcome_back r.line r.moment r.version r.worker r.outcome h.line h.worker h.version h.moment h.outcome
