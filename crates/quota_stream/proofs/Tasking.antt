-- A replay as a task: what each line of it leaves, and what it answers.
use Rattle.std.proofs.Common.{◌≡◌, ℕ, suc, ◌+◌, ◌<◌, ◌≤◌, true, false, List, [], ◌∷◌, ◌++◌, length, Option, Some, None, Ok, Err, refl, sym, ap, subst, ◌∙◌}
use Rattle.std.proofs.Common.{append_assoc, append-nil, arith, inr}
use Rattle.std.specs.List.{concat}
use Rattle.std.proofs.lemmas.List.Folds.{concat-append}
use Rattle.rate_types.specs.declared.limits.TheConstants.{MOST_LINES}
use Rattle.quota_stream.specs.Outcomes.{outcome_of}
use Rattle.text_lines.specs.Lines.{cut}
use Rattle.quota_stream.specs.Output.{outputs}
use Rattle.quota_stream.specs.Tasks.{Task, text_in_all, lines_in_all, IsOnWay, StandsBy, Stands, GoesOn, IsAnswer, IsFaultOf, is_ended}
use Rattle.quota_stream.specs.declared.line_number.LineNumber.{LineNumber}
use Rattle.quota_stream.specs.declared.replay_fault.ReplayFault.{ReplayFault}
use Rattle.quota_stream.specs.declared.replay_fault.ReplayFault.TheVariants.{TooLong}
use Rattle.text_lines.proofs.Cutting.{cut_some}

-- the number of the next line
abbrev pub next_number : Task → LineNumber
next_number t = record { stream = t.index; line = t.lines + 1 }

-- a task after its next line
pub record IsNext (t u : Task) (first : List ℕ) : Type 0 where
  pub before : t.fault ≡ None
  pub after : u.fault ≡ None
  pub index : u.index ≡ t.index
  pub lines : u.lines ≡ t.lines + 1
  pub left : cut t.left ≡ first ∷ cut u.left
  pub stream : u.stream ≡ (outcome_of (next_number t) first t.stream).stream
  pub text : u.text ≡ t.text ++ concat (outcome_of (next_number t) first t.stream).written

same_text : (t u : Task) (first : List ℕ) → IsNext t u first → text_in_all u ≡ text_in_all t
same_text t u first is =
    let o = outcome_of (next_number t) first t.stream in
    let rest = outputs t.index (t.lines + 1) o.stream (cut u.left) in
    let here : text_in_all u ≡ (t.text ++ concat o.written) ++ concat rest = rw (is.index, is.lines, is.stream, is.text) refl in
    let there : text_in_all t ≡ t.text ++ (concat o.written ++ concat rest) = rw (is.left, concat-append o.written rest) refl in
    here ∙ append_assoc t.text (concat o.written) (concat rest) ∙ sym there

same_lines : (t u : Task) (first : List ℕ) → IsNext t u first → lines_in_all u ≡ lines_in_all t
same_lines t u first is = let longer : length (cut t.left) ≡ suc (length (cut u.left)) = ap length is.left in omega (arith, is.lines, longer)

pub task_goes_on : (t u : Task) (first : List ℕ) → IsNext t u first → GoesOn t u
task_goes_on t u first is whole bytes stands =
    let on : IsOnWay whole bytes t = subst (StandsBy whole bytes t) is.before stands in
    let next : IsOnWay whole bytes u = record {
      text = same_text t u first is ∙ on.text;
      lines = same_lines t u first is ∙ on.lines;
      few_bytes = on.few_bytes;
    } in
    subst (StandsBy whole bytes u) (sym is.after) next

-- the number of lines is reached, and one more is left
pub too_many : (t : Task) (read : ℕ) → t.fault ≡ None → 0 < length t.left → MOST_LINES ≤ t.lines → read ≡ t.lines + 1
    → (whole bytes : List ℕ) → Stands whole bytes t → IsFaultOf bytes (TooLong read)
too_many t read fault more many is whole bytes stands =
    let on : IsOnWay whole bytes t = subst (StandsBy whole bytes t) fault stands in
    inr (on.few_bytes, omega (arith, many, is), omega (arith, is, on.lines, cut_some t.left more))

-- a task that isn't ended has no fault, and a line is left
pub not_ended : (t : Task) → is_ended t ≡ false → (t.fault ≡ None) × (0 < length t.left)
not_ended t is = by t.fault t.left is
  where
    by : (o : Option ReplayFault) (left : List ℕ) → is_ended (record t { fault = o; left = left }) ≡ false → (o ≡ None) × (0 < length left)
    by (Some fault) left ended = absurd (cc)
    by None [] ended = absurd (cc)
    by None (b ∷ bs) ended = (refl, omega arith)

-- one that ended without a fault has no line left
pub ended_none : (t : Task) → t.fault ≡ None → is_ended t ≡ true → t.left ≡ []
ended_none t none is = by t.fault t.left none is
  where
    by : (o : Option ReplayFault) (left : List ℕ) → o ≡ None → is_ended (record t { fault = o; left = left }) ≡ true → left ≡ []
    by (Some fault) left none ended = absurd (cc)
    by None [] none ended = refl
    by None (b ∷ bs) none ended = absurd (cc)

-- its text is the whole output
pub answer_text : (t : Task) (text : List ℕ) → t.fault ≡ None → is_ended t ≡ true → t.lines ≤ MOST_LINES → text ≡ t.text
    → (whole bytes : List ℕ) → Stands whole bytes t → IsAnswer whole bytes (Ok text)
answer_text t text fault ended few is whole bytes stands =
    let on : IsOnWay whole bytes t = subst (StandsBy whole bytes t) fault stands in
    let none : t.left ≡ [] = ended_none t fault ended in
    let all : text_in_all t ≡ t.text = rw none (append-nil t.text) in
    let lines : lines_in_all t ≡ t.lines + 0 = rw none refl in
    (is ∙ sym all ∙ on.text, record { few_bytes = on.few_bytes; few_lines = omega (arith, lines, on.lines, few) })

-- one that ended by a fault answers it
pub answer_fault : (t : Task) (fault : ReplayFault) → t.fault ≡ Some fault → (whole bytes : List ℕ) → Stands whole bytes t
    → IsAnswer whole bytes (Err fault)
answer_fault t fault is whole bytes stands = subst (StandsBy whole bytes t) is stands

-- a fault that says so of each stream that the task stands for
pub stopped : (t u : Task) (fault : ReplayFault) → u.fault ≡ Some fault
    → ((whole bytes : List ℕ) → Stands whole bytes t → IsFaultOf bytes fault) → GoesOn t u
stopped t u fault is says whole bytes stands = subst (StandsBy whole bytes u) (sym is) (says whole bytes stands)
