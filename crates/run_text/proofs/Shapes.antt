-- The values of records are plain and shallow.
use Rattle.std.proofs.Common.{ℕ, ◌^◌, ◌<◌, ◌≤◌, ◌==◌, List, [], ◌∷◌, map, Bool, true, false, Option, Some, None, refl, arith}
use Rattle.std.specs.Prelude.{codes}
use Rattle.std.specs.List.{AllByRecursion}
use Rattle.serde_json.specs.Data.{Data, string, object, no_members, member, depth, items_depth}
use Rattle.serde_json.specs.View.{items_of}
use Rattle.rate_types.specs.declared.limits.TheConstants.{LATEST_MOMENT}
use Rattle.rate_types.specs.declared.unit.Unit.{Unit}
use Rattle.rate_types.specs.declared.request.OwnLimit.{OwnLimit}
use Rattle.rate_types.specs.UnitNames.{unit_name}
use Rattle.rls_core.specs.declared.status.Code.{Code}
use Rattle.rls_core.specs.declared.status.Count.{Count}
use Rattle.rls_core.specs.declared.status.Count.TheVariants.{NoCount, Before, Seen}
use Rattle.rls_core.specs.declared.status.Status.{Status}
use Rattle.reply_text.specs.Answer.{Answer}
use Rattle.reply_text.specs.Shown.{Shown}
use Rattle.reply_text.specs.declared.record.Outcome.{Outcome}
use Rattle.reply_text.specs.declared.record.Outcome.TheVariants.{Checked, Ticked, Installed, Bad, Full, Spent, VersionsFull}
use Rattle.reply_text.specs.Texts.{whole, member_unless, code_name, limit_members, status_data, count_data, counts_data, reply_data, refused_data, full_data}
use Rattle.reply_text.specs.Texts.{spent_data, versions_full_data, checked_line_data, ticked_line_data, installed_line_data, refused_line_data, outcome_data, record_data}
use Rattle.run_text.specs.Plain.{IsPlain, ItemsArePlain}
use Rattle.run_text.specs.Said.{IsSaidCount, IsSaidLimit, IsSaidStatus, IsSaidOutcome, IsSaid}

-- a value that can be read back, with at most so many levels
record IsShallow (levels : ℕ) (d : Data) : Type 0 where
  plain : IsPlain d
  depth : depth d ≤ levels

w32 : (n : ℕ) → n < 2 ^ 32 → n < 2 ^ 64
w32 n h = omega arith

w40 : (n : ℕ) → n ≤ LATEST_MOMENT → n < 2 ^ 64
w40 n h = omega arith

count_shape : (c : Count) → IsSaidCount c → IsShallow 1 (count_data c)
count_shape NoCount h = record { plain = tt; depth = omega arith }
count_shape (Before before) h = record { plain = ((h, tt), refl); depth = omega arith }
count_shape (Seen seen) h = record { plain = ((h, tt), refl); depth = omega arith }

limit_shape : (b : Bool) (n : ℕ) (u : Unit) → n < 2 ^ 32
    → IsShallow 1 (object (member_unless b (codes "requestsPerUnit") (whole n) (member (codes "unit") (string (unit_name u)) no_members)))
limit_shape true n u h = record { plain = ((tt, tt), refl); depth = omega arith }
limit_shape false n u h = record { plain = ((w32 n h, (tt, tt)), refl); depth = omega arith }

status_shape : (c : Code) (l : Option OwnLimit) (m r : ℕ) (b : Bool) → m < 2 ^ 32 → IsSaidLimit l r
    → IsShallow 2 (object (member (codes "code") (string (code_name c)) (limit_members l r
    (member_unless b (codes "limitRemaining") (whole m) no_members))))
status_shape c None m r true few limit = record { plain = ((tt, tt), refl); depth = omega arith }
status_shape c None m r false few limit = record { plain = ((tt, (w32 m few, tt)), refl); depth = omega arith }
status_shape c (Some own) m r true few limit =
    let s = limit_shape (own.limit == 0) own.limit own.unit limit.0 in
    record { plain = ((tt, (s.plain, (tt, tt))), refl); depth = omega (arith, s.depth) }
status_shape c (Some own) m r false few limit =
    let s = limit_shape (own.limit == 0) own.limit own.unit limit.0 in
    record { plain = ((tt, (s.plain, (tt, (w32 m few, tt)))), refl); depth = omega (arith, s.depth) }

status_shallow : (s : Status) → IsSaidStatus s → IsShallow 2 (status_data s)
unfolding status_data
status_shallow s h = status_shape s.code s.limit s.remaining s.reset (s.remaining == 0) h.remaining h.limit

-- a list of shallow values
list_shape : {X : Type 0} (levels : ℕ) (f : X → Data) (P : X → Type 0) → ((x : X) → P x → IsShallow levels (f x)) → (xs : List X)
    → AllByRecursion P xs → ItemsArePlain (items_of (map f xs)) × (items_depth (items_of (map f xs)) ≤ levels)
list_shape levels f P each [] all = (tt, omega arith)
list_shape levels f P each (x ∷ xs) all =
    let s = each x all.0 in
    let rest = list_shape levels f P each xs all.1 in
    ((s.plain, rest.0), omega (arith, s.depth, rest.1))

answer_shape : (line moment version worker : ℕ) (answer : Answer) → line < 2 ^ 32 → worker < 2 ^ 32 → version < 2 ^ 32 → moment ≤ LATEST_MOMENT
    → AllByRecursion IsSaidStatus answer.statuses
    → IsShallow 9 (checked_line_data line moment version worker (counts_data answer.statuses) (reply_data answer))
unfolding checked_line_data counts_data reply_data
answer_shape line moment version worker answer l w v m all =
    let counts = list_shape 1 (λ (s : Status). count_data s.count) IsSaidStatus (λ s h. count_shape s.count h.count) answer.statuses all in
    let statuses = list_shape 2 status_data IsSaidStatus status_shallow answer.statuses all in
    record {
      plain = ((counts.0, (w32 line l, (w40 moment m, (((tt, (statuses.0, tt)), refl), (w32 version v, (w32 worker w, tt)))))), refl);
      depth = omega (arith, counts.1, statuses.1);
    }

outcome_shape : (line moment version worker : ℕ) (o : Outcome) → line < 2 ^ 32 → worker < 2 ^ 32 → version < 2 ^ 32 → moment ≤ LATEST_MOMENT
    → IsSaidOutcome o → IsShallow 9 (outcome_data line moment version worker o)
unfolding ticked_line_data installed_line_data refused_line_data refused_data full_data spent_data versions_full_data
outcome_shape line moment version worker (Checked answer) l w v m h = answer_shape line moment version worker answer l w v m h.1
outcome_shape line moment version worker (Ticked ticked) l w v m h =
    record { plain = ((w32 line l, (w40 moment m, (w40 ticked h, (w32 version v, (w32 worker w, tt))))), refl); depth = omega arith }
outcome_shape line moment version worker Installed l w v m h =
    record { plain = ((w32 version v, (w32 line l, (w40 moment m, (w32 version v, (w32 worker w, tt))))), refl); depth = omega arith }
outcome_shape line moment version worker (Bad refused) l w v m h = record {
  plain = ((w32 line l, (w40 moment m, (((tt, (w32 refused.number h.1, tt)), refl), (w32 version v, (w32 worker w, tt))))), refl);
  depth = omega arith;
}
outcome_shape line moment version worker (Full live held wanted) l w v m h = record {
  plain = ((w32 line l, (w40 moment m, (((w32 held h.1, (w32 live h.0, (tt, (w32 wanted h.2, tt)))), refl), (w32 version v, (w32 worker w, tt))))), refl);
  depth = omega arith;
}
outcome_shape line moment version worker (Spent claims wanted) l w v m h = record {
  plain = ((w32 line l, (w40 moment m, (((h.0, (tt, (w32 wanted h.1, tt))), refl), (w32 version v, (w32 worker w, tt))))), refl);
  depth = omega arith;
}
outcome_shape line moment version worker (VersionsFull versions) l w v m h = record {
  plain = ((w32 line l, (w40 moment m, (((tt, (w32 versions h, tt)), refl), (w32 version v, (w32 worker w, tt))))), refl);
  depth = omega arith;
}

pub record_plain : (r : Shown) → IsSaid r → IsPlain (record_data r)
unfolding record_data
record_plain r h = (outcome_shape r.line r.moment r.version r.worker r.outcome h.line h.worker h.version h.moment h.outcome).plain

pub record_shallow : (r : Shown) → IsSaid r → depth (record_data r) ≤ 9
unfolding record_data
record_shallow r h = (outcome_shape r.line r.moment r.version r.worker r.outcome h.line h.worker h.version h.moment h.outcome).depth
