-- What the statuses and the lines of a run show.
use Rattle.std.proofs.Common.{◌≡◌, ℕ, suc, ◌+◌, ◌<◌, ◌≤◌, List, [], ◌∷◌, ◌++◌, length, drop, get_or, map, sym, ap, ap₂, refl, inl, inr, ◌∙◌, arith, add-one, drop-cons}
use Rattle.std.specs.Prelude.{min}
use Rattle.std.proofs.lemmas.Bool.{cases_lt}
use Rattle.std.proofs.lemmas.List.{length-map, map-append, drop_all}
use Rattle.std.proofs.Math.ListN.{get_or-map}
use Rattle.rate_types.specs.Requests.{RequestParts}
use Rattle.rate_types.specs.declared.request.Descriptor.{Descriptor}
use Rattle.rls_core.specs.Reply.{charge_shown, charges_of, sight_shown, sights_of}
use Rattle.rls_core.specs.declared.status.Status.{Status}
use Rattle.reply_text.specs.declared.record.Record.{Record}
use Rattle.reply_text.specs.declared.record.Outcome.{Outcome}
use Rattle.reply_text.specs.declared.record.Outcome.TheVariants.{Checked, Ticked, Installed, Bad, Full, Spent, VersionsFull}
use Rattle.script_run.specs.ScriptLine.{ScriptLine, check, reload, tick, bad}
use Rattle.script_run.specs.Charges.{charges_shown, ledger_of, sights_shown}
use Rattle.script_run.specs.Charges as run
use Rattle.script_run.specs.Views.{line_view}
use Rattle.script_run.specs.declared.line.Line.{Line}
use Rattle.run_audit.specs.declared.gathering.Shown.{Shown}
use Rattle.run_audit.specs.declared.gathering.Shown.TheVariants.{Charges, Sights}
use Rattle.run_audit.specs.Shown.{as_charge, shown_by, shown_in, shown_at, shown_of}

pub one_more_status : (kind : Shown) (q : RequestParts) (m i : ℕ) (ds : List Descriptor) (ss : List Status) (d : Descriptor) (s : Status)
    → i < length ds → i < length ss → d ≡ get_or ds i d → s ≡ get_or ss i s
    → shown_in kind q m (drop i ds) (drop i ss) ≡ shown_by kind q m d s.limit s.count ++ shown_in kind q m (drop (i + 1) ds) (drop (i + 1) ss)
one_more_status kind q m i ds ss d s within_d within_s is_d is_s =
    rw add-one (ap₂ (shown_in kind q m) (drop-cons ds i d within_d) (drop-cons ss i s within_s)
    ∙ ap₂ (λ (x : Descriptor) (y : Status). shown_by kind q m x y.limit y.count ++ shown_in kind q m (drop (suc i) ds) (drop (suc i) ss))
    (sym is_d) (sym is_s))

pub no_status : (kind : Shown) (q : RequestParts) (m : ℕ) (ds : List Descriptor) → shown_in kind q m ds [] ≡ []
no_status kind q m [] = refl
no_status kind q m (d ∷ ds) = refl

pub one_more_line : (kind : Shown) (i : ℕ) (lines : List Line) (rs : List Record) (x : Line) (r : Record) → i < length lines → i < length rs
    → x ≡ get_or lines i x → r ≡ get_or rs i r
    → shown_of kind (drop i (map line_view lines)) (drop i rs)
    ≡ shown_at kind (line_view x) r.moment r.outcome ++ shown_of kind (drop (i + 1) (map line_view lines)) (drop (i + 1) rs)
one_more_line kind i lines rs x r within_l within_r is_x is_r =
    let within : i < length (map line_view lines) = omega (arith, length-map lines line_view, within_l) in
    let at : get_or (map line_view lines) i (line_view x) ≡ line_view x = get_or-map line_view lines i x ∙ ap line_view (sym is_x) in
    rw add-one (ap₂ (shown_of kind) (drop-cons (map line_view lines) i (line_view x) within) (drop-cons rs i r within_r)
    ∙ ap₂ (λ (l : ScriptLine) (s : Record). shown_at kind l s.moment s.outcome ++ shown_of kind (drop (suc i) (map line_view lines)) (drop (suc i) rs))
    at (sym is_r))

pub none_left : (kind : Shown) (q : RequestParts) (m i : ℕ) (ds : List Descriptor) (ss : List Status) → min (length ds) (length ss) ≤ i
    → shown_in kind q m (drop i ds) (drop i ss) ≡ []
none_left kind q m i ds ss over = elim (cases_lt i (length ds)) [
  | inl more ↦ ap (shown_in kind q m (drop i ds)) (drop_all i ss (omega arith)) ∙ no_status kind q m (drop i ds)
  | inr all ↦ ap (λ (xs : List Descriptor). shown_in kind q m xs (drop i ss)) (drop_all i ds all)
]

-- ---- charges

charges_in : (q : RequestParts) (m : ℕ) (ds : List Descriptor) (ss : List Status) → shown_in Charges q m ds ss ≡ charges_of q m ds ss
charges_in q m [] ss = refl
charges_in q m (d ∷ ds) [] = refl
charges_in q m (d ∷ ds) (s ∷ ss) = ap (λ xs. charge_shown q m d s.limit s.count ++ xs) (charges_in q m ds ss)

charges_at : (l : ScriptLine) (m : ℕ) (o : Outcome) → shown_at Charges l m o ≡ charges_shown l m o
charges_at (check q) m (Checked answer) = charges_in q m q.descriptors answer.statuses
charges_at (check q) m (Ticked now) = refl
charges_at (check q) m Installed = refl
charges_at (check q) m (Bad refused) = refl
charges_at (check q) m (Full live held wanted) = refl
charges_at (check q) m (Spent claims wanted) = refl
charges_at (check q) m (VersionsFull versions) = refl
charges_at (reload config) m o = refl
charges_at (tick now) m o = refl
charges_at (bad refused) m o = refl

pub all_charges : (ls : List ScriptLine) (rs : List Record) → shown_of Charges ls rs ≡ ledger_of ls rs
all_charges [] rs = refl
all_charges (l ∷ ls) [] = refl
all_charges (l ∷ ls) (r ∷ rs) = ap₂ ◌++◌ (charges_at l r.moment r.outcome) (all_charges ls rs)

-- ---- sights

sights_in : (q : RequestParts) (m : ℕ) (ds : List Descriptor) (ss : List Status) → shown_in Sights q m ds ss ≡ map as_charge (sights_of q m ds ss)
sights_in q m [] ss = refl
sights_in q m (d ∷ ds) [] = refl
sights_in q m (d ∷ ds) (s ∷ ss) = ap (λ xs. map as_charge (sight_shown q m d s.limit s.count) ++ xs) (sights_in q m ds ss)
    ∙ sym (map-append as_charge (sight_shown q m d s.limit s.count) (sights_of q m ds ss))

sights_at : (l : ScriptLine) (m : ℕ) (o : Outcome) → shown_at Sights l m o ≡ map as_charge (sights_shown l m o)
sights_at (check q) m (Checked answer) = sights_in q m q.descriptors answer.statuses
sights_at (check q) m (Ticked now) = refl
sights_at (check q) m Installed = refl
sights_at (check q) m (Bad refused) = refl
sights_at (check q) m (Full live held wanted) = refl
sights_at (check q) m (Spent claims wanted) = refl
sights_at (check q) m (VersionsFull versions) = refl
sights_at (reload config) m o = refl
sights_at (tick now) m o = refl
sights_at (bad refused) m o = refl

pub all_sights : (ls : List ScriptLine) (rs : List Record) → shown_of Sights ls rs ≡ map as_charge (run.sights_of ls rs)
all_sights [] rs = refl
all_sights (l ∷ ls) [] = refl
all_sights (l ∷ ls) (r ∷ rs) = ap₂ ◌++◌ (sights_at l r.moment r.outcome) (all_sights ls rs)
    ∙ sym (map-append as_charge (sights_shown l r.moment r.outcome) (run.sights_of ls rs))
