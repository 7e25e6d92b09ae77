-- The causes of refusals, by tests.
use Rattle.std.proofs.Common.{◌≡◌, ℕ, zero, suc, ◌+◌, ◌*◌, ◌-◌, ◌≤◌, ◌<◌, ◌==◌, ◌||◌, ◌&&◌, not, List, [], ◌∷◌, take, filter, Bool, true, false}
use Rattle.std.proofs.Common.{refl, sym, ap, ap₂, ◌∙◌, subst, arith}
use Rattle.std.specs.Bool.{Decides}
use Rattle.std.proofs.lemmas.Bool.{le-leb}
use Rattle.rate_types.specs.Requests.{RequestParts}
use Rattle.rate_types.specs.declared.counter_key.CounterKey.{CounterKey}
use Rattle.rate_types.specs.declared.limits.TheConstants.{MOST_PINS}
use Rattle.descriptor_tree.specs.Trees.{DomainTree}
use Rattle.rls_core.specs.Reply.{counters_named}
use Rattle.rls_core.specs.Sequential.{IsNumberOf, LacksRoom, Wants}
use Rattle.reply_text.specs.declared.record.Record.{Record}
use Rattle.reply_text.specs.declared.record.Outcome.{Outcome}
use Rattle.script_run.specs.ScriptLine.{ScriptLine}
use Rattle.script_run.specs.Named.{AreThere, bound_by, counters_bound, is_among, is_open_at}
use Rattle.script_run.specs.Refusals.{HasRefusalCause, IsFull, is_named_at, may_be_bound}
use Rattle.script_run.specs.Sequential.{IsInTurn, is_bound}
use Rattle.run_audit.specs.Asked.{is_told_at}
use Rattle.run_audit.specs.Besides.{IsFullBesides}
use Rattle.run_audit.specs.Bound.{AreBound}
use Rattle.run_audit.specs.Causes.{IsCaused, is_refusal}
use Rattle.run_audit.specs.declared.asked.Asked.TheVariants.{Bound}
use mathlib.Core.Path.{fun_ext}
use Rattle.run_audit.proofs.Among.{among_without}
use Rattle.run_audit.proofs.Gates.{first_later, grouped}
use Rattle.run_audit.proofs.NamedBy.{picked}
use Rattle.run_audit.proofs.Numbers.{at_most, weaker}
use Rattle.run_audit.proofs.Tests.{both, false_true}

pub room_by : (config : List DomainTree) (cells : ℕ) (request : RequestParts) (moment : ℕ) (bound : CounterKey → Bool) (live wanted : ℕ) (a b d : Bool)
    → Decides a (IsNumberOf bound live) → Decides b (Wants bound (counters_named config request moment) wanted) → Decides d (cells < live + wanted)
    → Decides ((a && b) && d) (LacksRoom config cells request moment bound live wanted)
room_by config cells request moment bound live wanted a b d da db dd =
    let e = both (a && b) d (both a b da db) dd in
    (λ h. record { needs = record { lives = (e.0 h).0.0; wants = (e.0 h).0.1 }; above = (e.0 h).1 }, λ x. e.1 ((x.needs.lives, x.needs.wants), x.above))

-- what isn't a refusal needs no cause
module _ (configs : ℕ → List DomainTree) (workers cells : ℕ) (lines : List ScriptLine) (records : List Record)
    (before : List ScriptLine) (earlier : List Record) (r : Record) where
  abbrev pub Caused : ScriptLine → Outcome → Type 0
  Caused l o = HasRefusalCause configs workers cells lines records before earlier l r o
      × (workers ≡ 1 → is_refusal o ≡ true → IsInTurn configs cells before earlier l r o)

-- with several workers there is no turn
pub no_turn : {P Q : Type 0} (workers : ℕ) (b : Bool) → (workers ≡ 1 → ⊥) → Decides b P → Decides b (P × (workers ≡ 1 → Q))
no_turn workers b several d = (λ h. (d.0 h, λ one. absurd (several one)), λ x. d.1 x.0)

-- ---- the lists of counters that the code makes

same_test : {k : ℕ} (b : Bool) (s t : CounterKey → Bool) → ((c : CounterKey) → s c ≡ t c) → Decides b (AreThere s k) → Decides b (AreThere t k)
same_test {k = k} b s t same d = subst (λ (p : CounterKey → Bool). Decides b (AreThere p k)) (fun_ext same) d

same_number : {k : ℕ} (b : Bool) (s t : CounterKey → Bool) → ((c : CounterKey) → s c ≡ t c) → Decides b (IsNumberOf s k) → Decides b (IsNumberOf t k)
same_number {k = k} b s t same d = subst (λ (p : CounterKey → Bool). Decides b (IsNumberOf p k)) (fun_ext same) d

pub live_by : (configs : ℕ → List DomainTree) (lines : List ScriptLine) (records : List Record) (before : List ScriptLine) (earlier : List Record)
    (r : Record) (w m n live : ℕ) (b : Bool) → w ≡ r.worker → m ≡ r.moment → before ≡ take n lines → earlier ≡ take n records
    → Decides b (AreThere (is_told_at (Bound w n) configs lines records m) live)
    → Decides b (AreThere (may_be_bound configs lines records before earlier r) live)
live_by configs lines records before earlier r w m n live b ew em el er d =
    same_test b (is_told_at (Bound w n) configs lines records m) (may_be_bound configs lines records before earlier r)
    (λ c. ap₂ (λ (v k : ℕ). is_told_at (Bound v n) configs lines records k c) ew em
    ∙ ap₂ (λ (x : List ScriptLine) (y : List Record). is_open_at r.moment c
    && (is_among (bound_by (λ v. not (v == r.worker)) configs lines records) c || is_among (bound_by (λ v. v == r.worker) configs x y) c))
    (sym el) (sym er)) d

-- ---- with one worker

in_two : (own k others mine : Bool) → (k || (others || mine)) ≡ (((not own && k) || others) || ((own && k) || mine))
in_two true k others mine = first_later k others mine
in_two false k others mine = sym (grouped k others mine)

-- the counters of all workers are those of the others and of this one
of_two : (u : ℕ) (configs : ℕ → List DomainTree) (ls : List ScriptLine) (rs : List Record) (c : CounterKey)
    → is_among (bound_by (λ w. true) configs ls rs) c
    ≡ (is_among (bound_by (λ w. not (w == u)) configs ls rs) c || is_among (bound_by (λ w. w == u) configs ls rs) c)
of_two u configs [] rs c = refl
of_two u configs (l ∷ ls) [] c = refl
of_two u configs (l ∷ ls) (r ∷ rs) c =
    let here : List CounterKey = counters_bound (configs r.version) l r.moment r.outcome in
    picked true here (bound_by (λ w. true) configs ls rs) c
    ∙ ap (λ (b : Bool). is_among here c || b) (of_two u configs ls rs c)
    ∙ in_two (r.worker == u) (is_among here c) (is_among (bound_by (λ w. not (w == u)) configs ls rs) c) (is_among (bound_by (λ w. w == u) configs ls rs) c)
    ∙ sym (ap₂ (λ (a b : Bool). a || b) (picked (not (r.worker == u)) here (bound_by (λ w. not (w == u)) configs ls rs) c)
    (picked (r.worker == u) here (bound_by (λ w. w == u) configs ls rs) c))

in_more : (a b d : Bool) → (b ≡ true → d ≡ true) → (a || b) ≡ true → (a || d) ≡ true
in_more true b d f e = refl
in_more false b d f e = f e

of_first : (by : ℕ → Bool) (configs : ℕ → List DomainTree) (n : ℕ) (ls : List ScriptLine) (rs : List Record) (c : CounterKey)
    → is_among (bound_by by configs (take n ls) (take n rs)) c ≡ true → is_among (bound_by by configs ls rs) c ≡ true
of_first by configs zero ls rs c e = absurd (false_true e)
of_first by configs (suc n) [] rs c e = e
of_first by configs (suc n) (l ∷ ls) [] c e = e
of_first by configs (suc n) (l ∷ ls) (r ∷ rs) c e =
    let here : List CounterKey = counters_bound (configs r.version) l r.moment r.outcome in
    picked (by r.worker) here (bound_by by configs ls rs) c
    ∙ in_more (by r.worker && is_among here c) (is_among (bound_by by configs (take n ls) (take n rs)) c) (is_among (bound_by by configs ls rs) c)
    (of_first by configs n ls rs c) (sym (picked (by r.worker) here (bound_by by configs (take n ls) (take n rs)) c) ∙ e)

or_more : (a b d : Bool) → (a ≡ true → d ≡ true) → (a || b) ≡ true → (d || b) ≡ true
or_more true b d f e = ap (λ (x : Bool). x || b) (f refl)
or_more false b true f e = refl
or_more false b false f e = e

and_more : (o a b : Bool) → (a ≡ true → b ≡ true) → (o && a) ≡ true → (o && b) ≡ true
and_more true a b f e = f e
and_more false a b f e = e

-- the counters that have cells may have them
pub exact_lives : (configs : ℕ → List DomainTree) (lines : List ScriptLine) (records : List Record) (before : List ScriptLine) (earlier : List Record)
    (r : Record) (n live : ℕ) → before ≡ take n lines → earlier ≡ take n records
    → IsNumberOf (is_bound configs before earlier r.moment) live → AreThere (may_be_bound configs lines records before earlier r) live
exact_lives configs lines records before earlier r n live el er is =
    weaker (may_be_bound configs lines records before earlier r) (is_bound configs before earlier r.moment) live
    (λ c. and_more (is_open_at r.moment c) (is_among (bound_by (λ w. true) configs before earlier) c)
    (is_among (bound_by (λ w. not (w == r.worker)) configs lines records) c || is_among (bound_by (λ w. w == r.worker) configs before earlier) c)
    (λ e. or_more (is_among (bound_by (λ w. not (w == r.worker)) configs before earlier) c)
    (is_among (bound_by (λ w. w == r.worker) configs before earlier) c) (is_among (bound_by (λ w. not (w == r.worker)) configs lines records) c)
    (λ o. of_first (λ w. not (w == r.worker)) configs n lines records c
    (sym (ap₂ (λ (x : List ScriptLine) (y : List Record). is_among (bound_by (λ w. not (w == r.worker)) configs x y) c) el er) ∙ o))
    (sym (of_two r.worker configs before earlier c) ∙ e)))
    ((at_most (is_bound configs before earlier r.moment) live is live).0 (le-leb live live (omega arith)))

-- the counters that have cells, and those that are wanted
pub room_from : (configs : ℕ → List DomainTree) (cells : ℕ) (before : List ScriptLine) (earlier : List Record) (request : RequestParts) (r : Record)
    (m : ℕ) (config : List DomainTree) (bound named missing : List CounterKey) (live wanted : ℕ) (a b d : Bool) → m ≡ r.moment → config ≡ configs r.version
    → AreBound configs before earlier r.moment bound → named ≡ counters_named config request m
    → missing ≡ filter (λ c. not (is_among bound c)) named → Decides a (IsNumberOf (is_among bound) live)
    → Decides b (IsNumberOf (is_among missing) wanted) → Decides d (cells < live + wanted)
    → Decides ((a && b) && d) (LacksRoom (configs r.version) cells request r.moment (is_bound configs before earlier r.moment) live wanted)
room_from configs cells before earlier request r m config bound named missing live wanted a b d em ec eb en es da db dd =
    let cells_for = same_number a (is_among bound) (is_bound configs before earlier r.moment) eb da in
    let named_is : named ≡ counters_named (configs r.version) request r.moment
    = en ∙ ap₂ (λ (t : List DomainTree) (n : ℕ). counters_named t request n) ec em in
    let wants = same_number b (is_among missing) (λ c. is_among (counters_named (configs r.version) request r.moment) c
    && not (is_bound configs before earlier r.moment c))
    (λ c. ap (λ (l : List CounterKey). is_among l c) es ∙ among_without (is_among bound) named c
    ∙ ap₂ (λ (l : List CounterKey) (t : Bool). is_among l c && not t) named_is (eb c)) db in
    room_by (configs r.version) cells request r.moment (is_bound configs before earlier r.moment) live wanted a b d cells_for wants dd

pub besides_by : (configs : ℕ → List DomainTree) (workers cells : ℕ) (lines : List ScriptLine) (records : List Record) (request : RequestParts)
    (r : Record) (m : ℕ) (config : List DomainTree) (live held wanted : ℕ) (a w n : Bool) → m ≡ r.moment → config ≡ configs r.version
    → Decides a ((cells < live + held + wanted) × (1 ≤ wanted) × (held ≤ MOST_PINS * (workers - 1)))
    → Decides w (AreThere (is_among (counters_named config request m)) wanted)
    → Decides n (AreThere (is_named_at configs lines records m) (live + wanted))
    → Decides ((a && w) && n) (IsFullBesides configs workers cells lines records request r live held wanted)
besides_by configs workers cells lines records request r m config live held wanted a w n em ec da dw dn =
    let e = both (a && w) n (both a w da
    (subst (λ (t : ℕ). Decides w (AreThere (is_among (counters_named (configs r.version) request t)) wanted)) em
    (subst (λ (t : List DomainTree). Decides w (AreThere (is_among (counters_named t request m)) wanted)) ec dw)))
    (subst (λ (t : ℕ). Decides n (AreThere (is_named_at configs lines records t) (live + wanted))) em dn) in (
      λ h. record {
        full = (e.0 h).0.0.0;
        some = (e.0 h).0.0.1;
        holds = (e.0 h).0.0.2;
        wants = (e.0 h).0.1;
        names = (e.0 h).1;
      },
      λ x. e.1 (((x.full, x.some, x.holds), x.wants), x.names),
    )

module _ (configs : ℕ → List DomainTree) (workers cells : ℕ) (lines : List ScriptLine) (records : List Record)
    (before : List ScriptLine) (earlier : List Record) (request : RequestParts) (r : Record) (live held wanted : ℕ) where
  abbrev Besides : Type 0
  Besides = IsFullBesides configs workers cells lines records request r live held wanted

  abbrev Lives : Type 0
  Lives = AreThere (may_be_bound configs lines records before earlier r) live

  abbrev Whole : Type 0
  Whole = IsFull configs workers cells lines records before earlier request r live held wanted

  filled : Besides → Lives → Whole
  filled x lives = record { full = x.full; some = x.some; wants = x.wants; lives = lives; names = x.names; holds = x.holds }

  besides : Whole → Besides
  besides x = record { full = x.full; some = x.some; holds = x.holds; wants = x.wants; names = x.names }

  pub full_by : (a v : Bool) → Decides a Besides → Decides v Lives → Decides (a && v) Whole
  full_by a v da dv = let d = both a v da dv in (λ h. filled (d.0 h).0 (d.0 h).1, λ x. d.1 (besides x, x.lives))

  -- with one worker the exact numbers suffice
  pub in_turn : {P Room : Type 0} (a b : Bool) → workers ≡ 1 → Decides a Besides → Decides b (P × Room) → (Room → Lives)
      → Decides (a && b) (Whole × (workers ≡ 1 → P × Room))
  in_turn a b one da db lives =
      let d = both a b da db in (λ h. (filled (d.0 h).0 (lives (d.0 h).1.1), λ e. (d.0 h).1), λ x. d.1 (besides x.0, x.1 one))

pub caused_by : (configs : ℕ → List DomainTree) (workers cells : ℕ) (lines : List ScriptLine) (records : List Record)
    (before : List ScriptLine) (earlier : List Record) (r : Record) (l : ScriptLine) (o : Outcome) (b : Bool) → o ≡ r.outcome
    → Decides b (Caused configs workers cells lines records before earlier r l o)
    → Decides b (IsCaused configs workers cells lines records before earlier l r)
caused_by configs workers cells lines records before earlier r l o b is d =
    let e = subst (λ (x : Outcome). Decides b (Caused configs workers cells lines records before earlier r l x)) is d in
    (λ h. record { cause = (e.0 h).0; exact = (e.0 h).1 }, λ x. e.1 (x.cause, x.exact))
