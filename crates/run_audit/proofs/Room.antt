-- The counters that have cells while a run of one worker is gone through.
use Rattle.std.proofs.Common.{◌≡◌, ℕ, ◌+◌, ◌≤◌, ◌<◌, ◌||◌, ◌&&◌, List, [], ◌∷◌, ◌++◌, length, take, get_or, map, filter, Bool, true, false, cond}
use Rattle.std.proofs.Common.{refl, sym, ap, ap₂, ◌∙◌, arith, append_assoc, append-nil}
use Rattle.std.specs.BTreeMap.{is_at}
use Rattle.std.specs.List.{list_any}
use Rattle.std.proofs.lemmas.Bool.{lt-ltb, ltb-true}
use Rattle.std.proofs.lemmas.List.{length-map, length-take, take_more, take-take}
use Rattle.std.proofs.lemmas.List.Folds.{list_any-append}
use Rattle.std.proofs.Math.ListN.{get_or-map}
use Rattle.rate_types.specs.Counters.{key_cmp, same_counter}
use Rattle.rate_types.specs.declared.counter_key.CounterKey.{CounterKey}
use Rattle.rate_types.specs.contracts.counter_key.CounterKeyOrd.TheImpl.Laws.{matches_eq-law}
use Rattle.window_keys.specs.Counter.{window_end_of}
use Rattle.window_keys.proofs.Counters.{same_either}
use Rattle.descriptor_tree.specs.Trees.{DomainTree}
use Rattle.reply_text.specs.declared.record.Record.{Record}
use Rattle.script_run.specs.ScriptLine.{ScriptLine}
use Rattle.script_run.specs.Named.{bound_by, counters_bound, is_among, is_open_at}
use Rattle.script_run.specs.Sequential.{is_bound}
use Rattle.script_run.specs.Views.{line_view}
use Rattle.script_run.specs.declared.line.Line.{Line}
use Rattle.run_audit.specs.Bound.{AreBound, IsUpTo, KeepBound}
use Rattle.run_audit.specs.declared.bound.BoundCounters.{BoundCounters}
use Rattle.run_audit.proofs.Among.{among_filter}
use Rattle.run_audit.proofs.Numbers.{among_keys}

-- ---- sets of counters

either_of : (s o : Bool) → cond s true o ≡ (s || o)
either_of true o = refl
either_of false o = refl

pub one_key : (old new : List CounterKey) (counter c : CounterKey)
    → list_any (is_at (key_cmp c)) new ≡ cond (is_at (key_cmp counter) c) true (list_any (is_at (key_cmp c)) old)
    → is_among new c ≡ (same_counter c counter || is_among old c)
one_key old new counter c e =
    sym (among_keys new c) ∙ e
    ∙ ap₂ (λ (s o : Bool). cond s true o) (sym (matches_eq-law counter c) ∙ same_either counter c) (among_keys old c)
    ∙ either_of (same_counter c counter) (is_among old c)

pub passed : (a b d : Bool) → ((a || b) || d) ≡ (b || (a || d))
passed true true d = refl
passed true false d = refl
passed false b d = refl

-- ---- one line more

open_or : (o a b x : Bool) → (o && a) ≡ (o && b) → (o && (a || x)) ≡ (o && (b || x))
open_or true a b x e = ap (λ (y : Bool). y || x) e
open_or false a b x e = refl

bound_split : (configs : ℕ → List DomainTree) (ls ms : List ScriptLine) (rs ss : List Record) → length ls ≡ length rs
    → bound_by (λ w. true) configs (ls ++ ms) (rs ++ ss) ≡ bound_by (λ w. true) configs ls rs ++ bound_by (λ w. true) configs ms ss
bound_split configs [] ms [] ss e = refl
bound_split configs [] ms (r ∷ rs) ss e = absurd (omega arith)
bound_split configs (l ∷ ls) ms [] ss e = absurd (omega arith)
bound_split configs (l ∷ ls) ms (r ∷ rs) ss e =
    let here : List CounterKey = counters_bound (configs r.version) l r.moment r.outcome in
    ap (λ (x : List CounterKey). here ++ x) (bound_split configs ls ms rs ss (omega arith))
    ∙ sym (append_assoc here (bound_by (λ w. true) configs ls rs) (bound_by (λ w. true) configs ms ss))

module _ (configs : ℕ → List DomainTree) (i : ℕ) (lines : List Line) (rs : List Record) (x : Line) (r : Record)
    (within_l : i < length lines) (within_r : i < length rs) (is_x : x ≡ get_or lines i x) (is_r : r ≡ get_or rs i r) where
  within : i < length (map line_view lines)
  within = omega (arith, length-map lines line_view, within_l)

  at : get_or (map line_view lines) i (line_view x) ≡ line_view x
  at = get_or-map line_view lines i x ∙ ap line_view (sym is_x)

  lengths : length (take i (map line_view lines)) ≡ length (take i rs)
  lengths = omega (arith, length-take i (map line_view lines), length-take i rs, within, within_r)

  one_more_bound : bound_by (λ w. true) configs (take (i + 1) (map line_view lines)) (take (i + 1) rs)
      ≡ bound_by (λ w. true) configs (take i (map line_view lines)) (take i rs) ++ counters_bound (configs r.version) (line_view x) r.moment r.outcome
  one_more_bound =
      ap₂ (bound_by (λ w. true) configs)
      (take_more (map line_view lines) i (line_view x) within ∙ ap (λ (l : ScriptLine). take i (map line_view lines) ++ l ∷ []) at)
      (take_more rs i r within_r ∙ ap (λ (s : Record). take i rs ++ s ∷ []) (sym is_r))
      ∙ bound_split configs (take i (map line_view lines)) (line_view x ∷ []) (take i rs) (r ∷ []) lengths
      ∙ ap (λ (l : List CounterKey). bound_by (λ w. true) configs (take i (map line_view lines)) (take i rs) ++ l) (append-nil _)

  pub one_line_bound : (m : ℕ) (old new more : List CounterKey) (q : CounterKey)
      → more ≡ counters_bound (configs r.version) (line_view x) r.moment r.outcome → is_among new q ≡ (is_among old q || is_among more q)
      → (is_open_at m q && is_among old q) ≡ is_bound configs (take i (map line_view lines)) (take i rs) m q
      → (is_open_at m q && is_among new q) ≡ is_bound configs (take (i + 1) (map line_view lines)) (take (i + 1) rs) m q
  one_line_bound m old new more q is added same =
      let before : List CounterKey = bound_by (λ w. true) configs (take i (map line_view lines)) (take i rs) in
      ap (λ (b : Bool). is_open_at m q && b) added ∙ open_or (is_open_at m q) (is_among old q) (is_among before q) (is_among more q) same
      ∙ ap (λ (b : Bool). is_open_at m q && b)
      (ap (λ (l : List CounterKey). is_among before q || is_among l q) is
      ∙ sym (list_any-append (λ k. same_counter q k) before (counters_bound (configs r.version) (line_view x) r.moment r.outcome))
      ∙ ap (λ (l : List CounterKey). is_among l q) (sym one_more_bound))

-- ---- windows that are over

stays_open : (a b x : Bool) → (a ≡ true → b ≡ true) → (a && (b && x)) ≡ (a && x)
stays_open true b x h = ap (λ (y : Bool). y && x) (h refl)
stays_open false b x h = refl

open_sooner : (m n : ℕ) (q : CounterKey) → m ≤ n → is_open_at n q ≡ true → is_open_at m q ≡ true
open_sooner m n q h e = lt-ltb m (window_end_of q) (let later = ltb-true n (window_end_of q) e in omega (arith, later, h))

module _ (configs : ℕ → List DomainTree) (before : List ScriptLine) (earlier : List Record) (m : ℕ) (all left : List CounterKey)
    (is : left ≡ filter (is_open_at m) all) (keep : (n : ℕ) → m ≤ n → KeepBound configs before earlier n all) where
  among_left : (c : CounterKey) → is_among left c ≡ (is_open_at m c && is_among all c)
  among_left c = ap (λ (l : List CounterKey). is_among l c) is ∙ among_filter (is_open_at m) all c

  pub left_bound : AreBound configs before earlier m left
  left_bound c = among_left c ∙ keep m (omega arith) c

  pub left_keep : (n : ℕ) → m ≤ n → KeepBound configs before earlier n left
  left_keep n h c =
      ap (λ (b : Bool). is_open_at n c && b) (among_left c)
      ∙ stays_open (is_open_at n c) (is_open_at m c) (is_among all c) (open_sooner m n c h) ∙ keep n h c

-- ---- the lines of a run

pub more_lines : (configs : ℕ → List DomainTree) (i : ℕ) (ls : List ScriptLine) (rs : List Record) (bound : BoundCounters)
    → length ls ≡ length rs → IsUpTo configs (take i ls) (take i rs) bound → IsUpTo configs (take (i + 1) ls) (take (i + 1) rs) bound
more_lines configs i ls rs bound same u =
    let first = length-take i ls in
    let more = length-take (i + 1) ls in
    let at : bound.lines ≤ i = omega (arith, u.within, first) in
    let next : bound.lines ≤ i + 1 = omega (arith, at) in
    record {
      within = omega (arith, u.within, first, more);
      keep = λ m h c. u.keep m h c
          ∙ ap₂ (λ (x : List ScriptLine) (y : List Record). is_bound configs x y m c)
          (take-take bound.lines i ls at ∙ sym (take-take bound.lines (i + 1) ls next))
          (take-take bound.lines i rs at ∙ sym (take-take bound.lines (i + 1) rs next));
    }
