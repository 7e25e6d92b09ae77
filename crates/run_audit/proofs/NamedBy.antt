-- The counters that the checks of a run name and who bound them, line after line.
use Rattle.std.proofs.Common.{◌≡◌, ℕ, zero, suc, ◌+◌, ◌-◌, ◌≤◌, ◌<◌, ◌==◌, ◌||◌, ◌&&◌, not, nat_lt, List, [], ◌∷◌, ◌++◌, length, take, drop, get_or, map}
use Rattle.std.proofs.Common.{Bool, true, false, cond, Option, Some, None, unwrap_or, refl, sym, ap, ap₂, ◌∙◌, arith, add-one, drop-cons}
use Rattle.std.proofs.lemmas.Bool.Decides.{nat_tests}
use Rattle.std.proofs.lemmas.List.{length-map, drop_all}
use Rattle.std.proofs.lemmas.List.Folds.{list_any-append}
use Rattle.std.proofs.Math.ListN.{get_or-map}
use Rattle.rate_types.specs.Counters.{same_counter}
use Rattle.rate_types.specs.declared.counter_key.CounterKey.{CounterKey}
use Rattle.window_keys.proofs.Counters.{same_is, same_either}
use Rattle.descriptor_tree.specs.Trees.{DomainTree}
use Rattle.reply_text.specs.declared.record.Record.{Record}
use Rattle.reply_text.specs.declared.record.Outcome.{Outcome}
use Rattle.reply_text.specs.declared.record.Outcome.TheVariants as outcome
use Rattle.script_run.specs.ScriptLine.{ScriptLine}
use Rattle.script_run.specs.Named.{all_tried, bound_by, counters_bound, counters_tried, is_among}
use Rattle.script_run.specs.Views.{line_view}
use Rattle.script_run.specs.declared.line.Line.{Line}
use Rattle.run_audit.specs.Asked.{is_asked, is_told}
use Rattle.run_audit.specs.ByEnd.{Binders, binder_at, binder_by, is_asked_of}
use Rattle.run_audit.specs.declared.asked.Asked.{Asked}
use Rattle.run_audit.specs.declared.asked.Asked.TheVariants.{Named, Bound}
use Rattle.run_audit.specs.declared.binder.Binder.{Binder}
use Rattle.run_audit.specs.declared.binder.Binder.TheVariants.{Nobody}
use Rattle.run_audit.proofs.Gates.{and_true, first_later, grouped, open_false, or_false}

-- ---- one counter more

joined_at : (asked : Asked) (o : Option Binder) (before now binder : Binder) → before ≡ unwrap_or o Nobody
    → is_asked asked now ≡ (is_asked asked before || is_asked asked binder) → is_asked asked now ≡ (is_asked_of asked o || is_asked asked binder)
joined_at asked (Some b) before now binder is joins = joins ∙ ap (λ (x : Binder). is_asked asked x || is_asked asked binder) is
joined_at Named None before now binder is joins = refl
joined_at (Bound worker line) None before now binder is joins =
    joins ∙ ap (λ (x : Binder). is_asked (Bound worker line) x || is_asked (Bound worker line) binder) is

pub one_more : (asked : Asked) (old new : Binders) (counter q : CounterKey) (before now binder : Binder)
    → before ≡ unwrap_or (binder_at old counter) Nobody → ((a : Asked) → is_asked a now ≡ (is_asked a before || is_asked a binder))
    → binder_at new q ≡ cond (same_counter counter q) (Some now) (binder_at old q)
    → is_asked_of asked (binder_at new q) ≡ (is_asked_of asked (binder_at old q) || (is_asked asked binder && same_counter q counter))
one_more asked old new counter q before now binder is joins found = by (same_counter q counter) refl
  where
    first : (s : Bool) → same_counter q counter ≡ s
        → is_asked_of asked (binder_at new q) ≡ is_asked_of asked (cond s (Some now) (binder_at old q))
    first s e =
        ap (is_asked_of asked) found
        ∙ ap (λ (b : Bool). is_asked_of asked (cond b (Some now) (binder_at old q))) (same_either counter q ∙ e)

    by : (s : Bool) → same_counter q counter ≡ s → is_asked_of asked (binder_at new q)
        ≡ (is_asked_of asked (binder_at old q) || (is_asked asked binder && same_counter q counter))
    by true e =
        first true e
        ∙ joined_at asked (binder_at old q) before now binder
        (is ∙ ap (λ (k : CounterKey). unwrap_or (binder_at old k) Nobody) (sym (same_is q counter e))) (joins asked)
        ∙ ap (λ (b : Bool). is_asked_of asked (binder_at old q) || b) (sym (and_true (is_asked asked binder) (same_counter q counter) e))
    by false e =
        first false e
        ∙ sym (or_false (is_asked_of asked (binder_at old q)) (is_asked asked binder && same_counter q counter)
        (ap (λ (b : Bool). is_asked asked binder && b) e ∙ open_false (is_asked asked binder)))

-- ---- one line more

pub picked : (b : Bool) (ks xs : List CounterKey) (c : CounterKey) → is_among (cond b ks [] ++ xs) c ≡ ((b && is_among ks c) || is_among xs c)
picked true ks xs c = list_any-append (λ k. same_counter c k) ks xs
picked false ks xs c = refl

-- what is asked for in the lines behind the first ones
abbrev pub left : Asked → ℕ → Asked
left Named n = Named
left (Bound worker line) n = Bound worker (line - n)

by_outcome : (u i w n : ℕ) (config : List DomainTree) (l : ScriptLine) (m : ℕ) (o : Outcome) (c : CounterKey)
    → (is_asked (Bound u i) (binder_by w n o) && is_among (counters_tried config l m) c)
    ≡ ((not (w == u) || nat_lt n i) && is_among (counters_bound config l m o) c)
by_outcome u i w n config l m (outcome.Checked answer) c = refl
by_outcome u i w n config l m (outcome.Ticked moment) c = sym (open_false (not (w == u) || nat_lt n i))
by_outcome u i w n config l m outcome.Installed c = sym (open_false (not (w == u) || nat_lt n i))
by_outcome u i w n config l m (outcome.Bad refused) c = sym (open_false (not (w == u) || nat_lt n i))
by_outcome u i w n config l m (outcome.Full live held wanted) c = sym (open_false (not (w == u) || nat_lt n i))
by_outcome u i w n config l m (outcome.Spent claims wanted) c = sym (open_false (not (w == u) || nat_lt n i))
by_outcome u i w n config l m (outcome.VersionsFull versions) c = sym (open_false (not (w == u) || nat_lt n i))

-- a line that isn't before the asked one, and one that is
later : (own kb x lt : Bool) → lt ≡ false → (((not own && kb) || x) || false) ≡ (((not own || lt) && kb) || (x || false))
later true kb x lt e = ap (λ (b : Bool). (b && kb) || (x || false)) (sym e)
later false kb x lt e = grouped kb x false

sooner : (own kb x y lt : Bool) → lt ≡ true → (((not own && kb) || x) || ((own && kb) || y)) ≡ (((not own || lt) && kb) || (x || y))
sooner true kb x y lt e = first_later x kb y ∙ ap (λ (b : Bool). (b && kb) || (x || y)) (sym e)
sooner false kb x y lt e = grouped kb x y

not_before : (n i : ℕ) → i - n ≡ 0 → nat_lt n i ≡ false
not_before n i e = grind (arith, nat_tests)

before : (n i j : ℕ) → i - n ≡ suc j → nat_lt n i ≡ true
before n i j e = grind (arith, nat_tests)

one_line : (asked : Asked) (n : ℕ) (configs : ℕ → List DomainTree) (l : ScriptLine) (r : Record) (ls : List ScriptLine) (rs : List Record) (c : CounterKey)
    → is_told (left asked n) configs (l ∷ ls) (r ∷ rs) c
    ≡ ((is_asked asked (binder_by r.worker n r.outcome) && is_among (counters_tried (configs r.version) l r.moment) c)
    || is_told (left asked (suc n)) configs ls rs c)
one_line Named n configs l r ls rs c =
    list_any-append (λ k. same_counter c k) (counters_tried (configs r.version) l r.moment) (all_tried configs ls rs)
one_line (Bound u i) n configs l r ls rs c = by (i - n) refl
  where
    ks : List CounterKey
    ks = counters_bound (configs r.version) l r.moment r.outcome

    others : Bool
    others = is_among (bound_by (λ w. not (w == u)) configs ls rs) c

    own : ℕ → Bool
    own j = is_among (bound_by (λ w. w == u) configs (take j ls) (take j rs)) c

    by : (j : ℕ) → i - n ≡ j → is_told (Bound u (i - n)) configs (l ∷ ls) (r ∷ rs) c
        ≡ ((is_asked (Bound u i) (binder_by r.worker n r.outcome) && is_among (counters_tried (configs r.version) l r.moment) c)
        || is_told (Bound u (i - suc n)) configs ls rs c)
    by zero e =
        let none : 0 ≡ i - suc n = omega (arith, e) in
        ap (λ (j : ℕ). is_told (Bound u j) configs (l ∷ ls) (r ∷ rs) c) e
        ∙ ap (λ (b : Bool). b || false) (picked (not (r.worker == u)) ks (bound_by (λ w. not (w == u)) configs ls rs) c)
        ∙ later (r.worker == u) (is_among ks c) others (nat_lt n i) (not_before n i e)
        ∙ ap₂ (λ (a : Bool) (j : ℕ). a || is_told (Bound u j) configs ls rs c)
        (sym (by_outcome u i r.worker n (configs r.version) l r.moment r.outcome c)) none
    by (suc j) e =
        let less : j ≡ i - suc n = omega (arith, e) in
        ap (λ (j : ℕ). is_told (Bound u j) configs (l ∷ ls) (r ∷ rs) c) e
        ∙ ap₂ (λ (a b : Bool). a || b) (picked (not (r.worker == u)) ks (bound_by (λ w. not (w == u)) configs ls rs) c)
        (picked (r.worker == u) ks (bound_by (λ w. w == u) configs (take j ls) (take j rs)) c)
        ∙ sooner (r.worker == u) (is_among ks c) others (own j) (nat_lt n i) (before n i j e)
        ∙ ap₂ (λ (a : Bool) (j : ℕ). a || is_told (Bound u j) configs ls rs c)
        (sym (by_outcome u i r.worker n (configs r.version) l r.moment r.outcome c)) less

pub one_more_line : (asked : Asked) (configs : ℕ → List DomainTree) (i : ℕ) (lines : List Line) (rs : List Record) (x : Line) (r : Record) (c : CounterKey)
    → i < length lines → i < length rs → x ≡ get_or lines i x → r ≡ get_or rs i r
    → is_told (left asked i) configs (drop i (map line_view lines)) (drop i rs) c
    ≡ ((is_asked asked (binder_by r.worker i r.outcome) && is_among (counters_tried (configs r.version) (line_view x) r.moment) c)
    || is_told (left asked (i + 1)) configs (drop (i + 1) (map line_view lines)) (drop (i + 1) rs) c)
one_more_line asked configs i lines rs x r c within_l within_r is_x is_r =
    let within : i < length (map line_view lines) = omega (arith, length-map lines line_view, within_l) in
    let at : get_or (map line_view lines) i (line_view x) ≡ line_view x = get_or-map line_view lines i x ∙ ap line_view (sym is_x) in
    rw add-one (ap₂ (λ (ls : List ScriptLine) (ss : List Record). is_told (left asked i) configs ls ss c)
    (drop-cons (map line_view lines) i (line_view x) within ∙ ap (λ (l : ScriptLine). l ∷ drop (suc i) (map line_view lines)) at)
    (drop-cons rs i r within_r ∙ ap (λ (s : Record). s ∷ drop (suc i) rs) (sym is_r))
    ∙ one_line asked i configs (line_view x) r (drop (suc i) (map line_view lines)) (drop (suc i) rs) c)

none_told : (asked : Asked) (configs : ℕ → List DomainTree) (c : CounterKey) → is_told asked configs [] [] c ≡ false
none_told Named configs c = refl
none_told (Bound u zero) configs c = refl
none_told (Bound u (suc i)) configs c = refl

pub no_more_lines : (asked : Asked) (configs : ℕ → List DomainTree) (n : ℕ) (ls : List ScriptLine) (rs : List Record) (c : CounterKey)
    → length ls ≤ n → length rs ≤ n → is_told (left asked n) configs (drop n ls) (drop n rs) c ≡ false
no_more_lines asked configs n ls rs c over_l over_r =
    ap₂ (λ (x : List ScriptLine) (y : List Record). is_told (left asked n) configs x y c) (drop_all n ls over_l) (drop_all n rs over_r)
    ∙ none_told (left asked n) configs c

pub from_first : (asked : Asked) (configs : ℕ → List DomainTree) (ls : List ScriptLine) (rs : List Record) (c : CounterKey)
    → is_told (left asked 0) configs ls rs c ≡ is_told asked configs ls rs c
from_first Named configs ls rs c = refl
from_first (Bound u i) configs ls rs c = ap (λ (j : ℕ). is_told (Bound u j) configs ls rs c) (omega arith)
