-- No check of a load finds the cells full.
use Rattle.std.proofs.Common.{◌≡◌, ℕ, ◌+◌, ◌-◌, ◌*◌, ◌≤◌, ◌<◌, ◌&&◌, ◌||◌, List, [], ◌∷◌, ◌++◌, length, Bool, true, false, cond, refl, sym, ap, ◌∙◌, subst, arith, true≢false}
use Rattle.std.specs.Prelude.{count_by}
use Rattle.std.specs.List.{AllByRecursion, list_any}
use Rattle.std.proofs.lemmas.List.Sums.{sum_by-cons}
use Rattle.rate_types.specs.Counters.{same_counter}
use Rattle.rate_types.specs.declared.counter_key.CounterKey.{CounterKey}
use Rattle.rate_types.specs.declared.limits.TheConstants.{MOST_PINS}
use Rattle.window_keys.proofs.Counters.{same_is, same_itself}
use Rattle.descriptor_tree.specs.Trees.{DomainTree}
use Rattle.rls_core.specs.Reply.{counters_named}
use Rattle.reply_text.specs.declared.record.Record.{Record}
use Rattle.script_run.specs.ScriptLine.{ScriptLine}
use Rattle.script_run.specs.Named.{all_tried, is_among, is_open_at, AreThere}
use Rattle.script_run.specs.Refusals.{is_named_at, IsFull}
use Rattle.load_gen.specs.Load.{load_config, request_for, checks_for}
use Rattle.load_gen.specs.Sums.{sum_below}
use Rattle.load_gen.specs.declared.constants.TheConstants.{VALUES}
use Rattle.load_gen.proofs.Counters.{counter_for}
use Rattle.load_gen.proofs.Sums.{sum_same, sum_plus, sum_part, sum_few}

-- the counter is that of a value
pub record IsOfValue (c : CounterKey) : Type 0 where
  pub value : ℕ
  pub small : value < VALUES
  pub is : c ≡ counter_for value

-- each value is below the number of values, and its record stands at the start
abbrev pub AreAtStart : List ℕ → List Record → Type 0
AreAtStart [] [] = Unit {0}
AreAtStart (v ∷ vs) (r ∷ rs) = (v < VALUES) × (r.moment ≡ 0) × AreAtStart vs rs
AreAtStart vs rs = ⊥

named : (value : ℕ) → counters_named load_config (request_for value) 0 ≡ counter_for value ∷ []
named value = refl

module _ (configs : ℕ → List DomainTree) (one : (n : ℕ) → configs n ≡ load_config) where
  -- what a check of the load names is the counter of a value
  of_value : (c : CounterKey) (vs : List ℕ) (rs : List Record) → AreAtStart vs rs → is_among (all_tried configs (checks_for vs) rs) c ≡ true → IsOfValue c
  of_value c [] [] h among = absurd (true≢false (sym among))
  of_value c [] (r ∷ rs) h among = absurd h
  of_value c (v ∷ vs) [] h among = absurd h
  of_value c (v ∷ vs) (r ∷ rs) h among =
      by (same_counter c (counter_for v)) refl (of_value c vs rs h.2)
    where
      here : counters_named (configs r.version) (request_for v) r.moment ≡ counter_for v ∷ []
      here = ap (λ (config : List DomainTree). counters_named config (request_for v) r.moment) (one r.version)
          ∙ ap (counters_named load_config (request_for v)) h.1 ∙ named v

      tried : (same_counter c (counter_for v) || is_among (all_tried configs (checks_for vs) rs) c) ≡ true
      tried = subst (λ (cs : List CounterKey). list_any (λ k. same_counter c k) (cs ++ all_tried configs (checks_for vs) rs) ≡ true) here among

      by : (b : Bool) → same_counter c (counter_for v) ≡ b → (is_among (all_tried configs (checks_for vs) rs) c ≡ true → IsOfValue c) → IsOfValue c
      by true e rest = record { value = v; small = h.0; is = same_is c (counter_for v) e }
      by false e rest = rest (subst (λ (b : Bool). (b || is_among (all_tried configs (checks_for vs) rs) c) ≡ true) e tried)

  -- as many counters as these are counted among those of the values
  counted : (cs : List CounterKey) → AllByRecursion IsOfValue cs → length cs ≤ sum_below VALUES (λ a. count_by (λ k. same_counter (counter_for a) k) cs)
  counted [] h = omega arith
  counted (c ∷ cs) h =
      let rest = counted cs h.1 in
      let parts = sum_same VALUES (λ a. count_by (λ k. same_counter (counter_for a) k) (c ∷ cs))
      (λ a. cond (same_counter (counter_for a) c) 1 0 + count_by (λ k. same_counter (counter_for a) k) cs)
      (λ a small. sum_by-cons (λ k. cond (same_counter (counter_for a) k) 1 0) c cs) in
      let both = sum_plus VALUES (λ a. cond (same_counter (counter_for a) c) 1 0) (λ a. count_by (λ k. same_counter (counter_for a) k) cs) in
      let mine : ◌≡◌ {A = ℕ} (cond (same_counter (counter_for h.0.value) c) 1 0) 1 =
      ap (λ (k : CounterKey). cond (same_counter (counter_for h.0.value) k) 1 0) h.0.is ∙ ap (λ b. cond b 1 0) (same_itself (counter_for h.0.value)) in
      let part = sum_part VALUES h.0.value (λ a. cond (same_counter (counter_for a) c) 1 0) h.0.small in
      omega (arith, rest, parts, both, mine, part)

  all_of : (lines : List ScriptLine) (records : List Record) (moment : ℕ) (cs : List CounterKey)
      → ((c : CounterKey) → is_among (all_tried configs lines records) c ≡ true → IsOfValue c)
      → AllByRecursion (λ k. is_named_at configs lines records moment k ≡ true) cs → AllByRecursion IsOfValue cs
  all_of lines records moment [] of h = tt
  all_of lines records moment (c ∷ cs) of h =
      (of c (second (is_open_at moment c) (is_among (all_tried configs lines records) c) h.0), all_of lines records moment cs of h.1)
    where
      second : (x y : Bool) → (x && y) ≡ true → y ≡ true
      second true y e = e
      second false y e = absurd (true≢false (sym e))

  -- different counters that checks of the load name are no more than the values
  few : (vs : List ℕ) (rs : List Record) (moment number : ℕ) → AreAtStart vs rs → AreThere (is_named_at configs (checks_for vs) rs moment) number → number ≤ VALUES
  few vs rs moment number h there =
      let all = all_of (checks_for vs) rs moment there.counters (λ c among. of_value c vs rs h among) there.pass in
      let some = counted there.counters all in
      let most = sum_few VALUES (λ a. count_by (λ k. same_counter (counter_for a) k) there.counters) (λ a small. there.differ (counter_for a)) in
      let long = there.count in
      omega (arith, some, most, long)

  -- so no check is refused for want of cells, where there are as many as may be wanted
  pub not_full : (workers cells : ℕ) (vs : List ℕ) (rs : List Record) (before : List ScriptLine) (earlier : List Record) (value : ℕ) (r : Record) (live held wanted : ℕ)
      → VALUES + MOST_PINS * (workers - 1) ≤ cells → AreAtStart vs rs
      → IsFull configs workers cells (checks_for vs) rs before earlier (request_for value) r live held wanted → ⊥
  not_full workers cells vs rs before earlier value r live held wanted room h full =
      let most = few vs rs r.moment (live + wanted) h full.names in
      let above = full.full in
      let holds = full.holds in
      omega (arith, room, most, above, holds)
