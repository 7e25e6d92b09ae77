-- What a check of a load shows that was answered.
use Rattle.std.proofs.Common.{◌≡◌, ℕ, ◌+◌, ◌<◌, ◌&&◌, ◌⊎◌, not, List, [], ◌∷◌, Bool, true, false, cond, nat_lt, inl, inr, None, Some}
use Rattle.std.proofs.Common.{refl, sym, ap, ◌∙◌, subst, arith}
use Rattle.std.specs.Prelude.{nat_le}
use Rattle.std.proofs.lemmas.Bool.Decides.{nat_tests}
use Rattle.std.proofs.lemmas.Option.{same_Some, none-some}
use Rattle.std.specs.List.{list_any}
use Rattle.rate_types.specs.Ledger.{Charge, Sight}
use Rattle.rate_types.specs.declared.counter_key.CounterKey.{CounterKey}
use Rattle.rate_types.specs.declared.unit.Unit.TheVariants.{Hour}
use Rattle.descriptor_tree.specs.Trees.{DomainTree}
use Rattle.rule_lookup.specs.declared.found.Found.{Found}
use Rattle.rule_lookup.specs.declared.found.Found.TheVariants.{Limited}
use Rattle.rls_core.specs.Reply.{IsReplyOf, is_over_limit, found_for}
use Rattle.rls_core.specs.Status.{status_of, status_at}
use Rattle.rls_core.specs.declared.status.Count.{Count}
use Rattle.rls_core.specs.declared.status.Count.TheVariants.{NoCount, Before, Seen}
use Rattle.rls_core.specs.declared.status.Status.{Status}
use Rattle.reply_text.specs.Answer.{Answer}
use Rattle.reply_text.specs.declared.record.Outcome.{Outcome}
use Rattle.reply_text.specs.declared.record.Outcome.TheVariants.{Checked}
use Rattle.script_run.specs.ScriptLine.{check}
use Rattle.script_run.specs.Charges.{charges_shown, sights_shown}
use Rattle.load_gen.specs.Load.{load_config, request_for, descriptor_for}
use Rattle.script_run.specs.Answers.{is_admitted, is_denied}
use Rattle.load_gen.specs.declared.constants.TheConstants.{LIMIT}
use Rattle.load_gen.proofs.Counters.{counter_for}

-- the charge of a check of a value
abbrev pub charge_on : ℕ → ℕ → Charge CounterKey
charge_on value before = record { counter = counter_for value; before = before; hits = 1 }

-- what was seen of the counter of a value
abbrev pub sight_on : ℕ → ℕ → Sight CounterKey
sight_on value seen = record { counter = counter_for value; seen = seen }

-- a check of this value was charged, and admitted where it ends within the limit
pub record IsCharged (value moment : ℕ) (o : Outcome) : Type 0 where
  pub before : ℕ
  pub charge : charges_shown (check (request_for value)) moment o ≡ charge_on value before ∷ []
  pub sight : sights_shown (check (request_for value)) moment o ≡ []
  pub admitted : is_admitted o ≡ nat_le (before + 1) LIMIT
  pub denied : is_denied o ≡ not (nat_le (before + 1) LIMIT)

-- its counter was seen above the limit
pub record IsSeen (value moment : ℕ) (o : Outcome) : Type 0 where
  pub seen : ℕ
  pub charge : charges_shown (check (request_for value)) moment o ≡ []
  pub sight : sights_shown (check (request_for value)) moment o ≡ sight_on value seen ∷ []
  pub above : LIMIT < seen
  pub admitted : is_admitted o ≡ false
  pub denied : is_denied o ≡ true

-- it was answered
abbrev pub IsAnswered : ℕ → ℕ → Outcome → Type 0
IsAnswered value moment o = IsCharged value moment o ⊎ IsSeen value moment o

-- what a check of a load finds
abbrev limited : Found
limited = Limited LIMIT Hour false (Some (record { 0 = 0 }))

finds : (value : ℕ) → found_for load_config (request_for value) (descriptor_for value) ≡ limited
finds value = refl

-- the status where the counter then stands at a value
abbrev stands_at : ℕ → Count → Status
stands_at value count = status_at LIMIT Hour false (Some (record { 0 = 0 })) 0 value count

-- the overall code of one status
abbrev over_one : Status → Bool
over_one s = list_any (λ t. is_over_limit t.code) (s ∷ []) && not false

over_is : (value : ℕ) (count : Count) → over_one (stands_at value count) ≡ nat_lt LIMIT value
over_is value count = by (nat_lt LIMIT value) refl
  where
    by : (over : Bool) → nat_lt LIMIT value ≡ over → over_one (stands_at value count) ≡ over
    by true e = rw e refl
    by false e = rw e refl

module _ (value : ℕ) where
  charged : (before : ℕ) (over : Bool) → over ≡ over_one (stands_at (before + 1) (Before before))
      → IsAnswered value 0 (Checked (record { over = over; statuses = stands_at (before + 1) (Before before) ∷ [] }))
  charged before over is = inl (record {
    before = before;
    charge = refl;
    sight = refl;
    admitted = ap not over_at ∙ sym (within (nat_lt LIMIT (before + 1)) refl);
    denied = over_at ∙ sym (beyond (nat_lt LIMIT (before + 1)) refl);
  })
    where
      over_at : over ≡ nat_lt LIMIT (before + 1)
      over_at = is ∙ over_is (before + 1) (Before before)

      within : (b : Bool) → nat_lt LIMIT (before + 1) ≡ b → nat_le (before + 1) LIMIT ≡ not b
      within true e = let low : nat_le (before + 1) LIMIT ≡ false = grind (arith, nat_tests) in low
      within false e = let low : nat_le (before + 1) LIMIT ≡ true = grind (arith, nat_tests) in low

      beyond : (b : Bool) → nat_lt LIMIT (before + 1) ≡ b → not (nat_le (before + 1) LIMIT) ≡ b
      beyond true e = ap not (within true e)
      beyond false e = ap not (within false e)

  seen_above : (seen : ℕ) (over : Bool) → LIMIT < seen → over ≡ over_one (stands_at seen (Seen seen))
      → IsAnswered value 0 (Checked (record { over = over; statuses = stands_at seen (Seen seen) ∷ [] }))
  seen_above seen over above is = inr (record {
    seen = seen;
    charge = refl;
    sight = refl;
    above = above;
    admitted = ap not over_at;
    denied = over_at;
  })
    where
      over_at : over ≡ true
      over_at = is ∙ over_is seen (Seen seen) ∙ (let test : nat_lt LIMIT seen ≡ true = grind (arith, nat_tests) in test)

  -- a status of this count
  of_count : (over : Bool) (s : Status) (c : Count) → status_of limited 0 1 c ≡ Some s → over ≡ over_one s
      → IsAnswered value 0 (Checked (record { over = over; statuses = s ∷ [] }))
  of_count over s NoCount is all = absurd (none-some s is)
  of_count over s (Before before) is all =
      let same = same_Some (stands_at (before + 1) (Before before)) s is in
      subst (λ (t : Status). IsAnswered value 0 (Checked (record { over = over; statuses = t ∷ [] }))) same
      (charged before over (all ∙ ap over_one (sym same)))
  of_count over s (Seen seen) is all = by (nat_lt LIMIT seen) refl
    where
      by : (b : Bool) → nat_lt LIMIT seen ≡ b → IsAnswered value 0 (Checked (record { over = over; statuses = s ∷ [] }))
      by true e =
          let above : LIMIT < seen = grind (arith, nat_tests) in
          let shown : Some (stands_at seen (Seen seen)) ≡ Some s = sym (ap (λ b. cond b (Some (stands_at seen (Seen seen))) None) e) ∙ is in
          let same = same_Some (stands_at seen (Seen seen)) s shown in
          subst (λ (t : Status). IsAnswered value 0 (Checked (record { over = over; statuses = t ∷ [] }))) same
          (seen_above seen over above (all ∙ ap over_one (sym same)))
      by false e = absurd (none-some s (sym (ap (λ b. cond b (Some (stands_at seen (Seen seen))) None) e) ∙ is))

  -- statuses of the one descriptor
  of_statuses : (over : Bool) (statuses : List Status) → IsReplyOf load_config (request_for value) 0 false over statuses
      → IsAnswered value 0 (Checked (record { over = over; statuses = statuses }))
  of_statuses over [] reply = absurd reply.each
  of_statuses over (s ∷ []) reply = of_count over s s.count (sym (ap (λ (f : Found). status_of f 0 1 s.count) (finds value)) ∙ reply.each.0) reply.overall
  of_statuses over (s ∷ t ∷ more) reply = absurd reply.each.1

-- An answered check of a load was charged, or its counter was seen above the limit.
pub answered : (value moment : ℕ) (config : List DomainTree) (answer : Answer) → moment ≡ 0 → config ≡ load_config
    → IsReplyOf config (request_for value) moment false answer.over answer.statuses → IsAnswered value moment (Checked answer)
answered value moment config answer at by reply =
    subst (λ (m : ℕ). IsAnswered value m (Checked answer)) (sym at)
    (of_statuses value answer.over answer.statuses
    (subst (λ (m : ℕ). IsReplyOf load_config (request_for value) m false answer.over answer.statuses) at
    (subst (λ (c : List DomainTree). IsReplyOf c (request_for value) moment false answer.over answer.statuses) by reply)))
