-- Statuses by the rules that their descriptors find, by tests.
use Rattle.std.proofs.Common.{◌≡◌, ℕ, suc, ◌+◌, ◌<◌, ◌==◌, ◌&&◌, ◌||◌, not, nat_lt, ◌≤◌, List, [], ◌∷◌, length, drop, get_or, map, Bool, true, false, cond, Option}
use Rattle.std.proofs.Common.{Some, None, refl, sym, ap, ◌∙◌, subst, arith}
use Rattle.std.specs.Bool.{Decides}
use Rattle.std.specs.List.{list_any}
use Rattle.std.proofs.lemmas.Bool.Decides.{Decides-eqb}
use Rattle.rate_types.specs.Requests.{RequestParts}
use Rattle.rate_types.specs.Units.{unit_rank}
use Rattle.rate_types.specs.declared.request.Descriptor.{Descriptor}
use Rattle.rate_types.specs.declared.request.OwnLimit.{OwnLimit}
use Rattle.rate_types.specs.declared.rule_id.RuleId.{RuleId}
use Rattle.rate_types.specs.declared.unit.Unit.{Unit}
use Rattle.window_keys.proofs.Counters.{same_unit}
use Rattle.descriptor_tree.specs.Trees.{DomainTree}
use Rattle.rule_lookup.specs.declared.found.Found.{Found}
use Rattle.rule_lookup.specs.declared.found.Found.TheVariants.{NoRule, Unlimited, Limited}
use Rattle.rls_core.specs.Reply.{hits_of, found_for, is_over_limit, AreStatuses, IsReplyOf}
use Rattle.rls_core.specs.Status.{status_of}
use Rattle.rls_core.specs.declared.status.Code.{Code}
use Rattle.rls_core.specs.declared.status.Code.TheVariants.{OverLimit}
use Rattle.rls_core.specs.declared.status.Code.TheVariants as code
use Rattle.rls_core.specs.declared.status.Count.{Count}
use Rattle.rls_core.specs.declared.status.Count.TheVariants.{NoCount, Before, Seen}
use Rattle.rls_core.specs.declared.status.Status.{Status}
use Rattle.run_audit.specs.Equal.{same_code, same_limit, same_count, same_shown, same_answer}
use Rattle.run_audit.specs.Ruled.{rule_in, with_rule, with_rules}
use Rattle.std.proofs.lemmas.List.{drop_more, drop_all, get_or-map}
use Rattle.rule_lookup.specs.Replaces.{found_among}
use Rattle.run_audit.proofs.Tests.{both, renamed, false_true}

code_is : (a b : Code) → Decides (same_code a b) (a ≡ b)
code_is code.Ok code.Ok = (λ h. refl, λ e. refl)
code_is OverLimit OverLimit = (λ h. refl, λ e. refl)
code_is code.Ok OverLimit = (λ h. absurd (false_true h), λ e. cc)
code_is OverLimit code.Ok = (λ h. absurd (false_true h), λ e. cc)

limits_is : (a b : OwnLimit) → Decides ((a.limit == b.limit) && (unit_rank a.unit == unit_rank b.unit)) (a ≡ b)
limits_is a b =
    let d = both (a.limit == b.limit) (unit_rank a.unit == unit_rank b.unit) (Decides-eqb a.limit b.limit) (Decides-eqb (unit_rank a.unit) (unit_rank b.unit)) in (
      λ h. ap (λ (n : ℕ). let o : OwnLimit = record { limit = n; unit = a.unit } in o) (d.0 h).0
          ∙ ap (λ (u : Unit). let o : OwnLimit = record { limit = b.limit; unit = u } in o) (same_unit a.unit b.unit (d.0 h).1),
      λ e. d.1 (ap (λ (o : OwnLimit). o.limit) e, ap (λ (o : OwnLimit). unit_rank o.unit) e),
    )

inside : {A : Type 0} (a b : A) → Some a ≡ Some b → a ≡ b
inside a b e = cc

limit_is : (a b : Option OwnLimit) → Decides (same_limit a b) (a ≡ b)
limit_is None None = (λ h. refl, λ e. refl)
limit_is (Some a) (Some b) = let d = limits_is a b in (λ h. ap Some (d.0 h), λ e. d.1 (inside a b e))
limit_is None (Some b) = (λ h. absurd (false_true h), λ e. cc)
limit_is (Some a) None = (λ h. absurd (false_true h), λ e. cc)

before_inside : (a b : ℕ) → Before a ≡ Before b → a ≡ b
before_inside a b e = cc

seen_inside : (a b : ℕ) → Seen a ≡ Seen b → a ≡ b
seen_inside a b e = cc

count_is : (a b : Count) → Decides (same_count a b) (a ≡ b)
count_is NoCount NoCount = (λ h. refl, λ e. refl)
count_is (Before a) (Before b) = let d = Decides-eqb a b in (λ h. ap Before (d.0 h), λ e. d.1 (before_inside a b e))
count_is (Seen a) (Seen b) = let d = Decides-eqb a b in (λ h. ap Seen (d.0 h), λ e. d.1 (seen_inside a b e))
count_is NoCount (Before b) = (λ h. absurd (false_true h), λ e. cc)
count_is NoCount (Seen b) = (λ h. absurd (false_true h), λ e. cc)
count_is (Before a) NoCount = (λ h. absurd (false_true h), λ e. cc)
count_is (Before a) (Seen b) = (λ h. absurd (false_true h), λ e. cc)
count_is (Seen a) NoCount = (λ h. absurd (false_true h), λ e. cc)
count_is (Seen a) (Before b) = (λ h. absurd (false_true h), λ e. cc)

-- equal but for the rules
shown_is : (a b : Status) → Decides (same_shown a b) (a ≡ record b { rule = a.rule })
shown_is a b =
    let d = both (same_code a.code b.code) (same_limit a.limit b.limit && ((a.remaining == b.remaining) && ((a.reset == b.reset) && same_count a.count b.count)))
    (code_is a.code b.code)
    (both (same_limit a.limit b.limit) ((a.remaining == b.remaining) && ((a.reset == b.reset) && same_count a.count b.count)) (limit_is a.limit b.limit)
    (both (a.remaining == b.remaining) ((a.reset == b.reset) && same_count a.count b.count) (Decides-eqb a.remaining b.remaining)
    (both (a.reset == b.reset) (same_count a.count b.count) (Decides-eqb a.reset b.reset) (count_is a.count b.count)))) in (
      λ h. let p = d.0 h in
          ap (λ (x : Code). let s : Status = record { code = x; limit = a.limit; remaining = a.remaining; reset = a.reset; rule = a.rule; count = a.count } in s) p.0
          ∙ ap (λ (x : Option OwnLimit). let s : Status = record { code = b.code; limit = x; remaining = a.remaining; reset = a.reset; rule = a.rule; count = a.count } in s) p.1.0
          ∙ ap (λ (x : ℕ). let s : Status = record { code = b.code; limit = b.limit; remaining = x; reset = a.reset; rule = a.rule; count = a.count } in s) p.1.1.0
          ∙ ap (λ (x : ℕ). let s : Status = record { code = b.code; limit = b.limit; remaining = b.remaining; reset = x; rule = a.rule; count = a.count } in s) p.1.1.1.0
          ∙ ap (λ (x : Count). let s : Status = record { code = b.code; limit = b.limit; remaining = b.remaining; reset = b.reset; rule = a.rule; count = x } in s) p.1.1.1.1,
      λ e. d.1 (
        ap (λ (s : Status). s.code) e,
        (ap (λ (s : Status). s.limit) e, (ap (λ (s : Status). s.remaining) e, (ap (λ (s : Status). s.reset) e, ap (λ (s : Status). s.count) e))),
      ),
    )

-- a status has the rule that was found
no_status : (w : Status) → None ≡ Some w → ⊥
no_status w e = cc

picked : (t : Bool) (x w : Status) → cond t (Some x) None ≡ Some w → x ≡ w
picked true x w e = inside x w e
picked false x w e = absurd (no_status w e)

rule_of : (found : Found) (moment hits : ℕ) (count : Count) (w : Status) → status_of found moment hits count ≡ Some w → rule_in found ≡ w.rule
rule_of NoRule moment hits NoCount w e = ap (λ (s : Status). s.rule) (inside _ w e)
rule_of NoRule moment hits (Before b) w e = absurd (no_status w e)
rule_of NoRule moment hits (Seen b) w e = absurd (no_status w e)
rule_of (Unlimited rule) moment hits NoCount w e = ap (λ (s : Status). s.rule) (inside _ w e)
rule_of (Unlimited rule) moment hits (Before b) w e = absurd (no_status w e)
rule_of (Unlimited rule) moment hits (Seen b) w e = absurd (no_status w e)
rule_of (Limited limit unit shadow rule) moment hits NoCount w e = absurd (no_status w e)
rule_of (Limited limit unit shadow rule) moment hits (Before b) w e = ap (λ (s : Status). s.rule) (picked (nat_lt 0 hits) _ w e)
rule_of (Limited limit unit shadow rule) moment hits (Seen b) w e = ap (λ (s : Status). s.rule) (picked ((hits == 0) || nat_lt limit b) _ w e)

pub status_by : (found : Found) (moment hits : ℕ) (s right : Status) (same : Bool) → same ≡ same_shown right s
    → status_of found moment hits s.count ≡ Some right → Decides same (status_of found moment hits s.count ≡ Some (with_rule found s))
status_by found moment hits s right same is at =
    let d = shown_is right s in
    let rule = rule_of found moment hits s.count right at in
    let named : record s { rule = right.rule } ≡ with_rule found s = ap (λ (r : Option RuleId). record s { rule = r }) (sym rule) in
    renamed same (same_shown right s) is (
      λ h. at ∙ ap Some (d.0 h ∙ named),
      λ e. d.1 (inside right (with_rule found s) (sym at ∙ e) ∙ sym named),
    )

-- ---- statuses, descriptor after descriptor

module _ (config : List DomainTree) (request : RequestParts) (moment : ℕ) where
  abbrev pub Stand : List Descriptor → List Status → Type 0
  Stand ds ss = AreStatuses config request moment ds (with_rules config request ds ss)

  abbrev pub Head : Descriptor → Status → Type 0
  Head d s = status_of (found_for config request d) moment (hits_of request d) s.count ≡ Some (with_rule (found_for config request d) s)

  pub as_many : (ds : List Descriptor) (ss : List Status) → Stand ds ss → length ss ≡ length ds
  as_many [] [] h = refl
  as_many [] (s ∷ ss) h = absurd h
  as_many (d ∷ ds) [] h = absurd h
  as_many (d ∷ ds) (s ∷ ss) h = ap suc (as_many ds ss h.1)

  pub taken : (xs ds : List Descriptor) (ys ss : List Status) (d : Descriptor) (s : Status) → xs ≡ d ∷ ds → ys ≡ s ∷ ss → Stand xs ys → Head d s × Stand ds ss
  taken xs ds ys ss d s ex ey h = subst (λ y. Stand (d ∷ ds) y) ey (subst (λ x. Stand x ys) ex h)

  pub put : (xs ds : List Descriptor) (ys ss : List Status) (d : Descriptor) (s : Status) → xs ≡ d ∷ ds → ys ≡ s ∷ ss → Head d s × Stand ds ss → Stand xs ys
  put xs ds ys ss d s ex ey h = subst (λ x. Stand x ys) (sym ex) (subst (λ y. Stand (d ∷ ds) y) (sym ey) h)

-- the status of the descriptor at a place
abbrev pub none : Status
none = record { code = code.Ok; limit = None; remaining = 0; reset = 0; rule = None; count = NoCount }

abbrev IsAt : ℕ → ℕ → Found → Status → Type 0
IsAt moment hits found s = status_of found moment hits s.count ≡ Some (with_rule found s)

module _ (config : List DomainTree) (request : RequestParts) (moment : ℕ) (ds : List Descriptor) (ss : List Status) (fs : List Found)
    (i hits : ℕ) (d : Descriptor) (s : Status) (same : Bool) where
  -- what a loop knows of the place
  pub record Place : Type 0 where
    pub within : i < length ds
    pub pairs : length ss ≡ length ds
    pub all : ds ≡ request.descriptors
    pub found : fs ≡ map (found_among config request.domain ds) ds
    pub here : d ≡ get_or ds i d
    pub status : s ≡ get_or ss i s
    pub counted : hits ≡ hits_of request d
    pub test : Decides same (IsAt moment hits (get_or fs i NoRule) s)

  found_at : Place → get_or fs i NoRule ≡ found_for config request d
  found_at p = ap (λ xs. get_or xs i NoRule) p.found ∙ get_or-map (found_among config request.domain ds) ds i d NoRule p.within
      ∙ ap (found_among config request.domain ds) (sym p.here) ∙ ap (λ xs. found_among config request.domain xs d) p.all

  head_is : Place → Decides same (Head config request moment d s)
  head_is p = subst (λ h. Decides same (IsAt moment h (found_for config request d) s)) p.counted
      (subst (λ f. Decides same (IsAt moment hits f s)) (found_at p) p.test)

  drop_ds : Place → drop i ds ≡ d ∷ drop (i + 1) ds
  drop_ds p = drop_more ds i d p.within ∙ ap (λ (x : Descriptor). x ∷ drop (i + 1) ds) (sym p.here)

  drop_ss : Place → drop i ss ≡ s ∷ drop (i + 1) ss
  drop_ss p = drop_more ss i s (omega (arith, p.within, p.pairs)) ∙ ap (λ (x : Status). x ∷ drop (i + 1) ss) (sym p.status)

  pub here_stands : Place → Stand config request moment (drop i ds) (drop i ss) → same ≡ true
  here_stands p h = (head_is p).1 (taken config request moment (drop i ds) (drop (i + 1) ds) (drop i ss) (drop (i + 1) ss) d s (drop_ds p) (drop_ss p) h).0

  pub rest_stands : Place → Stand config request moment (drop i ds) (drop i ss) → Stand config request moment (drop (i + 1) ds) (drop (i + 1) ss)
  rest_stands p h = (taken config request moment (drop i ds) (drop (i + 1) ds) (drop i ss) (drop (i + 1) ss) d s (drop_ds p) (drop_ss p) h).1

  pub both_stand : Place → same ≡ true → Stand config request moment (drop (i + 1) ds) (drop (i + 1) ss) → Stand config request moment (drop i ds) (drop i ss)
  both_stand p e h = put config request moment (drop i ds) (drop (i + 1) ds) (drop i ss) (drop (i + 1) ss) d s (drop_ds p) (drop_ss p) ((head_is p).0 e, h)

-- no status is left
pub all_stand : (config : List DomainTree) (request : RequestParts) (moment : ℕ) (ds : List Descriptor) (ss : List Status) (i : ℕ)
    → length ds ≤ i → length ss ≡ length ds → Stand config request moment (drop i ds) (drop i ss)
all_stand config request moment ds ss i over pairs =
    subst (λ x. Stand config request moment x (drop i ss)) (sym (drop_all i ds over))
    (subst (λ y. Stand config request moment [] y) (sym (drop_all i ss (omega (arith, over, pairs)))) tt)

-- ---- the overall code

answer_is : (a b : Bool) → Decides (same_answer a b) (a ≡ b)
answer_is true true = (λ h. refl, λ e. refl)
answer_is true false = (λ h. absurd (false_true h), λ e. absurd (false_true (sym e)))
answer_is false true = (λ h. absurd (false_true h), λ e. absurd (false_true e))
answer_is false false = (λ h. refl, λ e. refl)

over_same : (config : List DomainTree) (request : RequestParts) (ds : List Descriptor) (ss : List Status)
    → list_any (λ s. is_over_limit s.code) (with_rules config request ds ss) ≡ list_any (λ s. is_over_limit s.code) ss
over_same config request [] ss = refl
over_same config request (d ∷ ds) [] = refl
over_same config request (d ∷ ds) (s ∷ ss) = ap (λ b. is_over_limit s.code || b) (over_same config request ds ss)

pub reply_by : (config : List DomainTree) (request : RequestParts) (moment : ℕ) (global_shadow over : Bool) (ss : List Status) (a b : Bool)
    → Decides a (AreStatuses config request moment request.descriptors (with_rules config request request.descriptors ss))
    → b ≡ same_answer over (list_any (λ s. is_over_limit s.code) ss && not global_shadow)
    → Decides (a && b) (IsReplyOf config request moment global_shadow over (with_rules config request request.descriptors ss))
reply_by config request moment global_shadow over ss a b da is =
    let same = ap (λ x. x && not global_shadow) (over_same config request request.descriptors ss) in
    let db = renamed b (same_answer over (list_any (λ s. is_over_limit s.code) ss && not global_shadow)) is
    (answer_is over (list_any (λ s. is_over_limit s.code) ss && not global_shadow)) in
    let d = both a b da db in (
      λ h. record { each = (d.0 h).0; overall = (d.0 h).1 ∙ sym same },
      λ x. d.1 (x.each, x.overall ∙ same),
    )
