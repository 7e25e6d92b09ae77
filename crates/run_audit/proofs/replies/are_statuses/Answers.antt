use Rattle.std.proofs.Common.{◌≡◌, ℕ, List, length, get_or, map, true, false, refl, sym, ap, ◌∙◌, subst, arith}
use Rattle.std.proofs.lemmas.List.{get_or_default}
use Rattle.rule_lookup.specs.Replaces.{found_among}
use Rattle.run_audit.proofs.StatusesBy.{Stand, Place, none, as_many, here_stands, rest_stands, both_stand, all_stand}
use Rattle.run_audit.proofs.replies.are_statuses.Goals as goal

false_true : false ≡ true → ⊥
false_true e = cc

pub returns-then-statuses-descriptors : goal.returns-then-statuses-descriptors
returns-then-statuses-descriptors c = (
  λ e. absurd (false_true e),
  λ h. absurd (c.if-statuses-descriptors.true
      (as_many c.args.index.now c.args.request.now c.args.moment c.args.request.now.descriptors c.args.statuses.now h ∙ ap length (sym c.descriptors-descriptors.ensures.all))),
)

place_false : (c : goal.Then-not-is_status) → Place c.args.index.now c.args.request.now c.args.moment c.descriptors-descriptors.result.now c.args.statuses.now
    c.deref.result.now c.descriptors.i c.hits_of-hits.result c.index-descriptors-i.result (get_or c.args.statuses.now c.descriptors.i none) c.is_status.result
place_false c = record {
  within = omega arith;
  pairs = c.if-statuses-descriptors.false;
  all = c.descriptors-descriptors.ensures.all;
  found = c.deref.ensures.0 ∙ c.find_rules-rules.ensures ∙ ap (λ (d : List ℕ). map (found_among c.args.index.now d c.descriptors-descriptors.result.now)
      c.descriptors-descriptors.result.now) c.domain.ensures.same;
  here = c.index-descriptors-i.is;
  status = get_or_default c.args.statuses.now c.descriptors.i none (get_or c.args.statuses.now c.descriptors.i none) (omega arith);
  counted = c.hits_of-hits.ensures;
  test = c.is_status.ensures;
}

pub returns-then-not-is_status : goal.returns-then-not-is_status
returns-then-not-is_status c =
    let all : c.args.request.now.descriptors ≡ c.descriptors-descriptors.result.now = sym c.descriptors-descriptors.ensures.all in (
      λ e. absurd (false_true e),
      λ h.
          let left = c.descriptors.invariant.1 (subst (λ ds. Stand c.args.index.now c.args.request.now c.args.moment ds c.args.statuses.now) all h) in
          let yes = here_stands _ _ _ _ _ _ _ _ _ _ _ (place_false c) left in
          absurd (false_true (sym c.if-not-is_status.true ∙ yes)),
    )

place_true : (c : goal.Else-not-is_status) → Place c.args.index.now c.args.request.now c.args.moment c.descriptors-descriptors.result.now c.args.statuses.now
    c.deref.result.now c.descriptors.i c.hits_of-hits.result c.index-descriptors-i.result (get_or c.args.statuses.now c.descriptors.i none) c.is_status.result
place_true c = record {
  within = omega arith;
  pairs = c.if-statuses-descriptors.false;
  all = c.descriptors-descriptors.ensures.all;
  found = c.deref.ensures.0 ∙ c.find_rules-rules.ensures ∙ ap (λ (d : List ℕ). map (found_among c.args.index.now d c.descriptors-descriptors.result.now)
      c.descriptors-descriptors.result.now) c.domain.ensures.same;
  here = c.index-descriptors-i.is;
  status = get_or_default c.args.statuses.now c.descriptors.i none (get_or c.args.statuses.now c.descriptors.i none) (omega arith);
  counted = c.hits_of-hits.ensures;
  test = c.is_status.ensures;
}

pub descriptors-preserved : goal.descriptors-preserved
descriptors-preserved c = (
  λ h. c.descriptors.invariant.0 (both_stand _ _ _ _ _ _ _ _ _ _ _ (place_true c) c.if-not-is_status.false h),
  λ h. rest_stands _ _ _ _ _ _ _ _ _ _ _ (place_true c) (c.descriptors.invariant.1 h),
)

pub returns : goal.returns
returns c =
    let all : c.descriptors-descriptors.result.now ≡ c.args.request.now.descriptors = c.descriptors-descriptors.ensures.all in
    let stand = c.descriptors.invariant.0 (all_stand c.args.index.now c.args.request.now c.args.moment c.descriptors-descriptors.result.now c.args.statuses.now
    c.descriptors.i (omega arith) c.if-statuses-descriptors.false) in
    (λ e. subst (λ ds. Stand c.args.index.now c.args.request.now c.args.moment ds c.args.statuses.now) all stand, λ h. refl)
