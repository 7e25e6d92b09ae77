use Rattle.std.proofs.Common.{◌≡◌, ◌==◌, if◌then◌else◌, ℕ, ◌+◌, ◌≤◌, List, sym, ap, ◌∙◌, subst, arith}
use Rattle.rls_core.specs.declared.status.Status.{Status}
use Rattle.rule_stats.specs.declared.numbers.RuleNumbers.{RuleNumbers}
use Rattle.rule_stats.specs.Statistics.{nothing, numbers_of}
use Rattle.rule_stats.specs.Sums.{plus}
use Rattle.shared_stats.specs.declared.rule.Amount.{Amount}
use Rattle.shared_stats.specs.Words.{numbers_added}
use Rattle.shared_stats.specs.Noted.{as_notes, hits_in, AddsUp, AreFound}
use Rattle.shared_stats.specs.Adding.{IsBound}
use Rattle.shared_stats.proofs.Noting.{hits_more, adds_free, adds_other, adds_past, adds_one, numbers_bound}
use Rattle.shared_stats.proofs.shared_stats.SharedStats.note.Goals as goal

pub invariant_of-pass : goal.invariant_of-pass
invariant_of-pass c =
    let p = c.args.pass.now in
    let e = sym c.and-pass.ensures in
    record {
      bare = p.bare;
      one = p.one;
      few = p.few;
      below = p.below;
      counted = let a = p.counted in let b = hits_more p.notes.items c.args.hits c.args.status.now in
          subst (λ (l : List (ℕ × Status)). p.hits ≤ hits_in (as_notes l)) e (omega arith);
      sums = subst (λ (l : List (ℕ × Status)). AddsUp p.rules p.seat.me.0.added (as_notes l)) e
          (adds_free p.rules p.notes.items p.seat.me.0.added c.args.hits c.args.status.now p.sums (c.in_default.not-Some));
      found = p.found;
    }

pub invariant_of-pass-then-rule-self : goal.invariant_of-pass-then-rule-self
invariant_of-pass-then-rule-self c =
    let p = c.args.pass.now in
    let e = sym c.and-pass.ensures in
    let rules : p.rules ≡ c.args.self.now.rules = ap (λ x. x.1) c.requires.pass in
    record {
      bare = p.bare;
      one = p.one;
      few = p.few;
      below = p.below;
      counted = let a = p.counted in let b = hits_more p.notes.items c.args.hits c.args.status.now in
          subst (λ (l : List (ℕ × Status)). p.hits ≤ hits_in (as_notes l)) e (omega arith);
      sums = subst (λ (l : List (ℕ × Status)). AddsUp p.rules p.seat.me.0.added (as_notes l)) e
          (adds_other p.rules p.notes.items p.seat.me.0.added c.args.hits c.args.status.now c.in-Some.rule p.sums c.in-Some.is (let t = c.if-rule-self.true in omega arith));
      found = p.found;
    }

pub invariant_of-pass-then-more-pass : goal.invariant_of-pass-then-more-pass
invariant_of-pass-then-more-pass c =
    let p = c.args.pass.now in
    let e = sym c.and-pass.ensures in
    record {
      bare = p.bare;
      one = p.one;
      few = p.few;
      below = p.below;
      counted = let a = p.counted in let b = hits_more p.notes.items c.args.hits c.args.status.now in
          subst (λ (l : List (ℕ × Status)). p.hits ≤ hits_in (as_notes l)) e (omega arith);
      sums = subst (λ (l : List (ℕ × Status)). AddsUp p.rules p.seat.me.0.added (as_notes l)) e
          (adds_past p.rules p.notes.items p.seat.me.0.added c.args.hits c.args.status.now
          (let t = c.if-more-pass.true in let m = c.from-more.ensures in let a = p.counted in let f = p.few in omega arith));
      found = p.found;
    }

pub add_numbers-requires-clause-bound : goal.add_numbers-requires-clause-bound
add_numbers-requires-clause-bound c =
    subst (λ n. IsBound c.from-more.result n) (sym c.numbers_of-numbers.ensures)
    (subst (λ (m : ℕ). IsBound m (numbers_of c.args.status.now c.args.hits)) (sym c.from-more.ensures) (numbers_bound c.args.status.now c.args.hits))

pub invariant_of-pass-2 : goal.invariant_of-pass-2
invariant_of-pass-2 c =
    let p = c.args.pass.now in
    let e = sym c.and-pass.ensures in
    let a = c.add_numbers.ensures in
    let t = c.if-more-pass.false in
    let m = c.from-more.ensures in
    record {
      bare = a.rest.slots ∙ p.bare;
      one = a.rest.passes ∙ p.one;
      few = let f = p.few in omega arith;
      below = λ word. let b = a.most word in let f = p.below word in omega arith;
      counted = let f = p.counted in let b = hits_more p.notes.items c.args.hits c.args.status.now in
          subst (λ (l : List (ℕ × Status)). p.hits + c.from-more.result ≤ hits_in (as_notes l)) e (omega arith);
      sums = subst (λ (l : List (ℕ × Status)). AddsUp p.rules c.add_numbers.new.seat.me.0.added (as_notes l)) e
          (adds_one p.rules p.notes.items p.seat.me.0.added c.add_numbers.new.seat.me.0.added c.args.hits c.args.status.now c.in-Some.rule p.sums c.in-Some.is
          (λ rule. subst (λ (n : RuleNumbers). numbers_added c.add_numbers.new.seat.me.0.added rule
          ≡ plus (numbers_added p.seat.me.0.added rule) (if c.in-Some.rule.0 == rule then n else nothing)) c.numbers_of-numbers.ensures (a.added rule)));
      found = subst (λ (f : List Amount). AreFound p.rules f p.reads.items) (sym a.rest.found) p.found;
    }
