use Rattle.std.proofs.Common.{◌≡◌, ◌+◌, ◌==◌, ℕ, if◌then◌else◌, ◌∙◌, subst, arith}
use Rattle.shared_stats.specs.Rule.{added_to}
use Rattle.shared_stats.specs.Words.{word_of, number_at}
use Rattle.shared_stats.specs.Adding.{share}
use Rattle.shared_stats.proofs.Shares.{share_next, few_more}
use Rattle.shared_stats.proofs.adding.add_numbers.Goals as goal

pub numbers-preserved : goal.numbers-preserved
numbers-preserved c =
    let i = c.numbers.invariant in
    let rest = c.add.ensures.rest in
    let rule = c.args.rule in
    let n = c.args.numbers.now in
    let place = c.numbers.place in
    let mid = c.numbers.seat.me.0.added in
    let new = c.add.new.seat.me.0.added in
    record {
      rest = record {
        table = rest.table ∙ i.rest.table;
        found = rest.found ∙ i.rest.found;
        passes = rest.passes ∙ i.rest.passes;
        slots = rest.slots ∙ i.rest.slots;
      };
      shares = λ r p within.
          let a = i.shares r p within in
          let b : added_to (word_of r p) new ≡ added_to (word_of r p) mid + (if word_of rule place == word_of r p then number_at n place else 0) =
          subst (λ (w : ℕ). added_to (word_of r p) new ≡ added_to (word_of r p) mid + (if w == word_of r p then number_at n place else 0)) c.word_of.ensures
          (subst (λ (k : ℕ). added_to (word_of r p) new ≡ added_to (word_of r p) mid + (if c.word_of.result == word_of r p then k else 0)) c.number_at.ensures
          (c.add.ensures.added (word_of r p))) in
          let d = share_next rule n place r p (let t = c.numbers-test.true in omega arith) within in
          omega arith;
    }

pub returns-clause-most : goal.returns-clause-most
returns-clause-most c =
    let i = c.numbers.invariant in
    let n = c.args.numbers.now in
    let ends : c.numbers.place ≡ 6 = let t = c.numbers-test.false in let e = c.numbers.auto.place-end in omega arith in
    few_more c.args.most c.args.rule n c.args.seat.now.me.0.added c.numbers.seat.me.0.added c.requires.bound
    (λ r p within. subst (λ (k : ℕ). added_to (word_of r p) c.numbers.seat.me.0.added
    ≡ added_to (word_of r p) c.args.seat.now.me.0.added + share c.args.rule n k r p) ends (i.shares r p within))
