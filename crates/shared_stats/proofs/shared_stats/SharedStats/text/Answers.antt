use Rattle.std.proofs.Common.{codes, ◌≡◌, ◌≤◌, ◌^◌, ◌++◌, [], ◌∷◌, ◌+◌, ◌∙◌, List, ℕ, false, sym, ap, subst, string_bytes, arith, append_assoc}
use Rattle.serde_json.specs.Written.{items_text}
use Rattle.rule_stats.specs.declared.numbers.RuleNumbers.{RuleNumbers}
use Rattle.shared_stats.specs.Passes.{notes_of, reads_of}
use Rattle.rls_core.specs.declared.status.Status.{Status}
use Rattle.shared_stats.specs.Noted.{as_notes, hits_in, IsAtMost}
use Rattle.shared_stats.specs.Reading.{IsReading}
use Rattle.shared_stats.specs.Text.{counted_items}
use Rattle.rule_stats.specs.Sums.{sums}
use Rattle.shared_stats.proofs.Texts.{read_more, append_nil, spelled}
use Rattle.shared_stats.proofs.shared_stats.SharedStats.text.Goals as goal

pub numbers-numbers-requires-clause-pass : goal.numbers-numbers-requires-clause-pass
numbers-numbers-requires-clause-pass c = c.rules.invariant.pass ∙ c.requires.pass

pub rules-preserved : goal.rules-preserved
rules-preserved c =
    let i = c.rules.invariant in
    let e = c.numbers-numbers.ensures in
    let n = c.numbers-numbers.result in
    let rule = c.rules.rule in
    let notes = notes_of c.args.pass.now in
    let found = i.text.0 in
    let least : hits_in notes ≤ 2 ^ 57 → IsAtMost (sums 0 rule notes) n =
    subst (λ (l : List (ℕ × Status)). hits_in (as_notes l) ≤ 2 ^ 57 → IsAtMost (sums 0 rule (as_notes l)) n) i.noted e.least in
    record {
      pass = e.pass ∙ i.pass;
      noted = e.noted ∙ i.noted;
      text = (
        found ++ n ∷ [],
        read_more rule notes _ _ _ found n i.text.1 e.reads least,
        λ more. c.in_ok-later.ensures (counted_items (rule + 1) more) ∙ i.text.2 (n ∷ more)
            ∙ ap (λ (l : List RuleNumbers). string_bytes c.push_str.new.self ++ items_text false (counted_items 0 l)) (sym (append_assoc found (n ∷ []) more)),
      );
    }

pub returns-clause-text : goal.returns-clause-text
returns-clause-text c =
    let i = c.rules.invariant in
    let found = i.text.0 in
    let ends : c.rules.rule ≡ c.args.self.now.rules = let t = c.rules-test.false in let a = c.rules.auto.rule-end in omega arith in
    let whole : string_bytes c.push_str-2.new.self ≡ string_bytes c.push_str.new.self ++ (items_text false (counted_items 0 found) ++ 125 ∷ []) =
    c.in_ok-push_str-2.ensures.bytes ∙ sym (append_assoc (string_bytes c.rules.out) (93 ∷ []) (125 ∷ []))
    ∙ ap (λ (l : List ℕ). l ++ 125 ∷ []) (i.text.2 [] ∙ ap (λ (l : List RuleNumbers). string_bytes c.push_str.new.self ++ items_text false (counted_items 0 l)) (append_nil found))
    ∙ append_assoc (string_bytes c.push_str.new.self) (items_text false (counted_items 0 found)) (125 ∷ []) in (
      found,
      subst (λ (k : ℕ). IsReading k (notes_of c.args.pass.now) (reads_of c.args.pass.now) (reads_of c.rules.pass) found) ends i.text.1,
      whole ∙ ap (λ (l : List ℕ). l ++ (items_text false (counted_items 0 found) ++ 125 ∷ [])) (c.in_ok-push_str.ensures.bytes
          ∙ ap (λ (l : List ℕ). l ++ codes "{\"rules\":[") c.new-out.ensures.bytes) ∙ spelled found,
    )
