use Rattle.std.proofs.Common.{◌≡◌, ◌+◌, ◌<◌, ◌++◌, ◌∷◌, [], ℕ, List, rules, drop, length, sym, ap, ◌∙◌, subst, arith}
use Rattle.std.specs.Prelude.{slice_index}
use Rattle.std.proofs.lemmas.List.{length_push}
use Rattle.text_lines.specs.Lines.{cut}
use Rattle.script_text.specs.LineStarts.{BeginsAt, EndsAt}
use Rattle.script_text.proofs.LineStarts.{left_behind, one_left, one_more, ends_more, last_more, all_found}
use Rattle.script_text.proofs.script.Script.read.Goals as goal

pub lines-preserved : goal.lines-preserved
lines-preserved c =
    let bytes : List ℕ = c.args.bytes.now in
    let starts : List ℕ = c.lines.starts.items in
    let pushed : c.push.new.self.items ≡ starts ++ c.lines.start ∷ [] = search rules in
    let long = length_push starts c.lines.start in
    let same = ap (length {A = ℕ}) pushed in
    let more = one_left bytes c.lines.start (length starts) c.lines-test.true c.lines.invariant.left in
    record {
      few = search rules;
      within = omega (arith, more, long, same);
      left = subst (λ (n : ℕ). cut (drop c.next_start-start.result bytes) ≡ drop n (cut bytes)) (sym long ∙ sym same)
          (left_behind bytes c.lines.start (length starts) c.next_start-start.result c.lines.invariant.left c.next_start-start.ensures.cut);
      each = subst (λ (l : List ℕ). (i : ℕ) → i < length l → BeginsAt bytes i (slice_index l i)) (sym pushed)
          (one_more bytes starts c.lines.start c.lines-test.true c.lines.invariant.left c.lines.invariant.each);
      ends = subst (λ (l : List ℕ). (i : ℕ) → i + 1 < length l → EndsAt bytes (slice_index l i) (slice_index l (i + 1))) (sym pushed)
          (ends_more bytes starts c.lines.start c.lines.invariant.ends c.lines.invariant.last);
      last = subst (λ (l : List ℕ). (i : ℕ) → i + 1 ≡ length l → EndsAt bytes (slice_index l i) c.next_start-start.result) (sym pushed)
          (last_more bytes starts c.lines.start c.next_start-start.result c.next_start-start.ensures.ends);
    }

pub invariant_of-result-clause-lines : goal.invariant_of-result-clause-lines
invariant_of-result-clause-lines c =
    all_found c.args.bytes.now c.lines.starts.items c.lines.start (omega (arith, c.lines-test.false)) c.lines.invariant.within c.lines.invariant.left c.lines.invariant.each
    c.lines.invariant.ends

pub returns-then-len-clause-more : goal.returns-then-len-clause-more
returns-then-len-clause-more c = λ n is.
    let count : c.len-then-len.result + 1 ≡ n = cc in
    omega (arith, count, c.len-then-len.ensures, one_left c.args.bytes.now c.lines.start (length c.lines.starts.items) c.lines-test.true c.lines.invariant.left)
