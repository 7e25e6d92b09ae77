use Rattle.std.proofs.Common.{◌≡◌, ◌+◌, ◌-◌, ◌<◌, ℕ, List, take, drop, length, sym, ap, ◌∙◌, subst, arith}
use Rattle.std.specs.Prelude.{slice_index, slice_index_or}
use Rattle.std.proofs.lemmas.List.{get_or-drop}
use Rattle.std.proofs.lemmas.Grind.{get_or_default_zero}
use Rattle.text_lines.specs.Lines.{cut}
use Rattle.script_text.proofs.script.Script.line.Goals as goal

pub returns-then-index-len : goal.returns-then-index-len
returns-then-index-len c d =
    let self = c.args.self.now in
    let bytes : List ℕ = self.bytes.now in
    let starts : List ℕ = self.starts.items in
    let i = c.args.index in
    let lines = self.lines in
    let more : i + 1 < length starts = omega (arith, c.if-index-len.true, c.len.ensures, self.starts.ok.0) in
    let here = lines.each i (omega arith) in
    let ends = lines.ends i more (lines.each (i + 1) more).0 in
    let s : slice_index starts i ≡ c.index-start.result.now = sym (get_or_default_zero starts i c.index-start.result.now (omega arith)) ∙ sym c.index-start.ensures in
    let n : slice_index starts (i + 1) ≡ c.index.result.now = sym (get_or_default_zero starts (i + 1) c.index.result.now more) ∙ sym c.index.ensures in
    let line : slice_index_or (cut bytes) i d ≡ take (slice_index starts (i + 1) - 1 - slice_index starts i) (drop (slice_index starts i) bytes) =
    sym (at_front (cut bytes) i d) ∙ sym (ap (λ l. slice_index_or l 0 d) here.1) ∙ ends.1 d in
    subst (λ (k : ℕ). slice_index_or (cut bytes) i d ≡ take (c.index.result.now - 1 - k) (drop k bytes)) s
    (subst (λ (k : ℕ). slice_index_or (cut bytes) i d ≡ take (k - 1 - slice_index starts i) (drop (slice_index starts i) bytes)) n line)
  where
    at_front : (xs : List (List ℕ)) (k : ℕ) (e : List ℕ) → slice_index_or (drop k xs) 0 e ≡ slice_index_or xs k e
    at_front xs k e = get_or-drop k xs 0 e ∙ ap (λ (j : ℕ). slice_index_or xs j e) zero_last
      where
        zero_last : k + 0 ≡ k
        zero_last = omega arith
