-- What is put behind a text, and one line more of a metric.
use Rattle.std.proofs.Common.{◌≡◌, ◌<◌, ◌≤◌, ℕ, ◌+◌, List, [], ◌∷◌, ◌++◌, length, drop, get_or, flat_map, sym, ap, ◌∙◌, add-one, append_assoc, append-nil}
use Rattle.std.specs.List.{zip}
use Rattle.std.proofs.Math.Seq.{drop-cons}
use Rattle.std.proofs.lemmas.List.{drop_all}
use Rattle.rule_stats.specs.declared.numbers.RuleNumbers.{RuleNumbers}
use Rattle.prometheus_text.specs.declared.labels.Labels.{Labels}
use Rattle.prometheus_text.specs.declared.metric.Metric.{Metric}
use Rattle.prometheus_text.specs.Text.{counted_line}

pub grown_by_4 : (out a b d e : List ℕ) → (((out ++ a) ++ b) ++ d) ++ e ≡ out ++ (a ++ (b ++ (d ++ e)))
grown_by_4 out a b d e = simp append_assoc

pub grown_by_5 : (out a b d e f : List ℕ) → ((((out ++ a) ++ b) ++ d) ++ e) ++ f ≡ out ++ (a ++ (b ++ (d ++ (e ++ f))))
grown_by_5 out a b d e f = simp append_assoc

pub grown_by_6 : (out a b d e f g : List ℕ) → (((((out ++ a) ++ b) ++ d) ++ e) ++ f) ++ g ≡ out ++ (a ++ (b ++ (d ++ (e ++ (f ++ (g ++ []))))))
grown_by_6 out a b d e f g = simp (append_assoc, append-nil)

-- the lines of the rules
abbrev pub lines : Metric → List Labels → List RuleNumbers → List ℕ
lines m labels numbers = flat_map (λ r. counted_line m r.0 r.1) (zip labels numbers)

rest_at : {X : Type 0} (xs : List X) (i : ℕ) (d : X) → i < length xs → drop i xs ≡ get_or xs i d ∷ drop (i + 1) xs
rest_at xs i d within = rw (add-one i) (drop-cons xs i d within)

pub line_done : (m : Metric) (ls : List Labels) (ns : List RuleNumbers) (i : ℕ) (l : Labels) (d : RuleNumbers) (now after all : List ℕ)
    → i < length ls → i < length ns → l ≡ get_or ls i l
    → now ++ lines m (drop i ls) (drop i ns) ≡ all → after ≡ now ++ counted_line m l (get_or ns i d)
    → after ++ lines m (drop (i + 1) ls) (drop (i + 1) ns) ≡ all
line_done m ls ns i l d now after all within_ls within_ns at so_far grew =
    ap (λ (out : List ℕ). out ++ lines m (drop (i + 1) ls) (drop (i + 1) ns)) grew
    ∙ append_assoc now (counted_line m l (get_or ns i d)) (lines m (drop (i + 1) ls) (drop (i + 1) ns))
    ∙ ap (λ (xs : List RuleNumbers). now ++ lines m (l ∷ drop (i + 1) ls) xs) (sym (rest_at ns i d within_ns))
    ∙ ap (λ (xs : List Labels). now ++ lines m xs (drop i ns)) (sym (rest_at ls i l within_ls ∙ ap (λ (x : Labels). x ∷ drop (i + 1) ls) (sym at)))
    ∙ so_far

pub lines_done : (m : Metric) (ls : List Labels) (ns : List RuleNumbers) (i : ℕ) (now all : List ℕ) → length ls ≤ i
    → now ++ lines m (drop i ls) (drop i ns) ≡ all → now ≡ all
lines_done m ls ns i now all end so_far =
    sym (append-nil now) ∙ ap (λ (xs : List Labels). now ++ lines m xs (drop i ns)) (sym (drop_all i ls end)) ∙ so_far
