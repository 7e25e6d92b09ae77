-- Where the head at the front of the bytes ends.
use Rattle.std.proofs.Common.{◌≡◌, ℕ, ◌+◌, ◌-◌, ◌≤◌, Bool, true, false, List, [], ◌∷◌, length, take, drop, Option, Some, None, option_map, refl, ap, arith}
use Rattle.httparse.specs.Grammar.{RequestHead}
use Rattle.httparse.specs.Spans.{IsRequestAt}
use Rattle.httparse.specs.declared.spans.HeaderSpan.{HeaderSpan}
use Rattle.httparse.specs.declared.spans.RequestSpans.{RequestSpans}
use Rattle.http_front.specs.Head.{is_line_end, after_blank, empty_line_end, head_length, HeadReads}
use Rattle.std.proofs.lemmas.List.{length-map, drop_all}
use Rattle.std.proofs.Common.{le_refl, length-take}

pub after_blank-le : (bytes : List ℕ) → length (after_blank bytes) ≤ length bytes
after_blank-le [] = omega arith
after_blank-le (b ∷ bytes) = by (after_blank-le bytes) (is_line_end b bytes) refl
  where
    by : length (after_blank bytes) ≤ length bytes → (t : Bool) → is_line_end b bytes ≡ t → length (after_blank (b ∷ bytes)) ≤ length (b ∷ bytes)
    by less true is = rw is (omega arith)
    by less false is = rw is (omega arith)

-- the head is the line ends before it, and then the rest up to its empty line
pub head_length_is : (bytes : List ℕ) → head_length bytes ≡ option_map (λ n. length bytes - length (after_blank bytes) + n) (empty_line_end (after_blank bytes))
head_length_is [] = refl
head_length_is (b ∷ bytes) = by (head_length_is bytes) (is_line_end b bytes) refl
  where
    more : (o : Option ℕ) → head_length bytes ≡ option_map (λ n. length bytes - length (after_blank bytes) + n) o
        → option_map (λ n. n + 1) (head_length bytes) ≡ option_map (λ n. length (b ∷ bytes) - length (after_blank bytes) + n) o
    more None h = rw h refl
    more (Some n) h = rw h (ap Some (omega (arith, after_blank-le bytes)))

    plain : (o : Option ℕ) (k : ℕ) → o ≡ option_map (λ n. k - k + n) o
    plain None k = refl
    plain (Some n) k = ap Some (omega arith)

    by : head_length bytes ≡ option_map (λ n. length bytes - length (after_blank bytes) + n) (empty_line_end (after_blank bytes))
        → (t : Bool) → is_line_end b bytes ≡ t
        → head_length (b ∷ bytes) ≡ option_map (λ n. length (b ∷ bytes) - length (after_blank (b ∷ bytes)) + n) (empty_line_end (after_blank (b ∷ bytes)))
    by h true is = rw is (more (empty_line_end (after_blank bytes)) h)
    by h false is = rw is (plain (empty_line_end (b ∷ bytes)) (length (b ∷ bytes)))

-- what `parse_request` found is the head, where it takes all the bytes
pub head_reads : (bytes : List ℕ) (headers : List HeaderSpan) (spans : RequestSpans) (head : RequestHead)
    → length headers ≡ 64 → spans.len ≡ length bytes → IsRequestAt bytes headers spans head → HeadReads bytes (Some head)
head_reads bytes headers spans head room whole at =
    let none : drop spans.len bytes ≡ [] = rw whole (drop_all _ bytes (le_refl _)) in
    let fields : length (take spans.headers headers) ≡ length head.fields = simp length-map at (ap length at.fields) in
    (rw none at at.reads, omega (arith, length-take spans.headers headers))
