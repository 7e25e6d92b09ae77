-- Where the lines of bytes begin, found one after the other.
use Rattle.std.proofs.Common.{◌≡◌, ℕ, ◌+◌, ◌-◌, ◌<◌, ◌≤◌, List, [], ◌∷◌, ◌++◌, length, drop, refl, sym, ap, ◌∙◌, subst, arith, inl, inr, length-drop}
use Rattle.std.specs.Prelude.{slice_index}
use Rattle.std.proofs.lemmas.Bool.{cases_lt}
use Rattle.std.proofs.lemmas.List.{drop-drop, get_or_push, length_push}
use Rattle.std.proofs.Math.ListN.{get_or-append}
use Rattle.text_lines.specs.Lines.{cut}
use Rattle.text_lines.proofs.Cutting.{cut_some, cut_none}
use Rattle.script_text.specs.LineStarts.{BeginsAt, EndsAt, AreLineStarts}

-- what is left behind one line more
pub left_behind : (bytes : List ℕ) (start number next : ℕ) → cut (drop start bytes) ≡ drop number (cut bytes) → cut (drop next bytes) ≡ drop 1 (cut (drop start bytes))
    → cut (drop next bytes) ≡ drop (number + 1) (cut bytes)
left_behind bytes start number next here behind = behind ∙ ap (drop 1) here ∙ drop-drop 1 number (cut bytes)

-- a line is left where bytes are
pub one_left : (bytes : List ℕ) (start number : ℕ) → start < length bytes → cut (drop start bytes) ≡ drop number (cut bytes) → number < length (cut bytes)
one_left bytes start number more here =
    let some = cut_some (drop start bytes) (omega (arith, length-drop start bytes)) in
    omega (arith, some, ap length here, length-drop number (cut bytes))

-- one start more
pub one_more : (bytes starts : List ℕ) (start : ℕ) → start < length bytes → cut (drop start bytes) ≡ drop (length starts) (cut bytes)
    → ((i : ℕ) → i < length starts → BeginsAt bytes i (slice_index starts i))
    → (i : ℕ) → i < length (starts ++ start ∷ []) → BeginsAt bytes i (slice_index (starts ++ start ∷ []) i)
one_more bytes starts start more here each i low = elim (cases_lt i (length starts)) [
  | inl before ↦ subst (BeginsAt bytes i) (sym (get_or-append starts (start ∷ []) 0 i before)) (each i before)
  | inr after ↦
      let last : length starts ≡ i = omega (arith, low, after, length_push starts start) in
      subst (λ n. BeginsAt bytes n (slice_index (starts ++ start ∷ []) n)) last
      (subst (BeginsAt bytes (length starts)) (sym (get_or_push starts start 0 (length starts) refl)) (more, here))
]

-- where the lines before the last end, with one start more
pub ends_more : (bytes starts : List ℕ) (start : ℕ) → ((i : ℕ) → i + 1 < length starts → EndsAt bytes (slice_index starts i) (slice_index starts (i + 1)))
    → ((i : ℕ) → i + 1 ≡ length starts → EndsAt bytes (slice_index starts i) start)
    → (i : ℕ) → i + 1 < length (starts ++ start ∷ []) → EndsAt bytes (slice_index (starts ++ start ∷ []) i) (slice_index (starts ++ start ∷ []) (i + 1))
ends_more bytes starts start ends last i low = elim (cases_lt (i + 1) (length starts)) [
  | inl before ↦
      subst (λ n. EndsAt bytes n (slice_index (starts ++ start ∷ []) (i + 1))) (sym (get_or-append starts (start ∷ []) 0 i (omega arith)))
      (subst (EndsAt bytes (slice_index starts i)) (sym (get_or-append starts (start ∷ []) 0 (i + 1) before)) (ends i before))
  | inr after ↦
      let here : i + 1 ≡ length starts = omega (arith, low, after, length_push starts start) in
      subst (λ n. EndsAt bytes n (slice_index (starts ++ start ∷ []) (i + 1))) (sym (get_or-append starts (start ∷ []) 0 i (omega arith)))
      (subst (EndsAt bytes (slice_index starts i)) (sym (get_or_push starts start 0 (i + 1) (sym here))) (last i here))
]

-- where the last line ends
pub last_more : (bytes starts : List ℕ) (start next : ℕ) → EndsAt bytes start next
    → (i : ℕ) → i + 1 ≡ length (starts ++ start ∷ []) → EndsAt bytes (slice_index (starts ++ start ∷ []) i) next
last_more bytes starts start next ends i last =
    let here : i ≡ length starts = omega (arith, length_push starts start) in
    subst (λ n. EndsAt bytes n next) (sym (get_or_push starts start 0 i (sym here))) ends

-- all of them, where no bytes are left
pub all_found : (bytes starts : List ℕ) (start : ℕ) → length bytes ≤ start → length starts ≤ length (cut bytes) → cut (drop start bytes) ≡ drop (length starts) (cut bytes)
    → ((i : ℕ) → i < length starts → BeginsAt bytes i (slice_index starts i))
    → ((i : ℕ) → i + 1 < length starts → EndsAt bytes (slice_index starts i) (slice_index starts (i + 1))) → AreLineStarts bytes starts
all_found bytes starts start none few here each ends =
    let nothing = cut_none (drop start bytes) (omega (arith, length-drop start bytes)) in record {
      all = omega (arith, ap length here, ap length nothing, length-drop (length starts) (cut bytes));
      each = each;
      ends = ends;
    }
