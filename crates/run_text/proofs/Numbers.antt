-- Numbers as texts of records show them.
use Rattle.std.proofs.Common.{◌≡◌, ℕ, ◌+◌, ◌-◌, ◌*◌, ◌^◌, ◌<◌, ◌≤◌, List, [], ◌∷◌, ◌++◌, length, take, min, Some, decimal, refl, sym, ap, ◌∙◌, subst, arith, lt-ltb, length-append}
use Rattle.std.specs.Prelude.{fold, codes}
use Rattle.std.specs.Char.{digit_value}
use Rattle.std.specs.Str.Parse.{AllDigits, digits_value_after}
use Rattle.std.proofs.lemmas.Fmt.{decimal_is_IsNumeral}
use Rattle.std.proofs.lemmas.Str.{digit_value_digit}
use Rattle.std.proofs.lemmas.Str.Parse.{digit_at}
use Rattle.std.proofs.Math.Seq.{take-append_seam}
use Rattle.serde_json.specs.Data.{number, unsigned}
use Rattle.rate_types.specs.declared.limits.TheConstants.{LATEST_MOMENT}
use Rattle.run_text.specs.Members.{below, whole_of, u32_of, moment_of, one_more, number_before_last}

pub whole_back : (n : ℕ) → n < 2 ^ 64 → whole_of (Some (number (unsigned n))) ≡ n
whole_back n h = rw (lt-ltb n (2 ^ 64) h)

pub u32_back : (n : ℕ) → n < 2 ^ 32 → u32_of (Some (number (unsigned n))) ≡ n
u32_back n h = let w : n < 2 ^ 64 = omega arith in ap (below (2 ^ 32)) (whole_back n w) ∙ rw (lt-ltb n (2 ^ 32) h)

pub moment_back : (n : ℕ) → n ≤ LATEST_MOMENT → moment_of (Some (number (unsigned n))) ≡ n
moment_back n h = let w : n < 2 ^ 64 = omega arith in ap (λ m. min m LATEST_MOMENT) (whole_back n w) ∙ omega arith

-- a number doesn't fall by further digits
after_grows : (n : ℕ) (ds : List ℕ) → n ≤ digits_value_after 10 n ds
after_grows n [] = omega arith
after_grows n (d ∷ ds) = omega (arith, after_grows (n * 10 + digit_value d) ds)

one_more_is : (n d v : ℕ) → v + 48 ≡ d → n * 10 + v < 2 ^ 64 → one_more n d ≡ n * 10 + v
one_more_is n d v is few = omega arith

le_lt : (a b : ℕ) → a ≤ b → b < 2 ^ 64 → a < 2 ^ 64
le_lt a b h k = omega arith

digits_back : (n : ℕ) (ds : List ℕ) → AllDigits 10 ds → digits_value_after 10 n ds < 2 ^ 64 → fold one_more n ds ≡ digits_value_after 10 n ds
digits_back n [] h few = refl
digits_back n (d ∷ ds) h few =
    let is : (48 ≤ d) × (d ≤ 57) = digit_at (d ∷ ds) 0 h (omega arith) in
    let same = one_more_is n d (digit_value d) (digit_value_digit d is) (le_lt _ _ (after_grows (n * 10 + digit_value d) ds) few) in
    ap (λ m. fold one_more m ds) same ∙ digits_back (n * 10 + digit_value d) ds h.1 few

before_last : (ds : List ℕ) → take (length (ds ++ codes "s") - 1) (ds ++ codes "s") ≡ ds
before_last ds =
    let front : length (ds ++ codes "s") - 1 ≡ length ds = omega (arith, length-append ds (codes "s")) in
    ap (λ n. take n (ds ++ codes "s")) front ∙ take-append_seam ds (codes "s")

pub seconds_back : (n : ℕ) → n < 2 ^ 64 → number_before_last (decimal n ++ codes "s") ≡ n
seconds_back n h =
    let e = decimal_is_IsNumeral n h in
    let cut = before_last (decimal n) in
    ap (fold one_more 0) cut ∙ digits_back 0 (decimal n) e.0.1 (subst (λ m. m < 2 ^ 64) (sym e.1) h) ∙ e.1
