-- What `parse` refuses of a text of digits is 2 ^ 64 or more.
use Rattle.std.proofs.Common.{◌≡◌, ◌≢◌, ℕ, ◌<◌, ◌^◌, ◌&&◌, List, [], ◌∷◌, length, get_or, Bool, true, false, nat_lt, nat_le, refl, sym, arith, Err, true≢false}
use Rattle.std.specs.Char.{is_ascii_digit, digit_value}
use Rattle.std.specs.List.{list_all}
use Rattle.std.specs.Str.Parse.{digits_value, AllDigits, IsNumeral, without_leading_plus}
use Rattle.std.proofs.lemmas.Bool.Decides.{nat_tests}
use Rattle.std.proofs.lemmas.Str.Parse.{without_leading_plus_none}
use Rattle.rate_types.specs.Durations.{is_numeral}
use Rattle.proto_json.specs.Kinds.{whole_text, at_most}

both : (a b : Bool) → (a && b) ≡ true → (a ≡ true) × (b ≡ true)
both true true h = (refl, refl)
both true false h = absurd (true≢false (sym h))
both false b h = absurd (true≢false (sym h))

digit : (c : ℕ) → is_ascii_digit c ≡ true → digit_value c < 10
digit c h = grind (arith, nat_tests)

no_plus : (c : ℕ) → is_ascii_digit c ≡ true → c ≢ 43
no_plus c h = grind (arith, nat_tests)

digits : (s : List ℕ) → list_all is_ascii_digit s ≡ true → AllDigits 10 s
digits [] h = tt
digits (c ∷ cs) h = let b = both (is_ascii_digit c) (list_all is_ascii_digit cs) h in (digit c b.0, digits cs b.1)

first_digit : (s : List ℕ) → list_all is_ascii_digit s ≡ true → get_or s 0 0 ≢ 43
first_digit [] h = λ e. omega (arith, e)
first_digit (c ∷ cs) h = let b = both (is_ascii_digit c) (list_all is_ascii_digit cs) h in no_plus c b.0

over : (greatest n : ℕ) → greatest < 2 ^ 64 → (n < 2 ^ 64 → ⊥) → at_most greatest n ≡ Err 7
over greatest n small large = grind (arith, nat_tests)

pub text_over : (greatest : ℕ) (s : List ℕ) → greatest < 2 ^ 64 → is_numeral 20 s ≡ true
    → (IsNumeral 10 (without_leading_plus s) × (digits_value 10 (without_leading_plus s) < 2 ^ 64) → ⊥) → Err 7 ≡ whole_text greatest s
text_over greatest s small is none =
    let parts = both (nat_lt 0 (length s) && nat_le (length s) 20) (list_all is_ascii_digit s) is in
    let lengths = both (nat_lt 0 (length s)) (nat_le (length s) 20) parts.0 in
    let same : without_leading_plus s ≡ s = without_leading_plus_none s (first_digit s parts.1) in
    let more : 0 < length s = grind (arith, nat_tests, lengths.0) in
    let large : digits_value 10 s < 2 ^ 64 → ⊥ = λ h. none (rw same ((more, digits s parts.1), h)) in
    rw is (sym (over greatest (digits_value 10 s) small large))
