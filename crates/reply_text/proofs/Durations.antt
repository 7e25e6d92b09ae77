-- The text of a duration needs no escape.
use Rattle.std.proofs.Common.{◌≡◌, ℕ, ◌^◌, ◌<◌, List, [], ◌∷◌, ◌++◌, All, codes, decimal, arith, refl, ap, ◌∙◌, append_assoc}
use Rattle.std.proofs.lemmas.Fmt.{decimal_is_IsNumeral}
use Rattle.std.proofs.lemmas.Grind.{flat_map-append}
use Rattle.std.proofs.lemmas.List.Elements.{All-head, All-tail, All-from_get_or}
use Rattle.std.proofs.lemmas.Str.Parse.{digit_at}
use Rattle.std.specs.Int.{IsInRange}
use Rattle.json.specs.Print.{escape, escape_byte}
use Rattle.serde_json.specs.Data.{string}
use Rattle.serde_json.specs.Written.{compact_text}
use Rattle.json.proofs.Printed.Strings.{escape_byte_plain}
use Rattle.json.proofs.OnLiterals.{json_on_literals}

All-decimal : (n : ℕ) → n < 2 ^ 64 → All (IsInRange 48 57) (decimal n)
All-decimal n fits = All-from_get_or (IsInRange 48 57) (decimal n) 0 λ i h. digit_at (decimal n) i (decimal_is_IsNumeral n fits).0.1 h

escape_digits : (ds : List ℕ) → All (IsInRange 48 57) ds → escape ds ≡ ds
escape_digits [] h = refl
escape_digits (d ∷ ds) h =
    let one = All-head (IsInRange 48 57) d ds h in
    ap (λ l. l ++ escape ds) (escape_byte_plain d (λ e. omega arith) (λ e. omega arith) (omega arith))
    ∙ ap (λ l. d ∷ l) (escape_digits ds (All-tail (IsInRange 48 57) d ds h))

escape_s : escape (codes "s") ≡ codes "s"
unfolding json_on_literals
escape_s = refl

escape_duration : (n : ℕ) → n < 2 ^ 64 → escape (decimal n ++ codes "s") ≡ decimal n ++ codes "s"
escape_duration n fits =
    flat_map-append escape_byte (decimal n) (codes "s") ∙ ap (λ l. l ++ escape (codes "s")) (escape_digits (decimal n) (All-decimal n fits))
    ∙ ap (λ l. decimal n ++ l) escape_s

pub quoted_duration : (n : ℕ) → n < 2 ^ 64 → compact_text (string (decimal n ++ codes "s")) ≡ 34 ∷ (decimal n ++ codes "s\"")
quoted_duration n fits =
    ap (λ l. 34 ∷ (l ++ 34 ∷ [])) (escape_duration n fits) ∙ ap (λ l. 34 ∷ l) (append_assoc (decimal n) (codes "s") (34 ∷ []))
