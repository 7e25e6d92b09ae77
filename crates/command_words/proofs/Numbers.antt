-- What `parse` reads of a text.
use Rattle.std.proofs.Common.{◌≡◌, ℕ, ◌<◌, ◌&&◌, List, [], ◌∷◌, length, Bool, true, false, nat_lt, Some, None, refl, sym, arith, true≢false, ap}
use Rattle.std.specs.Char.{digit_value}
use Rattle.std.specs.List.{list_all}
use Rattle.std.specs.Str.Parse.{digits_value, AllDigits, IsNumeral, without_leading_plus}
use Rattle.std.proofs.lemmas.Bool.Decides.{nat_tests}
use Rattle.command_words.specs.Words.{are_digits, number_of}

lower : (a b : ℕ) → a < b → nat_lt a b ≡ true
lower a b h = grind (arith, nat_tests)

below : (a b : ℕ) → nat_lt a b ≡ true → a < b
below a b h = grind (arith, nat_tests)

digits_pass : (ds : List ℕ) → AllDigits 10 ds → list_all (λ d. nat_lt (digit_value d) 10) ds ≡ true
digits_pass [] h = refl
digits_pass (d ∷ ds) h = rw (lower (digit_value d) 10 h.0) (digits_pass ds h.1)

both : (a b : Bool) → (a && b) ≡ true → (a ≡ true) × (b ≡ true)
both true b e = (refl, e)
both false b e = absurd (true≢false (sym e))

digits_from : (ds : List ℕ) → list_all (λ d. nat_lt (digit_value d) 10) ds ≡ true → AllDigits 10 ds
digits_from [] e = tt
digits_from (d ∷ ds) e = let parts = both _ _ e in (below _ _ parts.0, digits_from ds parts.1)

-- what `parse` answers of a text that it reads
abbrev Spells : List ℕ → Type 0
Spells text = IsNumeral 10 (without_leading_plus text) × (digits_value 10 (without_leading_plus text) < 18446744073709551616)

pub number_read : (text : List ℕ) (n : ℕ) → Spells text → n ≡ digits_value 10 (without_leading_plus text) → Some n ≡ number_of text
number_read text n h is =
    let ds = without_leading_plus text in
    rw (lower 0 (length ds) h.0.0, digits_pass ds h.0.1, lower (digits_value 10 ds) 18446744073709551616 h.1) (ap Some is)

pub number_unread : (text : List ℕ) → (Spells text → ⊥) → None ≡ number_of text
number_unread text h = go (are_digits (without_leading_plus text)) refl
  where
    go : (b : Bool) → are_digits (without_leading_plus text) ≡ b → None ≡ number_of text
    go false t = rw t refl
    go true t =
        let outer = both _ _ t in
        let inner = both _ _ outer.1 in
        absurd (h ((below _ _ outer.0, digits_from (without_leading_plus text) inner.0), below _ _ inner.1))
