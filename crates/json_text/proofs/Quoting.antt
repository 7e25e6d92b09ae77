-- Texts that are written without an escape.
use Rattle.std.proofs.Common.{◌≡◌, ◌==◌, ℕ, List, [], ◌∷◌, ◌++◌, false, refl, ap, ◌∙◌}
use Rattle.std.specs.List.{list_any}
use Rattle.std.proofs.lemmas.Bool.{or_parts, eqb-false, ltb-false}
use Rattle.json.specs.Print.{escape, quoted}
use Rattle.json.specs.Run.{is_stop}
use Rattle.json.proofs.Printed.Strings.{escape_byte_plain}

-- no byte needs an escape
plain : (xs : List ℕ) → list_any is_stop xs ≡ false → escape xs ≡ xs
plain [] none = refl
plain (x ∷ xs) none =
    let each = or_parts (is_stop x) _ none in
    let low = or_parts _ _ each.0 in
    let tests = or_parts (x == 34) _ low.0 in
    ap (λ l. l ++ escape xs) (escape_byte_plain x (eqb-false x 34 tests.0) (eqb-false x 92 tests.1) (ltb-false x 32 low.1))
    ∙ ap (λ l. x ∷ l) (plain xs each.1)

pub plain_quoted : (xs : List ℕ) → list_any is_stop xs ≡ false → quoted xs ≡ 34 ∷ (xs ++ 34 ∷ [])
plain_quoted xs none = ap (λ l. 34 ∷ (l ++ 34 ∷ [])) (plain xs none)
