-- Texts that are written without an escape.
use Rattle.std.proofs.Common.{◌≡◌, ◌==◌, ℕ, zero, suc, ◌<◌, List, [], ◌∷◌, ◌++◌, take, drop, get_or, position, Some, false, refl, sym, ap, ◌∙◌, append_assoc, arith}
use Rattle.std.proofs.lemmas.Bool.{or_parts, eqb-false, ltb-false}
use Rattle.std.proofs.lemmas.List.{take-append-drop}
use Rattle.std.proofs.lemmas.List.Quantifiers.{position-Some}
use Rattle.json.specs.Print.{escape, quoted}
use Rattle.json.specs.Run.{is_stop}
use Rattle.json.proofs.Printed.Strings.{escape_byte_plain}

unescaped : (xs : List ℕ) (i : ℕ) → ((k : ℕ) → k < i → is_stop (get_or xs k 0) ≡ false) → escape (take i xs) ≡ take i xs
unescaped [] zero plain = refl
unescaped [] (suc i) plain = refl
unescaped (x ∷ xs) zero plain = refl
unescaped (x ∷ xs) (suc i) plain =
    let none = or_parts _ _ (plain 0 (omega arith)) in
    let tests = or_parts (x == 34) _ none.0 in
    ap (λ l. l ++ escape (take i xs)) (escape_byte_plain x (eqb-false x 34 tests.0) (eqb-false x 92 tests.1) (ltb-false x 32 none.1))
    ∙ ap (λ l. x ∷ l) (unescaped xs i (λ k low. plain (suc k) (omega (arith, low))))

quoted_plain : (text new : List ℕ) → escape text ≡ text → 34 ∷ (text ++ 34 ∷ new) ≡ quoted text ++ new
quoted_plain text new plain = rw plain (ap (λ l. 34 ∷ l) (sym (append_assoc text (34 ∷ []) new)))

-- a quote, bytes before the first at which plain text stops, and a quote there
pub quoted_from : (old left text rest new : List ℕ) (end : ℕ) → old ≡ 34 ∷ left → position is_stop left ≡ Some end → text ≡ take end left
    → rest ≡ drop end left → rest ≡ 34 ∷ new → old ≡ quoted text ++ new
quoted_from old left text rest new end opens stops front back closes =
    rw (opens, front)
    (ap (λ l. 34 ∷ l) (sym (take-append-drop end left) ∙ ap (λ l. take end left ++ l) (sym back ∙ closes))
    ∙ quoted_plain (take end left) new (unescaped left end (position-Some is_stop left end 0 stops).2))
