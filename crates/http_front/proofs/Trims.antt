-- What is left when the blanks at the end go.
use Rattle.std.proofs.Common.{◌≡◌, ℕ, true, false, List, [], ◌∷◌, ◌++◌, reverse, length, arith, refl, sym, ap, ◌∙◌}
use Rattle.std.proofs.lemmas.List.{reverse-append, reverse-reverse}
use Rattle.httparse.specs.Grammar.{is_ows, skip_ows, trim_ows}

-- where no blank stands at the end
pub trimmed : (bytes rest before : List ℕ) (b : ℕ) → rest ≡ before ++ b ∷ [] → is_ows b ≡ false
    → skip_ows (reverse rest) ≡ skip_ows (reverse (skip_ows bytes)) → rest ≡ trim_ows bytes
unfolding trim_ows
trimmed bytes rest before b last solid same =
    let back : reverse rest ≡ b ∷ reverse before = rw last (reverse-append before (b ∷ [])) in
    let kept : skip_ows (reverse rest) ≡ reverse rest = rw back (rw solid refl) in
    sym (ap reverse (sym same ∙ kept) ∙ reverse-reverse rest)

-- and where nothing is left
pub trimmed_empty : (bytes rest : List ℕ) → length rest ≡ 0
    → skip_ows (reverse rest) ≡ skip_ows (reverse (skip_ows bytes)) → rest ≡ trim_ows bytes
unfolding trim_ows
trimmed_empty bytes [] none same = ap reverse same
trimmed_empty bytes (b ∷ rest) none same = absurd (omega arith)

-- a blank at the end goes
pub one_less : (before : List ℕ) (b : ℕ) → is_ows b ≡ true → skip_ows (reverse (before ++ b ∷ [])) ≡ skip_ows (reverse before)
one_less before b blank = rw (reverse-append before (b ∷ [])) (rw blank refl)
