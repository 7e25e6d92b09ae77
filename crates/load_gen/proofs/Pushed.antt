-- The lines of a load, one by one.
use Rattle.std.proofs.Common.{◌≡◌, ℕ, zero, suc, ◌<◌, List, [], ◌∷◌, ◌++◌, option_map, length, refl, sym, ap, ◌∙◌, arith, inl, inr}
use Rattle.std.proofs.lemmas.Bool.{cases_lt}
use Rattle.std.proofs.lemmas.Option.{slice_get-map}
use Rattle.std.specs.Prelude.{slice_get, Some}
use Rattle.script_run.specs.ScriptLine.{check}
use Rattle.load_gen.specs.Load.{load_lines, values_of, value_at, request_for}
use Rattle.load_gen.proofs.Runs.{values_length}

module _ {X : Type 0} where
  front : (xs ys : List X) (i : ℕ) (x : X) → slice_get xs i ≡ Some x → slice_get (xs ++ ys) i ≡ Some x
  front [] ys i x h = absurd (cc)
  front (y ∷ xs) ys zero x h = h
  front (y ∷ xs) ys (suc i) x h = front xs ys i x h

  back : (xs : List X) (y : X) → slice_get (xs ++ y ∷ []) (length xs) ≡ Some y
  back [] y = refl
  back (x ∷ xs) y = back xs y

value_there : (number checks index : ℕ) → index < checks → slice_get (values_of number checks) index ≡ Some (value_at number index)
unfolding values_of
value_there number zero index low = absurd (omega (arith, low))
value_there number (suc checks) index low = elim (cases_lt index checks) [
  | inl below ↦ front (values_of number checks) (value_at number checks ∷ []) index (value_at number index) (value_there number checks index below)
  | inr above ↦
      let last : index ≡ checks = omega (arith, low, above) in
      let at : index ≡ length (values_of number checks) = last ∙ sym (values_length number checks) in
      rw at (back (values_of number checks) (value_at number checks)) ∙ ap (λ i. Some (value_at number i)) (sym last)
]

-- the line of an index is the check of its value
pub line_there : (number checks index : ℕ) → index < checks
    → slice_get (load_lines number checks) index ≡ Some (check (request_for (value_at number index)))
line_there number checks index low =
    slice_get-map (λ value. check (request_for value)) (values_of number checks) index
    ∙ ap (option_map (λ value. check (request_for value))) (value_there number checks index low)
