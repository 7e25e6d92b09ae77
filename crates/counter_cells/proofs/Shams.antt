-- What no step tells: that a cell is pinned on which nobody has noted a pin.
use Rattle.std.proofs.Common.{◌≡◌, ℕ, ◌≤◌, ◌<◌, [], ◌∷◌, refl, ap, arith}
use Rattle.std.specs.Prelude.{slice_index}
use Rattle.atomic_table.specs.Table.{Allows, opening}
use Rattle.counter_cells.specs.declared.view.CellView.{CellView}
use Rattle.counter_cells.specs.declared.setup.Setup.{Setup}
use Rattle.rate_types.specs.Sums.{total}
use Rattle.rate_types.proofs.Sums.{cond_yes}
use Rattle.counter_cells.specs.WordIndex.{first_words}
use Rattle.counter_cells.specs.Views.{noted_on, held_on}
use Rattle.counter_cells.specs.Steps.{held_by}
use Rattle.counter_cells.specs.InnerSteps.{first_claimer}
use Rattle.counter_cells.specs.Lawful.{AreLawful}
use Rattle.counter_cells.proofs.Making.{begins}

-- whatever word the claimer reads or changes at the start, it isn't told so
pub nobody_holds : (a : Setup) (k i : ℕ) (f : ℕ → ℕ) → a.passes ≤ 1024 → a.start ≤ 1000000000000 → slice_index (first_words a.cells a.start) i < 18446744073709551616
    → Allows (AreLawful a) 0 0 (first_claimer a, []) i f (λ n w. w.0 ≡ held_by k 1 (first_claimer a)) → ⊥
nobody_holds a k i f few low small go =
    let x = go (opening (first_words a.cells a.start) [] (first_claimer a)) (begins a (first_words a.cells a.start) refl few low) refl refl small in
    let one = cond_yes k k 1 0 refl in
    let held : held_on k x.0 ≡ held_on k (held_by k 1 (first_claimer a)) = ap (held_on k) x.4 in
    let noted : total (noted_on k) (x.0 ∷ []) ≡ 0 = ap (λ (v : CellView). total (noted_on k) (v ∷ [])) x.4 in
    let h = (x.3.1.findings.held 0 x.0 refl k (omega arith)).1 in
    omega arith
