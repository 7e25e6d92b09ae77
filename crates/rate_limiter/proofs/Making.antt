-- The passes of a limiter at the start.
use Rattle.std.proofs.Common.{◌≡◌, ℕ, zero, suc, List, [], ◌∷◌, length, All, refl, arith}
use Rattle.counter_directory.specs.Passes.{IsFresh, KnownClaims}
use Rattle.descriptor_tree.specs.Trees.{DomainTree}
use Rattle.config_versions.specs.PassState.{PassState, IsFirst}
use Rattle.counter_cells.specs.Steps.{new_passes}
use Rattle.counter_cells.specs.declared.view.CellView.{CellView}
use Rattle.rate_limiter.specs.Passes.{LimiterId, IsNewPass}
use Rattle.rate_limiter.specs.Made.{IsNewCellPass}

pub new_cell_passes : (n start : ℕ) → All (IsNewCellPass start) (new_passes n start)
new_cell_passes zero start k d lt = absurd (omega arith)
new_cell_passes (suc n) start zero d lt = refl
new_cell_passes (suc n) start (suc k) d lt = new_cell_passes n start k d (omega arith)

pub len_passes : (n start : ℕ) → length (new_passes n start) ≡ n
len_passes zero start = refl
len_passes (suc n) start = let r = len_passes n start in omega arith

pub all_tail : {A : Type 0} (P : A → Type 0) (x : A) (xs : List A) → All P (x ∷ xs) → P x × All P xs
all_tail P x xs h = (h 0 x (omega arith), λ k d l. h (suc k) d (omega arith))

pub all_cons : {A : Type 0} (P : A → Type 0) (x : A) (xs : List A) → P x → All P xs → All P (x ∷ xs)
all_cons P x xs p h zero d l = p
all_cons P x xs p h (suc k) d l = h k d (omega arith)

-- a pass of three new parts
pub new_pass_of : (config : List DomainTree) (start : ℕ) (id : LimiterId) (s : PassState (List DomainTree)) (t : KnownClaims) (v : CellView)
    → IsFirst config s → IsFresh t → IsNewCellPass start v
    → IsNewPass config start (record { limiter = id; version = s; claims = t; cells = v; known = []; refused = 0 })
new_pass_of config start id s t v first fresh new = record {
  version = first;
  claims = fresh;
  cells = new;
  known = refl;
  refused = refl;
}
