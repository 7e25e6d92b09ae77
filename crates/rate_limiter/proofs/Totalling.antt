-- The counts of open claims are what was charged on their counters.
use Rattle.std.proofs.Common.{◌≡◌, ℕ, zero, suc, ◌≤◌, ◌<◌, ◌==◌, ◌&&◌, List, [], ◌∷◌, length, get_or, All, true, true≢false, refl, sym, ap, ◌∙◌, subst, arith}
use Rattle.std.specs.Prelude.{slice_index}
use Rattle.std.proofs.lemmas.Bool.Decides.{nat_tests}
use mathlib.Core.Option.{some}
use lib.ListN.{get_elem?}
use Rattle.rate_types.specs.Counters.{same_counter}
use Rattle.rate_types.specs.Ledger.{Charge, charged_total}
use Rattle.rate_types.specs.Sums.{one_if}
use Rattle.rate_types.specs.declared.counter_key.CounterKey.{CounterKey}
use Rattle.window_keys.specs.Counter.{window_end_of}
use Rattle.window_keys.proofs.Counters.{same_is}
use Rattle.counter_cells.specs.Closing.{CountsAreTotals}
use Rattle.counter_cells.specs.Ledgers.{ledger_of}
use Rattle.counter_cells.specs.Views.{cell_or}
use Rattle.counter_cells.specs.declared.view.Cell.{Cell}
use Rattle.counter_cells.specs.declared.view.CellView.{CellView}
use Rattle.counter_directory.specs.declared.claim.Claim.{Claim}
use Rattle.counter_directory.specs.declared.closed.OpenClaim.{OpenClaim}
use Rattle.counter_directory.specs.Claims.{bindings_of, IsLawfulClaims}
use Rattle.counter_directory.specs.Gates.{AreOpen}
use Rattle.counter_directory.specs.Open.{AreOpenClaims}
use Rattle.rate_limiter.specs.Named.{claimed_as, AreNamed}
use Rattle.rate_limiter.specs.Summed.{CountCharged, HaveClaims}
use Rattle.rate_limiter.proofs.Lists.{parts, total_some, each_of}
use Rattle.rate_limiter.proofs.Naming.{same_total, charged_claimed}
use Rattle.rate_limiter.proofs.Showing.{binds_as}

same_number : (a b : ℕ) → (a == b) ≡ true → a ≡ b
same_number a b t = grind (arith, nat_tests)

-- a claim that binds the counter to the cell under the number
record Binds (claims : List Claim) (q : CounterKey) (cell number : ℕ) : Type 0 where
  place : ℕ
  claim : Claim
  at : get_elem? claims place ≡ some claim
  key : claim.key ≡ q
  cell_is : claim.cell ≡ cell
  number_is : claim.claim ≡ number

binds : (claims : List Claim) (q : CounterKey) (cell number : ℕ) → 1 ≤ bindings_of q cell number claims → Binds claims q cell number
binds claims q cell number h =
    let t = total_some (λ (x : Claim). one_if (same_counter x.key q && ((x.cell == cell) && (x.claim == number)))) claims h in
    let both = parts (same_counter t.1.key q) ((t.1.cell == cell) && (t.1.claim == number)) t.3 in
    let two = parts (t.1.cell == cell) (t.1.claim == number) (subst (λ b. 1 ≤ one_if b) (sym both.1) (omega arith)) in
    record {
      place = t.0;
      claim = t.1;
      at = t.2;
      key = same_is t.1.key q both.0;
      cell_is = same_number t.1.cell cell two.0;
      number_is = same_number t.1.claim number two.1;
    }

-- the cell that is known to be open is among those known
is_there : (cells : List Cell) (k : ℕ) → (cell_or cells k).is_open ≡ true → get_elem? cells k ≡ some (cell_or cells k)
is_there [] k e = absurd (true≢false (sym e))
is_there (c ∷ cells) zero e = refl
is_there (c ∷ cells) (suc k) e = is_there cells k e

-- the item at a place
pub item_at : {A : Type 0} (xs : List A) (k : ℕ) (d : A) → k < length xs → get_elem? xs k ≡ some (get_or xs k d)
item_at [] k d h = absurd (omega arith)
item_at (x ∷ xs) zero d h = refl
item_at (x ∷ xs) (suc k) d h = item_at xs k d (omega arith)

module _ (cells most last : ℕ) (claims : List Claim) (law : IsLawfulClaims cells most claims) (list : List OpenClaim) (are : AreOpenClaims last claims list) where
  -- the cells of open claims are cells
  pub cells_there : (n : ℕ) → n ≡ cells → All (λ (x : OpenClaim). x.spot.cell < n) list
  cells_there n e k d lt =
      let x = get_or list k d in
      let b = binds claims x.key x.spot.cell x.spot.claim (are.are k x (item_at list k d lt)).1 in
      let f = (law b.place b.claim b.at).cell in
      let i = b.cell_is in
      omega arith

  module _ (moment : ℕ) (counts : List ℕ) (claimer : CellView) (vs : List CellView) (opened : AreOpen claimer last claims)
      (totals : CountsAreTotals counts claimer vs) (charges : List (Charge CounterKey)) (named : AreNamed claims (ledger_of vs) charges) (late : last ≤ moment) where
    abbrev charged : CounterKey → ℕ
    charged q = charged_total same_counter q charges

    count_is : (i : ℕ) (x : OpenClaim) → get_elem? list i ≡ some x → slice_index counts x.spot.cell ≡ charged x.key
    count_is i x at =
        let a = are.are i x at in
        let b = binds claims x.key x.spot.cell x.spot.claim a.1 in
        let ends : last < window_end_of b.claim.key = subst (λ k. last < window_end_of k) (sym b.key) a.0 in
        let o = opened b.place b.claim b.at ends in
        let cell = cell_or claimer.cells b.claim.cell in
        let count = totals b.claim.cell cell (is_there claimer.cells b.claim.cell o.1) o.1 in
        let more = binds_as x.key x.spot.cell x.spot.claim claims in
        let bound : 1 ≤ claimed_as x.key x.spot.claim claims = let n = a.1 in omega arith in
        ap (slice_index counts) (sym b.cell_is) ∙ count ∙ ap (λ n. charged_total ◌==◌ n (ledger_of vs)) (o.2 ∙ b.number_is)
        ∙ sym (same_total cells most claims law (ledger_of vs) charges named x.key x.spot.claim bound)

    pub counts_charged : CountCharged charged moment counts list
    counts_charged = each_of (λ (x : OpenClaim). moment < window_end_of x.key → slice_index counts x.spot.cell ≡ charged x.key) list (λ i x at later. count_is i x at)

    pub claims_had : HaveClaims charged moment list
    claims_had q more later = are.all q (omega (arith, late, later)) (charged_claimed cells most claims law (ledger_of vs) charges named q more)
