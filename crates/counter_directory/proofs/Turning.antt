-- One turn, seen from outside.
use Rattle.std.proofs.Common.{◌≡◌, ℕ, ◌≤◌, List, sym, subst}
use Rattle.std.specs.Prelude.{Result}
use Rattle.rate_types.specs.declared.counter_name.CounterName.{CounterName}
use Rattle.counter_cells.specs.declared.view.CellView as cell_view
use Rattle.told_list.specs.declared.rule.TokenView as told_view
use Rattle.told_list.specs.Tokens as token
use Rattle.counter_directory.specs.declared.claim.Claim.{Claim}
use Rattle.counter_directory.specs.declared.acquired.Acquired.{Acquired}
use Rattle.counter_directory.specs.declared.acquired.AcquireFault.{AcquireFault}
use Rattle.counter_directory.specs.Claims.{IsLawfulClaims, last_of}
use Rattle.counter_directory.specs.Acquired.{Bounds, ClaimTableView, Acquires}
use Rattle.counter_directory.specs.Passes.{KnownClaims, HasTurned}
use Rattle.counter_directory.specs.Tokens.{claims_shown}
use Rattle.counter_directory.specs.Turns.{Turned}

pub turns : (b b' : Bounds) (most : ℕ) (names : List CounterName) (cell_pass cell_pass1 cell_pass' : cell_view.CellView) (found left : ClaimTableView)
    (r : Result Acquired AcquireFault) (pass pass' : told_view.TokenView Claim) (knows : KnownClaims) → claims_shown pass ≡ knows → b ≡ b' → most ≡ b'.claims → cell_pass' ≡ cell_pass1
    → Acquires b names cell_pass found r cell_pass1 left → IsLawfulClaims b'.cells most left.claims → last_of 0 found.claims ≤ cell_pass1.moment
    → token.HasTurned found.claims left.claims pass pass'
    → Turned b' names cell_pass r cell_pass' knows (claims_shown pass')
turns b b' most names cell_pass cell_pass1 cell_pass' found left r pass pass' knows is same claims at did law later turn = record {
  found = found;
  left = left;
  did = subst (λ (h : cell_view.CellView). Acquires b' names cell_pass found r h left) (sym at)
      (subst (λ (z : Bounds). Acquires z names cell_pass found r cell_pass1 left) same did);
  lawful = subst (λ n. IsLawfulClaims b'.cells n left.claims) claims law;
  later = subst (λ (h : cell_view.CellView). last_of 0 found.claims ≤ h.moment) (sym at) later;
  turn = subst (λ (v : KnownClaims). HasTurned found.claims left.claims v (claims_shown pass')) is
      (record { knew = turn.knew; grew = turn.grew; known = turn.known; turns = turn.turns; own = turn.own });
}
