-- What new passes are, and a run that is told with equal numbers.
use Rattle.std.proofs.Common.{◌≡◌, ℕ, ◌≤◌, List, [], ◌∷◌, length, Bool, subst, arith}
use Rattle.std.specs.Prelude.{All}
use Rattle.descriptor_tree.specs.Trees.{DomainTree}
use Rattle.rate_limiter.specs.Passes.{LimiterId, PassView, IsNewPass}
use Rattle.reply_text.specs.declared.record.Record.{Record}
use Rattle.script_run.specs.ScriptLine.{ScriptLine}
use Rattle.script_run.specs.Run.{IsRun}
use Rattle.worker_run.specs.Clauses.{first_version}

-- new passes are at the configuration
pub first_is : (id : LimiterId) (config : List DomainTree) (start : ℕ) (ps : List PassView) → 1 ≤ length ps
    → All (λ p. (p.limiter ≡ id) × IsNewPass config start p) ps → first_version ps ≡ config
first_is id config start [] some new = absurd (omega (arith, some))
first_is id config start (p ∷ ps) some new = (new 0 p (omega arith)).1.version.index

-- a run is the run of equal things
pub run_of : (first config : List DomainTree) (workers many cells room start : ℕ) (shadow global_shadow : Bool) (lines : List ScriptLine) (records : List Record)
    → first ≡ config → workers ≡ many → cells ≡ room → shadow ≡ global_shadow
    → IsRun first workers cells start shadow lines records → IsRun config many room start global_shadow lines records
run_of first config workers many cells room start shadow global_shadow lines records f w k s run =
    subst (λ (c : List DomainTree). IsRun c many room start global_shadow lines records) f
    (subst (λ (n : ℕ). IsRun first n room start global_shadow lines records) w
    (subst (λ (n : ℕ). IsRun first workers n start global_shadow lines records) k
    (subst (λ (b : Bool). IsRun first workers cells start b lines records) s run)))
