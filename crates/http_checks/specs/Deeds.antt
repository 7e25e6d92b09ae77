-- What a pass of a limiter does: it answers checks, and it puts new configurations in force.
use Rattle.std.specs.Prelude.{◌≡◌, ℕ, List, [], ◌∷◌, Result}
use Rattle.descriptor_tree.specs.Trees.{DomainTree}
use Rattle.rls_core.specs.declared.fault.ReloadFault.{ReloadFault}
use Rattle.rate_limiter.specs.Passes.{PassView, KeepsAllButVersion}
use Rattle.rate_limiter.specs.Versions.{Reloads}
use Rattle.http_endpoint.specs.Answers.{Checked}
use Rattle.http_checks.specs.Checker.{Checker, ChecksBy}

-- the version and the moment at which a pass is
pub record At : Type 0 where
  pub version : ℕ
  pub moment : ℕ

-- a check that was made, and where it left its pass; or a configuration that was handed to a reload, and what came of it
pub data Deed : Type 0 where
  checked : Checked → At → Deed
  reloaded : List DomainTree → Result ℕ ReloadFault → Deed

-- A reload that was handed this configuration came to this: nothing of the pass changed but its version. The limiter stays the same.
pub record ReloadsBy (config : List DomainTree) (result : Result ℕ ReloadFault) (p q : Checker) : Type 0 where
  pub limiter : q.limiter ≡ p.limiter
  pub reload : Reloads config result p.pass.version q.pass.version
  pub rest : KeepsAllButVersion p.pass q.pass

-- where a pass is
abbrev pub at_pass : PassView → At
at_pass p = record { version = p.version.version; moment = p.cells.moment }

module _ (cells : ℕ) where
  -- what a deed makes of a pass
  abbrev pub Does : Checker → Deed → Checker → Type 0
  Does p (checked a at) q = ChecksBy cells p a.request a.now a.result q × (at ≡ at_pass q.pass)
  Does p (reloaded config result) q = ReloadsBy config result p q

  -- each deed leads on from where the one before it left the pass
  abbrev pub Deeds : Checker → List Deed → Checker → Type 0
  Deeds p [] q = q ≡ p
  Deeds p (d ∷ deeds) q = (mid : Checker) × Does p d mid × Deeds mid deeds q
