-- What is left of a pass that met another one.
use Rattle.std.specs.Prelude.{◌≡◌}
use Rattle.rate_limiter.specs.Passes.{PassView}
use Rattle.rate_limiter.specs.Ticks.{HasTickedAlone}
use Rattle.rate_limiter.specs.Versions.{HasRisen}

-- nothing of the pass changed but its version, what it knows of the versions, its ticks and its moment; neither version nor moment fell,
-- and nothing was offered
pub record HasMet (p q : PassView) : Type 0 where
  pub version : HasRisen p.version q.version
  pub ticks : HasTickedAlone p.cells q.cells
  pub rest : q ≡ record p { version = q.version; cells = record p.cells { ticks = q.cells.ticks; moment = q.cells.moment } }
