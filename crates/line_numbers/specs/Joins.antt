-- Inside: what a view that stands for several drawers says of them.
use Rattle.std.specs.Prelude.{◌≡◌, ℕ, List, length}
use Rattle.rate_types.specs.Sums.{total, times}
use Rattle.line_numbers.specs.declared.rule.DrawerView.{DrawerView}
use Rattle.line_numbers.specs.declared.drawer.Drawer.{Drawer}
use Rattle.line_numbers.specs.Drawers.{drawn}

-- a view that stands for these drawers
pub record JoinsDrawers (drawers : List Drawer) (v : DrawerView) : Type 0 where
  pub count : v.drawers ≡ length drawers
  pub drawn : (n : ℕ) → times n v.drawn ≡ total (λ d. times n (drawn d)) drawers
  pub ends : v.ends ≡ total (λ d. d.seat.me.0.ends) drawers
