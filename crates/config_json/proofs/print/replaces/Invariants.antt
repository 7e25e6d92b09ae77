use Rattle.std.proofs.Common.{◌≡◌, ◌≤◌, length, take}
use Rattle.std.specs.List.{All}
use Rattle.serde_json.specs.View.{items_view}
use Rattle.config_json.specs.Printed.{names_json}
use Rattle.config_json.proofs.print.replaces.Given as goal

abbrev pub invariant-names : goal.invariant-names
invariant-names l = (items_view l.items.items ≡ names_json (take l.index l.names)) × All (λ n. length n ≤ 1024) (take l.index l.names)
