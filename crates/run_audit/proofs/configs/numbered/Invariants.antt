use Rattle.std.proofs.Common.{◌≡◌, ℕ, ◌-◌, ◌<◌, length, drop, get_or, map}
use Rattle.std.specs.Arc.{arc_value}
use Rattle.descriptor_tree.specs.Views.{config_view}
use Rattle.script_run.specs.Versions.{version_in}
use Rattle.script_run.specs.Views.{line_view}
use Rattle.run_audit.proofs.configs.numbered.Given as goal

abbrev pub invariant-lines : goal.invariant-lines
invariant-lines l = record {
  long : length (map (λ a. config_view (arc_value a)) l.configs.items) ≡ l.number;
  each : (n : ℕ) → n < l.number → get_or (map (λ a. config_view (arc_value a)) l.configs.items) n (config_view (arc_value l.first))
      ≡ version_in (config_view (arc_value l.first)) (drop (length l.records - l.k) (map line_view l.lines)) (drop (length l.records - l.k) l.records) n;
}
