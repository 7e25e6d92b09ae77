use Rattle.std.proofs.Common.{◌≡◌, ◌≤◌, ◌+◌, ◌++◌, All, map, vec_len, length}
use Rattle.std.specs.Prelude.{vec_capacity}
use Rattle.std.specs.Arc.{arc_value}
use Rattle.counter_directory.specs.Passes.{list_of, knows, IsFresh}
use Rattle.config_versions.specs.PassState.{IsFirst}
use Rattle.config_versions.specs.Passes.{IsPassOf, pass_state, versions_id}
use Rattle.rate_limiter.specs.Passes.{PassView, IsNewPass}
use Rattle.rate_limiter.specs.Made.{IsNewCellPass}
use Rattle.rate_limiter.proofs.make.passes_of.Given as goal

abbrev pub invariant-loop-cells : goal.invariant-loop-cells
invariant-loop-cells g l = record {
  whole : l.yielded ++ l.cells-iterator.rest.items ≡ l.fn.cell_passes.items;
  rest : All (λ v. IsNewCellPass g.N.CellNaming.setup.start v) l.cells-iterator.rest.items;
  claims : All (λ s. (list_of s ≡ l.directory.list_id) × IsFresh (knows s)) l.claim_passes.items;
  versions : All (λ p. IsPassOf l.versions p × IsFirst (arc_value l.first) (pass_state p)) l.version_passes.items;
  claims_left : vec_len l.claim_passes ≡ length l.cells-iterator.rest.items;
  versions_left : vec_len l.version_passes ≡ length l.cells-iterator.rest.items;
  passes : All (λ p. (p.limiter ≡ record { claims = l.directory.list_id; versions = versions_id l.versions })
      × IsNewPass (arc_value l.first) g.N.CellNaming.setup.start p) l.passes.items;
  cells : map (λ (p : PassView). p.cells) l.passes.items ≡ l.yielded;
  made : vec_len l.passes ≡ length l.yielded;
  room : vec_len l.passes + length l.cells-iterator.rest.items ≤ vec_capacity l.passes;
}
