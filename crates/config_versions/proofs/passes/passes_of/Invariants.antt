use Rattle.std.proofs.Common.{◌≡◌, ◌≤◌, ◌+◌, [], ◌∷◌, ◌++◌, All, map, vec_len, length}
use Rattle.std.specs.Prelude.{vec_capacity}
use Rattle.std.specs.Arc.{arc_value}
use Rattle.told_list.specs.Tokens.{view, IsFresh}
use Rattle.config_versions.specs.PassState.{IsFirst}
use Rattle.config_versions.specs.Passes.{pass_state}
use Rattle.config_versions.proofs.passes.passes_of.Given as goal

abbrev pub invariant-loop-seen : goal.invariant-loop-seen
invariant-loop-seen g l = record {
  whole : l.yielded ++ l.seen-iterator.rest.items ≡ l.fn.seats.items;
  same : map (λ p. p.seen) l.passes.items ≡ l.yielded;
  first : All (λ p. IsFirst (arc_value l.first) (pass_state p)) l.passes.items;
  rest : All (λ s. IsFresh (arc_value l.first ∷ []) (view s)) l.seen-iterator.rest.items;
  room : vec_len l.passes + length l.seen-iterator.rest.items ≤ vec_capacity l.passes;
}
