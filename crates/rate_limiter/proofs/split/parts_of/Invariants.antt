use Rattle.std.proofs.Common.{◌≡◌, ◌≤◌, ◌+◌, [], ◌++◌, All, map, vec_len, length}
use Rattle.std.specs.Prelude.{vec_capacity}
use Rattle.counter_directory.specs.Passes.{list_of, knows}
use Rattle.config_versions.specs.Passes.{pass_state, versions_of}
use Rattle.rate_limiter.proofs.split.parts_of.Given as goal

abbrev pub invariant-loop-pass : goal.invariant-loop-pass
invariant-loop-pass g l = record {
  whole : l.yielded ++ l.pass-iterator.rest.items ≡ l.fn.passes.items;
  cells : l.cells.items ≡ map (λ p. p.cells) l.yielded;
  bare : All (λ v. v.good ≡ []) l.cells.items;
  claims : map knows l.claims.items ≡ map (λ p. p.claims) l.yielded;
  claim_lists : map list_of l.claims.items ≡ map (λ p. p.limiter.claims) l.yielded;
  versions : map pass_state l.versions.items ≡ map (λ p. p.version) l.yielded;
  version_lists : map versions_of l.versions.items ≡ map (λ p. p.limiter.versions) l.yielded;
  claims_len : vec_len l.claims ≡ length l.yielded;
  versions_len : vec_len l.versions ≡ length l.yielded;
  cells_room : vec_len l.cells + length l.pass-iterator.rest.items ≤ vec_capacity l.cells;
  claims_room : vec_len l.claims + length l.pass-iterator.rest.items ≤ vec_capacity l.claims;
  versions_room : vec_len l.versions + length l.pass-iterator.rest.items ≤ vec_capacity l.versions;
}
