-- What a worker took, with one link or end mark more.
use Rattle.std.proofs.Common.{◌≡◌, ℕ, ◌+◌, List, [], ◌∷◌, ◌++◌, arith}
use Rattle.rate_types.specs.Sums.{total}
use Rattle.rate_types.proofs.Sums.{total_push}
use Rattle.link_handover.specs.Passes.{is_end}
use Rattle.link_handover.specs.declared.taken.Taken.{Taken}
use Rattle.link_handover.specs.declared.taken.Taken.TheVariants.{Link, End}

module _ {N : Type 0} where
  pub ends_link : (ms : List (Taken N)) (n : ℕ) (x : N) → total is_end (ms ++ Link n x ∷ []) ≡ total is_end ms
  ends_link ms n x = let t = total_push is_end ms (Link n x) in omega arith

  pub ends_end : (ms : List (Taken N)) → total is_end (ms ++ End ∷ []) ≡ total is_end ms + 1
  ends_end ms = let t = total_push is_end ms End in omega arith
