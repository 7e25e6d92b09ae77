use Rattle.std.proofs.Common.{◌≡◌, map, take}
use Rattle.std.specs.Prelude.{zip}
use Rattle.run_text.specs.Pairs.{status_at}
use Rattle.run_text.proofs.statuses.statuses_in.Given as goal

abbrev pub invariant-pairs : goal.invariant-pairs
invariant-pairs l = l.items.items ≡ take l.i (map (λ p. status_at p.0 p.1) (zip l.counts l.statuses))
