-- The statuses of pairs of values.
use Rattle.std.proofs.Common.{◌≡◌, List, [], ◌∷◌, map, refl, ap}
use Rattle.std.specs.Prelude.{zip}
use Rattle.serde_json.specs.View.{view}
use Rattle.serde_json.specs.declared.value.Value.{Value}
use Rattle.run_text.specs.Found.{status_in, statuses_in}
use Rattle.run_text.specs.Pairs.{status_at}

pub pairs_seen : (cs ds : List Value) → map (λ p. status_at p.0 p.1) (zip cs ds) ≡ statuses_in (map view cs) (map view ds)
unfolding status_at
pairs_seen [] ds = refl
pairs_seen (c ∷ cs) [] = refl
pairs_seen (c ∷ cs) (d ∷ ds) = ap (λ ss. status_in (view c) (view d) ∷ ss) (pairs_seen cs ds)
