use Rattle.std.proofs.Common.{◌≡◌, ◌++◌, ◌∷◌, take, string_bytes}
use Rattle.script_text.specs.Pointers.{IsStep}
use Rattle.script_text.proofs.within.behind.Given as goal

abbrev pub invariant-steps : goal.invariant-steps
invariant-steps l = record {
  far : l.place ++ 47 ∷ string_bytes l.step ≡ l.fn.base ++ 47 ∷ take l.index l.steps;
  step : IsStep (string_bytes l.step);
}
