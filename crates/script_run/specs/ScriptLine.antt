-- What a line of a script says.
use Rattle.std.specs.Prelude.{ℕ, List}
use Rattle.rate_types.specs.Requests.{RequestParts}
use Rattle.rate_types.specs.declared.refused.Refused.{Refused}
use Rattle.descriptor_tree.specs.Trees.{DomainTree}

-- a request to check, a configuration to install, a moment that is offered, or the refusal of the line
pub data ScriptLine : Type 0 where
  check : RequestParts → ScriptLine
  reload : List DomainTree → ScriptLine
  tick : ℕ → ScriptLine
  bad : Refused → ScriptLine
