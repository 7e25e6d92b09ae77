-- The made-up load: the configuration of its run, and its checks.
use Rattle.std.specs.Prelude.{ℕ, zero, suc, ◌+◌, ◌*◌, ◌%◌, List, [], ◌∷◌, ◌++◌, map, Some, None, false, codes, decimal}
use Rattle.rate_types.specs.Requests.{RequestParts}
use Rattle.rate_types.specs.declared.entries.Entry.{Entry}
use Rattle.rate_types.specs.declared.request.Descriptor.{Descriptor}
use Rattle.rate_types.specs.declared.unit.Unit.TheVariants.{Hour}
use Rattle.descriptor_tree.specs.Trees.{NodeFields, branch, no_branches, and_branch, DomainTree}
use Rattle.descriptor_tree.specs.declared.policy.Policy.TheVariants.{Limited}
use Rattle.script_run.specs.ScriptLine.{ScriptLine, check}
use Rattle.load_gen.specs.declared.constants.TheConstants.{VALUES, STEP, LIMIT}

-- ---- the configuration

-- each value of the key `u` is admitted 100 times an hour
abbrev pub load_node : NodeFields
load_node = record {
  key = codes "u";
  value = None;
  policy = Some (Limited LIMIT Hour);
  name = None;
  replaces = [];
  shadow = false;
}

-- the domain `gen` with this one node
abbrev pub load_tree : DomainTree
load_tree = record { domain = codes "gen"; forest = and_branch (branch load_node no_branches) no_branches }

-- the configuration: this one tree
abbrev pub load_config : List DomainTree
load_config = load_tree ∷ []

-- ---- the checks

-- the value of a load's check of this index, counted from 0
abbrev pub value_at : ℕ → ℕ → ℕ
value_at number index = (number + STEP * index) % VALUES

-- the values of so many checks, in order
unfoldable pub values_of : ℕ → ℕ → List ℕ
values_of number zero = []
values_of number (suc checks) = values_of number checks ++ value_at number checks ∷ []

-- a value as it is written: `v` and its decimal digits
abbrev pub value_text : ℕ → List ℕ
value_text value = codes "v" ++ decimal value

-- one entry: the key `u` and this value
abbrev pub entry_for : ℕ → Entry
entry_for value = record { key = codes "u"; value = value_text value }

-- the descriptor of this entry
abbrev pub descriptor_for : ℕ → Descriptor
descriptor_for value = record { entries = entry_for value ∷ []; own = None; hits = None }

-- one hit in the domain `gen`, for this descriptor
abbrev pub request_for : ℕ → RequestParts
request_for value = record { domain = codes "gen"; descriptors = descriptor_for value ∷ []; hits = 1 }

-- the lines that check these values
abbrev pub checks_for : List ℕ → List ScriptLine
checks_for values = map (λ value. check (request_for value)) values

-- The lines of the load of a number: so many checks.
abbrev pub load_lines : ℕ → ℕ → List ScriptLine
load_lines number checks = checks_for (values_of number checks)
