-- The reading of configuration files: the first of all their faults, or their trees.
use Rattle.std.specs.Prelude.{ℕ, ◌+◌, List, [], ◌∷◌, ◌++◌, map, Result}
use Rattle.std.specs.Option.{option_to_list}
use Rattle.rate_types.specs.declared.refused.At.{At}
use Rattle.proto_json.specs.Said as said
use Rattle.rate_types.specs.declared.refused.Refused.{Refused}
use Rattle.rate_types.specs.declared.fault.Fault.{Fault}
use Rattle.rate_types.specs.declared.fault.Fault.TheVariants as fault
use Rattle.descriptor_tree.specs.Trees.{DomainTree}
use Rattle.rate_types.specs.Reading.{first_or}
use Rattle.descriptor_tree.specs.Faults.{in_file, config_faults}
use Rattle.config_json.specs.Trees.{file}

-- The faults of reading the files one after the other, the first of them with this index. In a file, faults that follow
-- from an earlier one may stand behind it.
abbrev pub file_faults : ℕ → List (List ℕ) → List At
file_faults index [] = []
file_faults index (bytes ∷ more) = map (in_file index) (said.faults_of (file bytes)) ++ file_faults (index + 1) more

-- the trees that the files spell
abbrev pub trees_of : List (List ℕ) → List DomainTree
trees_of [] = []
trees_of (bytes ∷ more) = option_to_list (said.value_of (file bytes)) ++ trees_of more

-- these faults, or where there is none those
abbrev pub or_those : List At → List At → List At
or_those [] those = those
or_those (fault ∷ more) those = fault ∷ more

-- the faults of the files, in order: those of reading them, and where there is none, those of the trees that they spell
unfoldable pub faults_of : List (List ℕ) → List At
faults_of files = or_those (file_faults 0 files) (config_faults (trees_of files))

-- the first of these faults, or the trees where there is none
unfoldable pub reading_of : List (List ℕ) → Result (List DomainTree) At
reading_of files = first_or (faults_of files) (trees_of files)

-- a fault of reading a file of this index
abbrev pub placed : ℕ → Fault Refused → Fault At
placed index (fault.Refused refused) = fault.Refused (in_file index refused)
placed index fault.OutOfMemory = fault.OutOfMemory
