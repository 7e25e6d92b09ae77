-- Inside: the configurations of versions, as the code has them.
use Rattle.std.specs.Prelude.{ℕ, List, Option, None, Some, slice_index_or, slice_set}
use Rattle.descriptor_tree.specs.Trees.{DomainTree}
use Rattle.reply_text.specs.declared.record.Outcome.{Outcome}
use Rattle.reply_text.specs.declared.record.Outcome.TheVariants as outcome
use Rattle.script_run.specs.ScriptLine.{ScriptLine, reload}
use Rattle.run_audit.specs.declared.configs.Configs.{Configs}

-- the configuration of a version: the first, where no other has the number
abbrev pub config_at : Configs → ℕ → List DomainTree
config_at configs version = slice_index_or configs.numbered.items version configs.first

-- the configuration that a line installed
abbrev pub installed_by : ScriptLine → Outcome → Option (List DomainTree)
installed_by (reload config) outcome.Installed = Some config
installed_by line other = None

-- a configuration at the place of its version, where there is one
abbrev pub put_at : ℕ → Option (List DomainTree) → List (List DomainTree) → List (List DomainTree)
put_at version None configs = configs
put_at version (Some config) configs = slice_set configs version config
