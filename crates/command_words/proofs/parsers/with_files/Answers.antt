use Rattle.std.proofs.Common.{ap₂, refl, ◌∙◌}
use Rattle.clap.specs.Words.{with_rule}
use Rattle.command_words.proofs.parsers.with_files.Goals as goal

pub returns : goal.returns
returns c = c.in_ok-more.ensures.shape c.files_arg.ensures.local ∙ ap₂ with_rule refl c.files_arg.ensures.rule
