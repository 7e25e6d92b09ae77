use Rattle.std.proofs.Common.{ap₂, refl, ◌∙◌}
use Rattle.clap.specs.Words.{with_rule}
use Rattle.command_words.specs.Words.{lookup_app}
use Rattle.command_words.proofs.parsers.lookup_parser.Goals as goal

pub returns : goal.returns
unfolding lookup_app
returns c =
    c.in_ok-command.ensures ∙ ap₂ with_rule (
    c.new.ensures.app) refl
