use Rattle.std.proofs.Common.{ap₂, refl, ◌∙◌}
use Rattle.clap.specs.Words.{with_rule}
use Rattle.command_words.specs.Words.{gen_app}
use Rattle.command_words.proofs.gen_words.gen_parser.Goals as goal

pub returns : goal.returns
unfolding gen_app
returns c =
    c.in_ok-command.ensures ∙ ap₂ with_rule (
    c.in_ok-one.ensures ∙ ap₂ with_rule (
    c.new.ensures.app) refl) refl
