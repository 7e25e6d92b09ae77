use Rattle.std.proofs.Common.{ap₂, refl, ◌∙◌}
use Rattle.clap.specs.Words.{with_rule}
use Rattle.command_words.specs.Words.{serve_app}
use Rattle.command_words.proofs.serve_words.serve_parser.Goals as goal

pub returns : goal.returns
unfolding serve_app
returns c =
    c.in_ok-command.ensures ∙ ap₂ with_rule (
    c.in_ok-seven.ensures ∙ ap₂ with_rule (
    c.in_ok-six.ensures ∙ ap₂ with_rule (
    c.in_ok-five.ensures ∙ ap₂ with_rule (
    c.in_ok-four.ensures ∙ ap₂ with_rule (
    c.in_ok-three.ensures ∙ ap₂ with_rule (
    c.in_ok-two.ensures ∙ ap₂ with_rule (
    c.in_ok-one.ensures ∙ ap₂ with_rule (
    c.new.ensures.app) refl) refl) refl) refl) refl) refl) refl) refl
