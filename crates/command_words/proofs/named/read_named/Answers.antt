use Rattle.std.proofs.Common.{ap, map, Err, ℕ, List, Bor, ◌≡◌, ◌∙◌}
use Rattle.command_words.specs.declared.words.WordsFault.{WordsFault}
use Rattle.command_words.specs.declared.words.WordsFault.TheVariants.{Usage}
use Rattle.clap.specs.Words.{is_simple_and_free}
use Rattle.command_words.proofs.Apps.{named_simple, faults_of}
use Rattle.command_words.proofs.named.read_named.Goals as goal

pub parse-requires : goal.parse-requires
parse-requires c = ap is_simple_and_free c.in_ok-command.ensures ∙ named_simple c.args.name

pub returns-in-Err-clause-usage : goal.returns-in-Err-clause-usage
returns-in-Err-clause-usage c = λ is.
    let as_words : map (λ (t : Bor (List ℕ)). t.now) c.as_slice.result.now ≡ c.args.words.now =
    ap (map (λ (t : Bor (List ℕ)). t.now)) c.as_slice.ensures.value ∙ c.in_ok-texts.ensures in
    let same : c.in-Err.fault ≡ Usage = cc in
    faults_of _ _ _ _ _ c.in_ok-command.ensures as_words (c.in-Err.ensures.usage (ap (λ (f : WordsFault). Err f) same))
