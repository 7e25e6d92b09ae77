use Rattle.std.proofs.Common.{◌≡◌, ℕ, List, ◌∷◌, [], string_bytes, ap, ◌∙◌}
use Rattle.descriptor_tree.specs.Views.{config_view}
use Rattle.cli_audit.specs.Audited.{setup_of, IsOfVerdict}
use Rattle.cli_exits.specs.World.{exit_of}
use Rattle.cli_exits.specs.Parts.{Sinks}
use Rattle.cli_audit.proofs.Behind.{output_means}
use Rattle.cli_audit.proofs.auditing.judge_and_write.Goals as goal

pub returns : goal.returns
returns g c =
    let K = g.K.Sink in
    let output = c.write_line.ensures in
    let s : Sinks = record {
      written = K.written c.args.sink.now;
      after = K.written c.write_line.new.sink;
      faults = (K.faults c.args.sink.now, K.faults c.write_line.new.sink);
    } in
    record {
      events = output.events;
      grew = output.grew;
      are = output_means (λ pieces. pieces ≡ string_bytes c.in-Ok-verdict_line.line ∷ [])
          (IsOfVerdict (config_view c.args.config) (setup_of c.args.job.now) c.args.bytes.now c.args.run.now)
          (λ pieces is. record {
            verdict = c.in-Ok.verdict;
            judged = c.in-Ok.ensures;
            line = is ∙ ap (λ (l : List ℕ). l ∷ []) c.in-Ok-verdict_line.ensures;
          })
          s output.events (exit_of c.write_line.result) output.are;
    }
