use Rattle.std.proofs.Common.{◌≡◌, ◌+◌, ◌++◌, string_bytes, sym, ap, ◌∙◌, arith}
use Rattle.std.specs.List.{concat}
use Rattle.quota_stream.specs.Outcomes.{outcome_of}
use Rattle.text_lines.specs.Lines.{cut}
use Rattle.quota_stream.specs.Tasks.{Task}
use Rattle.quota_stream.proofs.Tasking.{next_number, too_many, task_goes_on, not_ended}
use Rattle.quota_stream.proofs.stream_task.StreamTask.take_line.Goals as goal

pub returns-then-self-ge-MOST_LINES-clause-fault : goal.returns-then-self-ge-MOST_LINES-clause-fault
returns-then-self-ge-MOST_LINES-clause-fault c =
    let here = not_ended c.args.self.now c.requires in
    let lines : c.self.inside.lines ≡ c.args.self.now.lines = ap (λ (t : Task). t.lines) c.self.view_is in
    too_many c.args.self.now (c.from.result + 1) here.0 here.1 (omega (arith, lines, c.if-self-ge-MOST_LINES.true)) (omega (arith, lines, c.from.ensures))

pub returns-clause-goes_on : goal.returns-clause-goes_on
returns-clause-goes_on c =
    let here = not_ended c.args.self.now c.requires in
    let first = c.cut_line.result.0.now in
    let fault : c.self.inside.fault ≡ c.args.self.now.fault = ap (λ (t : Task). t.fault) c.self.view_is in
    let u : Task = record {
      index = c.self.inside.index;
      lines = c.self.inside.lines + 1;
      stream = c.take_bytes.new.buckets;
      text = string_bytes c.take_bytes.new.out;
      left = c.cut_line.result.1.now;
      fault = c.self.inside.fault;
    } in
    task_goes_on c.args.self.now u first (record {
      before = here.0;
      after = fault ∙ here.0;
      index = ap (λ (t : Task). t.index) c.self.view_is;
      lines = ap (λ (t : Task). t.lines + 1) c.self.view_is;
      left = ap (λ (t : Task). cut t.left) (sym c.self.view_is) ∙ c.cut_line.ensures.cut;
      stream = c.in-Ok.ensures.stream ∙ ap (λ (t : Task). (outcome_of (next_number t) first t.stream).stream) c.self.view_is;
      text = c.in-Ok.ensures.written ∙ ap (λ (t : Task). t.text ++ concat (outcome_of (next_number t) first t.stream).written) c.self.view_is;
    })
