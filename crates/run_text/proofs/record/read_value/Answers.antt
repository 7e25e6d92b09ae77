use Rattle.serde_json.specs.View.{view}
use Rattle.run_text.specs.Views.{shown_of}
use Rattle.run_text.proofs.Reading.{only_record}
use Rattle.run_text.proofs.record.read_value.Goals as goal

pub returns-then-branch-clause-only : goal.returns-then-branch-clause-only
returns-then-branch-clause-only c =
    only_record c.args.bytes.now (view c.args.value.now) (shown_of c.in_ok-said.said) c.requires.1 c.in_ok-said.ensures
