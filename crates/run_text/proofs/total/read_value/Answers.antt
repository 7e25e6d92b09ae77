use Rattle.serde_json.specs.View.{view}
use Rattle.run_text.proofs.ReadingTotal.{only_total}
use Rattle.run_text.proofs.total.read_value.Goals as goal

pub returns-then-branch-clause-only : goal.returns-then-branch-clause-only
returns-then-branch-clause-only c =
    only_total c.args.bytes.now (view c.args.value.now) c.in-Some.total c.requires.1 (rw c.in-Some.is at c.in_ok-total.ensures.some)
