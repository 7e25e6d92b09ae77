use Rattle.run_audit.proofs.StatusesBy.{status_by}
use Rattle.run_audit.proofs.replies.is_status.Goals as goal

pub returns : goal.returns
returns c = status_by c.args.found c.args.moment c.args.hits c.args.status c.status_for-right.result c.same_shown.result c.same_shown.ensures c.status_for-right.ensures
