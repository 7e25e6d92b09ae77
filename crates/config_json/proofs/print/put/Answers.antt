use Rattle.std.proofs.Common.{ap, ◌∙◌}
use Rattle.serde_json.specs.Data.{put}
use Rattle.serde_json.specs.View.{view, members_view}
use Rattle.serde_json.proofs.Views.{members_view-insert_entry}
use Rattle.config_json.proofs.print.put.Goals as goal

pub returns-in_ok-insert-in-Some : goal.returns-in_ok-insert-in-Some
returns-in_ok-insert-in-Some c = rw c.in-Some.is (
    ap members_view c.in_ok-insert-in-Some.ensures.entries
    ∙ members_view-insert_entry c.args.members.now.entries c.in_ok-name-in-Some.name c.in-Some.value
    ∙ ap (λ k. put k (view c.in-Some.value) (members_view c.args.members.now.entries)) c.in_ok-name-in-Some.ensures.ok
    )
