use Rattle.std.proofs.Common.{◌≡◌, ◌&&◌, not, List, ap, ap₂, ◌∙◌, subst}
use Rattle.std.specs.Bool.{Decides}
use Rattle.std.specs.List.{list_any}
use Rattle.rls_core.specs.Reply.{is_over_limit, AreStatuses}
use Rattle.rls_core.specs.declared.status.Status.{Status}
use Rattle.run_audit.specs.Equal.{same_answer}
use Rattle.run_audit.specs.Ruled.{with_rules}
use Rattle.run_audit.proofs.Tests.{renamed}
use Rattle.run_audit.proofs.StatusesBy.{reply_by}
use Rattle.run_audit.proofs.replies.is_reply.Goals as goal

pub returns : goal.returns
returns c =
    let index = c.args.index.now in
    let request = c.args.request.now in
    let answer = c.args.answer.now in
    let each = subst
    (λ (ss : List Status). Decides c.are_statuses-each.result (AreStatuses index request c.args.moment request.descriptors (with_rules index request request.descriptors ss)))
    (c.as_slice.ensures ∙ c.items.ensures.all) c.are_statuses-each.ensures in
    let overall : c.is_overall-overall.result ≡ same_answer answer.over (list_any (λ s. is_over_limit s.code) answer.statuses && not c.args.global_shadow)
    = c.is_overall-overall.ensures ∙ ap₂ (λ a b. same_answer a (b && not c.args.global_shadow)) c.over.ensures
    (c.some_is_over-over.ensures ∙ ap (λ (ss : List Status). list_any (λ s. is_over_limit s.code) ss) (c.as_slice-2.ensures ∙ c.items-2.ensures.all)) in
    renamed _ _ c.both-stands.ensures
    (reply_by index request c.args.moment c.args.global_shadow answer.over answer.statuses c.are_statuses-each.result c.is_overall-overall.result each overall)
