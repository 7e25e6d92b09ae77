use Rattle.std.proofs.Common.{◌∙◌, ◌+◌, ◌&&◌, nat_lt, ap, map}
use Rattle.std.proofs.lemmas.Bool.Decides.{Decides-ltb}
use Rattle.script_run.specs.Views.{line_view}
use Rattle.run_audit.specs.VersionAt.{config_at}
use Rattle.run_audit.proofs.Tests.{renamed}
use Rattle.run_audit.proofs.CausesBy.{room_from}
use Rattle.run_audit.proofs.refusals.lacks_room.Goals as goal

pub returns : goal.returns
returns c =
    let run = c.args.run.now in
    let above = nat_lt run.cells (c.args.numbers.live + c.args.numbers.wanted) in
    renamed _ _ (c.both-stands.ensures ∙ ap (λ b. b && above) c.both-needs.ensures)
    (room_from (config_at run.configs.now) run.cells (map line_view c.args.before.now) c.args.earlier.now c.args.request.now c.args.rec.now
    c.moment_of-moment.result c.index_of-index.result.now c.args.bound.now.keys c.in_ok-named.named.items c.in_ok-missing.missing.items
    c.args.numbers.live c.args.numbers.wanted c.are_just-lives.result c.in_ok-wants.wants above c.moment_of-moment.ensures
    c.index_of-index.ensures c.requires c.in_ok-named.ensures c.in_ok-missing.ensures c.are_just-lives.ensures c.in_ok-wants.ensures
    (Decides-ltb run.cells (c.args.numbers.live + c.args.numbers.wanted)))
