use Rattle.std.proofs.Common.{◌≡◌, false, sym, ◌∙◌, rules}
use Rattle.quota_server.specs.Lives.{first_has_ended}
use Rattle.quota_server.proofs.Living.{none_ended}
use Rattle.quota_server.proofs.live.sweep.Goals as goal

pub returns-clause-left : goal.returns-clause-left
returns-clause-left c =
    let first : first_has_ended c.ended.live.shares.items c.args.at ≡ false = search rules in
    sym (none_ended c.args.at c.ended.live.shares.items c.ended.invariant.0.ends first) ∙ c.ended.invariant.1
