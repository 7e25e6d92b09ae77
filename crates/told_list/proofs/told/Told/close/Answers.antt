use Rattle.std.proofs.Common.{length, subst}
use Rattle.told_list.specs.Lists.{IsOwnedOnce}
use Rattle.told_list.proofs.Joining.{prefixes_of}
use Rattle.told_list.proofs.told.Told.close.Goals as goal

pub returns-clause-prefixes : goal.returns-clause-prefixes
returns-clause-prefixes g c = prefixes_of g.P.IntoSeen.known g.P.IntoSeen.own c.args.passes.items c.join_tokens-all.result.me.0 _ c.join_tokens-all.ensures.all c.take_last.ensures.last.joined_lists

pub returns-clause-owned : goal.returns-clause-owned
returns-clause-owned g c =
    λ p. subst (λ n. IsOwnedOnce (length (g.K.Kept.items c.args.self.table.shared.key.kept)) (length (g.K.Kept.items c.take_last.result)) p n) (c.join_tokens-all.ensures.all.own p)
    (c.take_last.ensures.last.owned p)
