use Rattle.std.proofs.Common.{◌≡◌, List, length, sym, ap, ◌∙◌, subst}
use Rattle.std.specs.Prelude.{All}
use mathlib.Core.List.{IsPrefix}
use Rattle.rate_types.specs.Sums.{total, times}
use Rattle.told_list.specs.Lists.{IsOwnedOnce}
use Rattle.counter_directory.specs.declared.claim.Claim.{Claim}
use Rattle.counter_directory.specs.Claims.{IsLawfulClaims}
use Rattle.counter_directory.specs.Turns.{DirectoryView}
use Rattle.counter_directory.proofs.directory.Directory.close.Goals as goal

pub returns-clause-lawful : goal.returns-clause-lawful
returns-clause-lawful g c =
    let b = c.into_inner-pool.result in
    let most : b.pool.most ≡ c.args.self.claims_max = ap (λ t. t.pool.most) c.into_inner-pool.ensures ∙ c.close-table.ensures.fixed
    ∙ ap (λ (o : DirectoryView). o.claims_max) c.self.view_is in
    subst (λ n. IsLawfulClaims g.N.CellNaming.setup.cells n b.pool.claims) most (subst (λ n. IsLawfulClaims n b.pool.most b.pool.claims) b.size b.pool.lawful)

pub returns-clause-prefixes : goal.returns-clause-prefixes
returns-clause-prefixes g c =
    subst (λ (l : List Claim). All (λ p. IsPrefix p.claims.known l) c.args.passes.items) (ap (λ t. t.pool.claims) (sym c.into_inner-pool.ensures)) c.close-table.ensures.prefixes

pub returns-clause-owned : goal.returns-clause-owned
returns-clause-owned g c = λ n.
    let own = total (λ p. times n p.claims.own) c.args.passes.items in
    subst (λ (l : List Claim). IsOwnedOnce 0 (length l) n own) (ap (λ t. t.pool.claims) (sym c.into_inner-pool.ensures))
    (subst (λ (l : List Claim). IsOwnedOnce (length l) (length c.close-table.result.table.value.pool.claims) n own) c.self.invariant.3 (c.close-table.ensures.owned n))
