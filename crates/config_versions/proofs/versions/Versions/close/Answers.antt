use Rattle.std.proofs.Common.{◌≡◌, ◌∙◌, All, refl, subst, sym, ap}
use mathlib.Core.List.{IsPrefix}
use Rattle.rate_types.specs.Sums.{total, times}
use Rattle.told_list.specs.Tokens.{list_of, list_id, view, known}
use Rattle.config_versions.proofs.Lists.{all_parts, all_of_parts, total_map, owned_as}
use Rattle.config_versions.proofs.versions.Versions.close.Goals as goal

pub close-versions-requires-clause-passes : goal.close-versions-requires-clause-passes
close-versions-requires-clause-passes g c =
    subst (All (λ s. list_of s ≡ list_id c.args.self.told)) (sym c.in_ok-seats.ensures)
    (all_of_parts (λ p. p.seen) (λ s. list_of s ≡ list_id c.args.self.told) c.args.passes.items c.requires.passes)

pub returns-clause-prefixes : goal.returns-clause-prefixes
returns-clause-prefixes g c =
    all_parts (λ p. p.seen) (λ s. IsPrefix (known s) c.close-versions.result.versions) c.args.passes.items
    (subst (All (λ s. IsPrefix (known s) c.close-versions.result.versions)) c.in_ok-seats.ensures c.close-versions.ensures.prefixes)

pub returns-clause-owned : goal.returns-clause-owned
returns-clause-owned g c = λ n.
    owned_as _ _ _ _ n _ _ c.args.self.first refl
    (ap (total (λ s. times n (view s).own)) c.in_ok-seats.ensures ∙ total_map (λ p. p.seen) (λ s. times n (view s).own) c.args.passes.items)
    (c.close-versions.ensures.owned n)
