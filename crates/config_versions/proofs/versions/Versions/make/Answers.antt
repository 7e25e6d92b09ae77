use Rattle.std.proofs.Common.{◌≡◌, All, subst, sym}
use Rattle.std.specs.Arc.{arc_value}
use Rattle.told_list.specs.Tokens.{list_of, list_id, view, IsFresh}
use Rattle.config_versions.specs.PassState.{IsFirst}
use Rattle.config_versions.specs.Passes.{pass_state}
use Rattle.config_versions.proofs.Lists.{all_parts, all_left, all_both}
use Rattle.config_versions.proofs.versions.Versions.make.Goals as goal

pub returns-clause-first : goal.returns-clause-first
returns-clause-first g c =
    let passes = c.in_ok-passes.passes.items in
    let told = c.in_ok-told.told in
    let version_list = c.of-version_list.result in
    let mine = all_left (λ s. list_of s ≡ list_id told) (λ s. IsFresh version_list.versions (view s)) c.in_ok-told.seats.items c.in_ok-told.ensures.tokens
    in
    all_both (λ p. list_of p.seen ≡ list_id told) (λ p. IsFirst (arc_value c.args.first) (pass_state p)) passes
    (all_parts (λ p. p.seen) (λ s. list_of s ≡ list_id told) passes (subst (All (λ s. list_of s ≡ list_id told)) (sym c.in_ok-passes.ensures.tokens) mine))
    c.in_ok-passes.ensures.first
