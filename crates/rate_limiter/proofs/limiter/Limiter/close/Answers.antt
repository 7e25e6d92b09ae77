use Rattle.std.proofs.Common.{◌≡◌, ◌∙◌, ◌==◌, ◌≤◌, ◌<◌, ℕ, List, All, length, sym, subst, ap, arith}
use Rattle.std.proofs.lemmas.List.{length-map}
use Rattle.std.specs.List.{AllByRecursion}
use mathlib.Core.List.{IsPrefix}
use Rattle.atomic_table.specs.Seated.{TableId}
use Rattle.rate_types.specs.Counters.{same_counter}
use Rattle.rate_types.specs.declared.counter_key.CounterKey.{CounterKey}
use Rattle.rate_types.specs.Ledger.{Sight, charged_total, IsLawfulLedger, IsLawfulSight}
use Rattle.rate_types.specs.Sums.{times}
use Rattle.told_list.specs.Lists.{IsOwnedOnce}
use Rattle.counter_directory.specs.Passes.{list_of, knows, KnownClaims}
use Rattle.descriptor_tree.specs.Trees.{DomainTree}
use Rattle.config_versions.specs.PassState.{PassState}
use Rattle.config_versions.specs.Passes.{pass_state, versions_id, versions_of}
use Rattle.counter_cells.specs.Ledgers.{ledger_of, sights_of}
use Rattle.counter_cells.specs.Closing.{ticks_of, TicksAreLawful, CountsAreTotals}
use Rattle.counter_cells.specs.declared.view.CellView.{CellView}
use Rattle.counter_directory.specs.declared.closed.OpenClaim.{OpenClaim}
use Rattle.counter_directory.specs.Claims.{IsLawfulClaims}
use Rattle.counter_directory.specs.Open.{open_claims_of}
use Rattle.rate_limiter.specs.Passes.{LimiterId, LimiterView}
use Rattle.rate_limiter.specs.Closing.{cells_of}
use Rattle.rate_limiter.specs.Values.{HasSight}
use Rattle.rate_limiter.specs.Summed.{CountCharged, HaveClaims}
use Rattle.rate_limiter.proofs.Naming.{ledger_named, sight_named}
use Rattle.rate_limiter.proofs.Parting.{all_through, total_through}
use Rattle.rate_limiter.proofs.Sighting.{all_over, values_lawful}
use Rattle.rate_limiter.proofs.Totalling.{cells_there, counts_charged, claims_had}
use Rattle.rate_limiter.proofs.limiter.Limiter.close.Goals as goal

pub close-requires-clause-passes : goal.close-requires-clause-passes
close-requires-clause-passes g c =
    all_through (λ (i : TableId). i ≡ versions_id c.self.inside.versions) (λ p. p.limiter.versions) versions_of c.args.passes.items c.in_ok-parts.parts.versions.items
    (sym c.in_ok-parts.ensures.version_lists)
    (λ k d lt. ap (λ (x : LimiterId). x.versions) (c.requires.passes k d lt) ∙ sym (ap (λ (l : LimiterView). l.id.versions) c.self.view_is))

pub close-requires-clause-every : goal.close-requires-clause-every
close-requires-clause-every g c =
    c.in_ok-parts.ensures.len.1 ∙ c.requires.every ∙ sym (ap (λ (l : LimiterView). l.passes) c.self.view_is) ∙ c.self.invariant.0 ∙ sym c.self.invariant.1

pub close-closed_directory-requires-clause-passes : goal.close-closed_directory-requires-clause-passes
close-closed_directory-requires-clause-passes g c =
    all_through (λ (i : TableId). i ≡ c.self.inside.directory.list_id) (λ p. p.limiter.claims) list_of c.args.passes.items c.in_ok-parts.parts.claims.items
    (sym c.in_ok-parts.ensures.claim_lists)
    (λ k d lt. ap (λ (x : LimiterId). x.claims) (c.requires.passes k d lt) ∙ sym (ap (λ (l : LimiterView). l.id.claims) c.self.view_is))

pub close-closed_directory-requires-clause-every : goal.close-closed_directory-requires-clause-every
close-closed_directory-requires-clause-every g c =
    c.in_ok-parts.ensures.len.0 ∙ c.requires.every ∙ sym (ap (λ (l : LimiterView). l.passes) c.self.view_is)

pub returns-clause-claims : goal.returns-clause-claims
returns-clause-claims g c =
    subst (λ n. IsLawfulClaims g.N.CellNaming.setup.cells n c.close-closed_directory.result.claims) (ap (λ (l : LimiterView). l.claims_max) c.self.view_is)
    c.close-closed_directory.ensures.lawful

pub returns-clause-claims_known : goal.returns-clause-claims_known
returns-clause-claims_known g c =
    all_through (λ (t : KnownClaims). IsPrefix t.known c.close-closed_directory.result.claims) knows (λ p. p.claims) c.in_ok-parts.parts.claims.items c.args.passes.items
    c.in_ok-parts.ensures.claims c.close-closed_directory.ensures.prefixes

pub returns-clause-claims_owned : goal.returns-clause-claims_owned
returns-clause-claims_owned g c n =
    subst (IsOwnedOnce 0 (length c.close-closed_directory.result.claims) n)
    (total_through (λ (t : KnownClaims). times n t.own) knows (λ p. p.claims) c.in_ok-parts.parts.claims.items c.args.passes.items c.in_ok-parts.ensures.claims)
    (c.close-closed_directory.ensures.owned n)

pub returns-clause-versions_known : goal.returns-clause-versions_known
returns-clause-versions_known g c =
    all_through (λ (s : PassState (List DomainTree)). IsPrefix s.view.known c.in_ok-closed_versions.closed_versions.versions) pass_state (λ p. p.version)
    c.in_ok-parts.parts.versions.items c.args.passes.items c.in_ok-parts.ensures.versions c.in_ok-closed_versions.ensures.prefixes

pub returns-clause-versions_owned : goal.returns-clause-versions_owned
returns-clause-versions_owned g c n =
    subst (IsOwnedOnce 1 (length c.in_ok-closed_versions.closed_versions.versions) n)
    (total_through (λ (s : PassState (List DomainTree)). times n s.view.own) pass_state (λ p. p.version)
    c.in_ok-parts.parts.versions.items c.args.passes.items c.in_ok-parts.ensures.versions)
    (c.in_ok-closed_versions.ensures.owned n)

pub returns-clause-ticks : goal.returns-clause-ticks
returns-clause-ticks g c =
    let ps = c.args.passes.items in
    let cells = c.in_ok-parts.ensures.cells in
    let full : length c.in_ok-parts.parts.cells.items ≡ g.N.CellNaming.setup.passes
    = ap length cells ∙ length-map ps (λ p. p.cells) ∙ sym c.args.passes.ok.0 ∙ c.requires.every ∙ sym (ap (λ (l : LimiterView). l.passes) c.self.view_is) ∙ c.self.invariant.0 in
    subst (λ (vs : List CellView). TicksAreLawful g.N.CellNaming.setup.start c.in_ok-closed_cells.closed_cells.moment (ticks_of vs)) cells (c.in_ok-closed_cells.ensures.ticks full)

pub returns-clause-ledger : goal.returns-clause-ledger
returns-clause-ledger g c charges named =
    let ps = c.args.passes.items in
    let cells = c.in_ok-parts.ensures.cells in
    let full : length c.in_ok-parts.parts.cells.items ≡ g.N.CellNaming.setup.passes
    = ap length cells ∙ length-map ps (λ p. p.cells) ∙ sym c.args.passes.ok.0 ∙ c.requires.every ∙ sym (ap (λ (l : LimiterView). l.passes) c.self.view_is) ∙ c.self.invariant.0 in
    ledger_named g.N.CellNaming.setup.cells c.self.inside.directory.claims_max c.close-closed_directory.result.claims c.close-closed_directory.ensures.lawful
    (ledger_of (cells_of ps)) charges named
    (subst (λ (vs : List CellView). IsLawfulLedger ◌==◌ (ledger_of vs)) cells (c.in_ok-closed_cells.ensures.ledger full))

pub returns-clause-sights : goal.returns-clause-sights
returns-clause-sights g c charges named =
    let ps = c.args.passes.items in
    let cells = c.in_ok-parts.ensures.cells in
    let full : length c.in_ok-parts.parts.cells.items ≡ g.N.CellNaming.setup.passes
    = ap length cells ∙ length-map ps (λ p. p.cells) ∙ sym c.args.passes.ok.0 ∙ c.requires.every ∙ sym (ap (λ (l : LimiterView). l.passes) c.self.view_is) ∙ c.self.invariant.0 in
    let law = subst (λ (vs : List CellView). IsLawfulLedger ◌==◌ (ledger_of vs)) cells (c.in_ok-closed_cells.ensures.ledger full) in
    let sights = subst (λ (vs : List CellView). AllByRecursion (IsLawfulSight ◌==◌ (ledger_of vs)) (sights_of vs)) cells (c.in_ok-closed_cells.ensures.sights full) in
    all_over (λ (v : CellView). (sight : Sight CounterKey) → HasSight c.close-closed_directory.result.claims v sight → IsLawfulSight same_counter charges sight) (λ p. p.cells) ps
    (λ k d lt sight s. sight_named g.N.CellNaming.setup.cells c.self.inside.directory.claims_max c.close-closed_directory.result.claims c.close-closed_directory.ensures.lawful
    (ledger_of (cells_of ps)) charges named s.0 sight s.1 (values_lawful (cells_of ps) law sights k d lt s.0 sight.seen s.2))

pub totals_of-requires : goal.totals_of-requires
totals_of-requires g c =
    let list = c.in_ok-list.list in
    record {
      cells = subst (All (λ (x : OpenClaim). x.spot.cell < length c.items.result.now)) (sym c.into_items.ensures)
          (cells_there g.N.CellNaming.setup.cells c.self.inside.directory.claims_max c.close-closed_directory.result.last c.close-closed_directory.result.claims
          c.close-closed_directory.ensures.lawful list c.in_ok-list.ensures (length c.items.result.now) (ap length c.items.ensures ∙ c.in_ok-closed_cells.ensures.length));
      once = subst (λ (l : List OpenClaim). (q : CounterKey) → open_claims_of q l ≤ 1) (sym c.into_items.ensures) c.in_ok-list.ensures.once;
    }

pub returns-clause-totals : goal.returns-clause-totals
returns-clause-totals g c charges named =
    let ps = c.args.passes.items in
    let cells = c.in_ok-parts.ensures.cells in
    let directory = c.close-closed_directory in
    let closed = c.in_ok-closed_cells in
    let full : length c.in_ok-parts.parts.cells.items ≡ g.N.CellNaming.setup.passes
    = ap length cells ∙ length-map ps (λ p. p.cells) ∙ sym c.args.passes.ok.0 ∙ c.requires.every ∙ sym (ap (λ (l : LimiterView). l.passes) c.self.view_is) ∙ c.self.invariant.0 in
    let late : directory.result.last ≤ closed.closed_cells.moment = omega (arith, directory.ensures.last, closed.ensures.heard full) in
    let totals = subst (CountsAreTotals closed.closed_cells.counts directory.result.claimer) cells (closed.ensures.counts full) in
    let charged : CounterKey → ℕ = λ q. charged_total same_counter q charges in
    let counts = counts_charged g.N.CellNaming.setup.cells c.self.inside.directory.claims_max directory.result.last directory.result.claims directory.ensures.lawful
    c.in_ok-list.list c.in_ok-list.ensures closed.closed_cells.moment closed.closed_cells.counts directory.result.claimer (cells_of ps)
    directory.ensures.open totals charges named late in
    let had = claims_had g.N.CellNaming.setup.cells c.self.inside.directory.claims_max directory.result.last directory.result.claims directory.ensures.lawful
    c.in_ok-list.list c.in_ok-list.ensures closed.closed_cells.moment closed.closed_cells.counts directory.result.claimer (cells_of ps)
    directory.ensures.open totals charges named late in
    c.in_ok-totals.ensures charged
    (subst (CountCharged charged closed.closed_cells.moment c.items.result.now) (sym c.into_items.ensures)
    (subst (λ (l : List ℕ). CountCharged charged closed.closed_cells.moment l c.in_ok-list.list) (sym c.items.ensures) counts))
    (subst (HaveClaims charged closed.closed_cells.moment) (sym c.into_items.ensures) had)
