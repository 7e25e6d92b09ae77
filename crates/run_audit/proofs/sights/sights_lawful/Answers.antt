use Rattle.std.proofs.Common.{◌≡◌, ◌∙◌, map, List, [], ◌∷◌, ◌++◌, refl, sym, subst, ap, ap₂, vec_len}
use Rattle.std.proofs.lemmas.Bool.Decides.{Decides-eqb}
use Rattle.std.proofs.lemmas.List.{nil_from_length}
use Rattle.std.specs.List.{AllByRecursion}
use Rattle.std.specs.Bool.{Decides}
use Rattle.rate_types.specs.Counters.{same_counter}
use Rattle.rate_types.specs.Ledger.{Charge, IsLawfulSight, Sight}
use Rattle.rate_types.specs.declared.counter_key.CounterKey.{CounterKey}
use Rattle.script_run.specs.Charges.{ledger_of, sights_of}
use Rattle.script_run.specs.Views.{line_view}
use Rattle.run_audit.specs.Chain.{IsChain}
use Rattle.run_audit.specs.Shown.{as_charge, shown_of}
use Rattle.run_audit.specs.declared.gathering.Shown.TheVariants.{Sights}
use Rattle.run_audit.proofs.Gathered.{all_sights}
use Rattle.run_audit.proofs.SightChain.{sights_by}
use Rattle.run_audit.proofs.sights.sights_lawful.Goals as goal

pub returns : goal.returns
returns c =
    let ls = map line_view c.args.lines.now in
    let is = c.in_ok-add_shown-2.ensures ∙ ap₂ ◌++◌ c.in_ok-charges.ensures (all_sights ls c.args.records.now) in
    sights_by (ledger_of ls c.args.records.now) (sights_of ls c.args.records.now) c.are_chain-lawful.result c.requires.ledger
    (subst (λ (xs : List (Charge CounterKey)). Decides c.are_chain-lawful.result (IsChain same_counter xs)) is c.are_chain-lawful.ensures)

none_map : (ss : List (Sight CounterKey)) → map as_charge ss ≡ [] → ss ≡ []
none_map [] e = refl
none_map (s ∷ ss) e = absurd (cc)

pub returns-then-is_empty : goal.returns-then-is_empty
returns-then-is_empty c =
    let ls = map line_view c.args.lines.now in
    let rs = c.args.records.now in
    let sights = c.add_shown.new.charges in
    let empty : sights.items ≡ [] = nil_from_length sights.items (sym sights.ok.0
    ∙ (Decides-eqb (vec_len sights) 0).0 (sym c.is_empty.ensures ∙ c.if-is_empty.true)) in
    let shown = c.in_ok-add_shown.ensures ∙ ap (λ (xs : List (Charge CounterKey)). xs ++ shown_of Sights ls rs) c.new-sights.ensures.items in
    let none : sights_of ls rs ≡ [] = none_map (sights_of ls rs) (sym (all_sights ls rs) ∙ sym shown ∙ empty) in
    (λ e. subst (λ (ss : List (Sight CounterKey)). AllByRecursion (IsLawfulSight same_counter (ledger_of ls rs)) ss) (sym none) tt, λ h. refl)
