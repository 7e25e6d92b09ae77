use Rattle.std.proofs.Common.{◌∙◌, ◌||◌, ◌&&◌, not, nat_lt, Bool, true, false, ◌≡◌, List, [], ◌∷◌, refl, sym, ap}
use Rattle.std.specs.List.{list_all, list_any}
use Rattle.std.specs.List.Sorted.{IsPermutation}
use Rattle.std.proofs.lemmas.List.Sorted.{list_any-IsPermutation}
use Rattle.rate_types.specs.Counters.{same_counter}
use Rattle.rate_types.specs.Ledger.{Charge}
use Rattle.rate_types.specs.declared.counter_key.CounterKey.{CounterKey}
use Rattle.script_run.specs.Charges.{ledger_of}
use Rattle.run_audit.proofs.ChargeOrder.{sorted_chain}
use Rattle.run_audit.proofs.Ledgers.{ledger_by}
use Rattle.run_audit.proofs.Tests.{renamed}
use Rattle.run_audit.proofs.ledger.are_ledger.Goals as goal

not_any : (a b : Bool) → (a && not b) ≡ not (not a || b)
not_any true b = refl
not_any false b = refl

all_by_any : {X : Type 0} (p : X → Bool) (xs : List X) → list_all p xs ≡ not (list_any (λ x. not (p x)) xs)
all_by_any p [] = refl
all_by_any p (x ∷ xs) = ap (λ b. p x && b) (all_by_any p xs) ∙ not_any (p x) (list_any (λ x. not (p x)) xs)

all_moved : {X : Type 0} (p : X → Bool) (xs ys : List X) → IsPermutation xs ys → list_all p xs ≡ list_all p ys
all_moved p xs ys moved =
    all_by_any p xs ∙ ap not (list_any-IsPermutation (λ x. not (p x)) xs ys moved) ∙ sym (all_by_any p ys)

pub returns : goal.returns
returns c = λ lines records order.
    let ledger = ledger_of lines records in
    let hits = c.all_hit-hits.ensures ∙ sym (all_moved (λ (x : Charge CounterKey). nat_lt 0 x.hits) ledger c.args.charges.now order.same) in
    renamed _ _ c.both-lawful.ensures (ledger_by same_counter ledger c.all_hit-hits.result c.is_chain-chain.result hits
    (sorted_chain ledger c.args.charges.now c.is_chain-chain.result order.same order.sorted c.is_chain-chain.ensures))
