-- What a check uses from its first tick on.
use Rattle.std.proofs.Common.{◌≡◌, inl, inr, ℕ, List, [], ◌∷◌, ◌++◌, length, map, sym, ap, ◌∙◌, subst, arith, append_assoc, length-append}
use Rattle.std.specs.Prelude.{Result, Ok, Err, IsErr, IsErrAnd}
use Rattle.rate_types.specs.Requests.{RequestParts}
use Rattle.rate_types.specs.declared.counter_key.CounterKey.{CounterKey}
use Rattle.atomic_table.specs.Seated.{TableId}
use Rattle.descriptor_tree.specs.Trees.{DomainTree}
use Rattle.config_versions.specs.PassState.{PassState}
use Rattle.rule_lookup.specs.declared.found.Found.{Found}
use Rattle.counter_cells.specs.Steps.{ticked, tick_of}
use Rattle.counter_cells.specs.declared.view.CellView.{CellView}
use Rattle.counter_cells.specs.declared.view.Tick.{Tick}
use Rattle.counter_directory.specs.declared.acquired.AcquireFault.{AcquireFault}
use Rattle.counter_directory.specs.declared.acquired.AcquireFault.TheVariants.{OutOfMemory, ClaimsSpent, CountersFull}
use Rattle.over_cache.specs.Entries.{Entries}
use Rattle.rls_core.specs.declared.fault.CheckFault.{CheckFault}
use Rattle.rls_core.specs.declared.fault.CheckFault.TheVariants as check
use Rattle.rls_core.specs.declared.reply.Reply.{Reply}
use Rattle.rate_limiter.specs.Counters.{CountersView, pass_with}
use Rattle.rate_limiter.specs.Known.{key_of}
use Rattle.rate_limiter.specs.Names.{names_under, name_keys}
use Rattle.rate_limiter.specs.Passes.{PassView, KeepsAllButVersion}
use Rattle.rate_limiter.specs.Pinned.{fault_of}
use Rattle.rate_limiter.specs.Replied.{replied}
use Rattle.rate_limiter.specs.Used.{asked_each, HasUsed, named_keys, UsesKnown, ChecksKnown}
use Rattle.rate_limiter.proofs.Counting.{keys_named}
use Rattle.rate_limiter.proofs.Planned.{IsPlanned}
use Rattle.rate_limiter.proofs.Resting.{rest_same, first_same}
use Rattle.rate_limiter.proofs.Using.{uses_first}

module _ (request : RequestParts) (now : ℕ) (p : PassView) (versions : TableId) (version : PassState (List DomainTree)) (u v : CountersView) (refused : ℕ) (fs : List Found)
    (h : IsPlanned request now p versions version u v refused fs) (x : CountersView) (left : ℕ) (added : List Tick) (ticks : x.cells.ticks ≡ v.cells.ticks ++ added) where
  abbrev tick : Tick
  tick = tick_of h.moment now p.cells

  cells_same : u.cells ≡ ticked h.moment now p.cells
  cells_same = ap (λ (y : PassView). y.cells) h.kept ∙ h.ticks

  whole : x.cells.ticks ≡ p.cells.ticks ++ tick ∷ added
  whole =
      ticks ∙ ap (λ (y : CountersView). y.cells.ticks ++ added) h.planned ∙ ap (λ (y : CellView). y.ticks ++ added) cells_same
      ∙ append_assoc p.cells.ticks (tick ∷ []) added

  at_first : (first : Tick) (more : List Tick) → x.cells.ticks ≡ p.cells.ticks ++ first ∷ more → u.cells.moment ≡ first.moment
  at_first first more is =
      ap (λ (y : CellView). y.moment) cells_same
      ∙ ap (λ (t : Tick). t.moment) (first_same tick first added more (rest_same p.cells.ticks (tick ∷ added) (first ∷ more) (sym whole ∙ is)))

  known_same : u.known ≡ p.known
  known_same = ap (λ (y : PassView). y.known) h.kept ∙ ap (λ (y : PassView). y.known) h.rest

  named : (m : ℕ) → name_keys m (names_under request request.descriptors fs) ≡ named_keys version.index request m
  named m =
      ap (λ (l : List Found). name_keys m (names_under request request.descriptors l)) h.founds
      ∙ ap (λ (l : List CounterKey). map key_of l) (keys_named u.claims.claims.known request m version.index request.descriptors)

  -- the plan asks for each counter, and then those of the check's end are used
  pub planned_uses : v.known ≡ asked_each (name_keys u.cells.moment (names_under request request.descriptors fs)) u.known
      → HasUsed [] (name_keys x.cells.moment (names_under request request.descriptors fs)) v.known x.known
      → UsesKnown request p (pass_with versions version x left)
  planned_uses asks uses first more is =
      let ends = named_keys version.index request x.cells.moment in
      subst (λ (k : Entries). HasUsed (named_keys version.index request first.moment) ends k x.known) known_same
      (subst (λ m. HasUsed (named_keys version.index request m) ends u.known x.known) (at_first first more is)
      (subst (λ (l : List (List ℕ)). HasUsed (named_keys version.index request u.cells.moment) l u.known x.known) (named x.cells.moment)
      (subst (λ (l : List (List ℕ)). HasUsed l (name_keys x.cells.moment (names_under request request.descriptors fs)) u.known x.known) (named u.cells.moment)
      (uses_first (name_keys u.cells.moment (names_under request request.descriptors fs)) (name_keys x.cells.moment (names_under request request.descriptors fs)) u.known v.known
      x.known asks uses))))

-- a pass that hasn't ticked says nothing of it
pub never_used : (request : RequestParts) (p q : PassView) → KeepsAllButVersion p q → UsesKnown request p q
never_used request p q keeps first more is =
    let same = ap (λ (y : PassView). length y.cells.ticks) keeps in
    let more_ticks = ap length is ∙ length-append p.cells.ticks (first ∷ more) in
    absurd (omega arith)

pub refused_uses : (request : RequestParts) (p q : PassView) (fault : AcquireFault) (f : CheckFault) → f ≡ fault_of fault → UsesKnown request p q
    → ChecksKnown request p (Err f) q
refused_uses request p q OutOfMemory f e h = subst (λ (x : CheckFault). ChecksKnown request p (Err x) q) (sym e) (inl h)
refused_uses request p q (ClaimsSpent claims wanted) f e h = subst (λ (x : CheckFault). ChecksKnown request p (Err x) q) (sym e) h
refused_uses request p q (CountersFull moment live held wanted) f e h = subst (λ (x : CheckFault). ChecksKnown request p (Err x) q) (sym e) h

-- for want of memory before the plan
pub early_uses : (request : RequestParts) (p q : PassView) (r : Result (Unit {0}) CheckFault) (reply : Reply) → IsErr r × IsErrAnd r (λ f. f ≡ check.OutOfMemory)
    → q.known ≡ p.known → ChecksKnown request p (replied r reply) q
early_uses request p q (Ok x) reply e same = absurd e.1
early_uses request p q (Err fault) reply e same = subst (λ (f : CheckFault). ChecksKnown request p (Err f) q) (sym e.1) (inr same)
