-- What a check has before it answers, whether the directory was asked or not.
use Rattle.std.proofs.Common.{◌≡◌, ℕ, false, true≢false, List, [], length, Option, Some, None, IfSome, refl, sym, ap, ◌∙◌, subst, arith}
use Rattle.std.proofs.lemmas.List.{append-nil}
use Rattle.std.specs.Prelude.{IsSome}
use mathlib.Core.Option.{some}
use mathlib.Core.List.{IsPrefix}
use lib.ListN.{get_elem?}
use Rattle.rate_types.specs.Requests.{RequestParts}
use Rattle.rate_types.specs.declared.request.Descriptor.{Descriptor}
use Rattle.rule_lookup.specs.declared.found.Found.{Found}
use Rattle.rule_lookup.specs.declared.found.Found.TheVariants.{NoRule, Unlimited, Limited}
use Rattle.counter_cells.specs.declared.view.CellView.{CellView}
use Rattle.counter_cells.specs.declared.answers.Spot.{Spot}
use Rattle.counter_cells.specs.Steps.{number_of}
use Rattle.counter_directory.specs.Keys.{keys_at}
use Rattle.counter_directory.specs.Spots.{LeavesAllButPins}
use Rattle.counter_directory.specs.Passes.{DirectoryPassView}
use Rattle.over_cache.specs.Entries.{Entries, known_of}
use Rattle.over_cache.specs.declared.known.Known.{Known}
use Rattle.rate_limiter.specs.Asked.{known_for, IsOwn, AreAsked, AreHeld, NoneMissing, founds, is_missing}
use Rattle.rate_limiter.specs.Counters.{CountersView, IsPinned, Holds}
use Rattle.rate_limiter.specs.Known.{spot_in, AreClaimedOnce, KnowsCounter, PinsGrow}
use Rattle.rate_limiter.specs.Names.{names_under}
use Rattle.rate_limiter.specs.PassStep.{HasClaimed}
use Rattle.rate_limiter.specs.Pinned.{SameButPins, HasWaited, HasPins, HasHeld}
use Rattle.rate_limiter.specs.Sought.{SameKnown, AreNoted, KnowsUnder}
use Rattle.rate_limiter.specs.declared.asked.Asked.{Asked}
use Rattle.rate_limiter.proofs.AskedCounters.{asked_later, of_each}
use Rattle.rate_limiter.proofs.Knowing.{at_less, spots_same, waited_after}
use Rattle.rate_limiter.proofs.Lists.{map_some, prefix_self}
use Rattle.rate_limiter.proofs.NamedSpots.{pinned_each, named_spots, known_pinned}
use Rattle.rate_limiter.proofs.Noting.{noted_under, knows_still}
use Rattle.rate_limiter.proofs.Turning.{claimed_none}

-- a view of which only pins changed has waited
pub pins_waited : (v w : CellView) → SameButPins v w → HasWaited v w
pins_waited v w same = record {
  ticked = record {
    number = same.number;
    added = [];
    ticks = same.ticks ∙ sym (append-nil v.ticks);
    offers = tt;
    moment = same.moment;
    later = let e = same.moment in omega arith;
  };
  keeps = record { looks = same.looks; charges = same.charges };
}

-- without a turn at the directory
pub held_known : (cells : ℕ) (request : RequestParts) (v w : CountersView) (asked : List Asked) (spots : List Spot) → AreAsked cells request v asked
    → w ≡ record v { cells = w.cells } → SameButPins v.cells w.cells → PinsGrow v.cells.pairs w.cells.pairs → AreHeld cells asked spots w.cells
    → HasHeld cells request (founds asked) asked spots v w
held_known cells request v w asked spots all rest same grow held =
    let claims : w.claims ≡ v.claims = ap (λ (u : CountersView). u.claims) rest in
    let t = v.claims.claims in
    record {
      founds_are = refl;
      asked_are = asked_later cells request v asked all w claims (λ key. ap (λ (u : CountersView). known_of key u.known) rest) same.moment grow;
      held = held;
      waited = pins_waited v.cells w.cells same;
      claimed = claimed_none (keys_at w.cells.moment (names_under request request.descriptors (founds asked))) w.cells.moment t w.claims.claims
          (subst (λ (u : DirectoryPassView). IsPrefix t.known u.claims.known) (sym claims) (prefix_self t.known)) (ap (λ (u : DirectoryPassView). u.claims.own) claims);
    }

module _ (request : RequestParts) (moment : ℕ) (es : Entries) (d : Descriptor) where
  not_missing : (f : Found) (k : Option Known) → k ≡ known_for request moment es d f → KnowsCounter request moment es d f → is_missing f k ≡ false
  not_missing NoRule k is knows = refl
  not_missing (Unlimited rule) k is knows = refl
  not_missing (Limited limit unit shadow rule) None is knows =
      let none : IsSome (spot_in None) = subst (λ (o : Option Known). IsSome (spot_in o)) (sym is) knows.0 in absurd (true≢false (sym none))
  not_missing (Limited limit unit shadow rule) (Some k) is knows = refl

-- by a turn
module _ (cells : ℕ) (request : RequestParts) (v mid w x : CountersView) (asked : List Asked) (fs : List Found) (spots : List Spot)
    (same : SameButPins v.cells mid.cells) (claims : mid.claims ≡ v.claims)
    (pins : HasPins (names_under request request.descriptors fs) spots mid.cells w.cells mid.claims.claims w.claims.claims) (holds : Holds cells spots w.cells)
    (noted : AreNoted (names_under request request.descriptors fs) w.cells.moment w.known) (once : AreClaimedOnce w.claims.claims.known)
    (rest : x ≡ record w { known = x.known }) (known : SameKnown w.known x.known) (founds_are : founds asked ≡ fs) (all : AreAsked cells request x asked) where
  cells_are : x.cells ≡ w.cells
  cells_are = ap (λ (u : CountersView). u.cells) rest

  claims_are : x.claims ≡ w.claims
  claims_are = ap (λ (u : CountersView). u.claims) rest

  knows : KnowsUnder (length request.descriptors) request x.cells.moment x.known request.descriptors fs
  knows =
      subst (λ (u : CellView). KnowsUnder (length request.descriptors) request u.moment x.known request.descriptors fs) (sym cells_are)
      (knows_still request w.cells.moment w.known x.known (spots_same w.known x.known known) request.descriptors fs (length request.descriptors)
      (noted_under request w.cells.moment w.known request.descriptors fs noted (length request.descriptors)))

  found_at : (i : ℕ) (a : Asked) → get_elem? asked i ≡ some a → get_elem? fs i ≡ some a.found
  found_at i a at = subst (λ (l : List Found). get_elem? l i ≡ some a.found) founds_are (map_some (λ (y : Asked). y.found) asked i a at)

  none_missing : NoneMissing (length asked) asked
  none_missing i a lt at =
      let y = of_each cells request x asked all i a at in
      not_missing request x.cells.moment x.known y.0 a.found a.known y.2.known
      (knows i y.0 a.found (at_less request.descriptors i y.0 y.1) y.1 (found_at i a at))

  pinned : (i : ℕ) (a : Asked) → get_elem? asked i ≡ some a → IfSome a.known (λ k. IsPinned x.cells k.spot)
  pinned i a at =
      let y = of_each cells request x asked all i a at in
      let own = y.2.own in
      let t = w.claims.claims.known in
      let m = w.cells.moment in
      let each = pinned_each cells w.cells spots holds pins.under in
      let named = named_spots t request w.cells request.descriptors fs spots pins.count pins.bound each i y.0 a.found y.1 (found_at i a at) in
      subst (λ (u : CellView). IfSome a.known (λ k. IsPinned u k.spot)) (sym cells_are)
      (known_pinned t request w.cells cells x.cells.pairs y.0 a.found a.known x.known once
      (subst (λ (u : CellView). a.known ≡ known_for request u.moment x.known y.0 a.found) cells_are y.2.known)
      (subst (λ (u : CellView). IsOwn cells t x.cells.pairs request u.moment y.0 a.found a.known) cells_are
      (subst (λ (u : DirectoryPassView). IsOwn cells u.claims.known x.cells.pairs request x.cells.moment y.0 a.found a.known) claims_are own))
      named)

  pub held_acquired : HasHeld cells request fs asked spots v x
  held_acquired = record {
    founds_are = founds_are;
    asked_are = all;
    held = record {
      known = none_missing;
      holds = subst (Holds cells spots) (sym cells_are) holds;
      pinned = λ i a at _. pinned i a at;
    };
    waited = subst (HasWaited v.cells) (sym cells_are) (waited_after v.cells mid.cells w.cells same pins.waited);
    claimed = subst (λ (u : CellView). HasClaimed (keys_at u.moment (names_under request request.descriptors fs)) u.moment v.claims.claims x.claims.claims) (sym cells_are)
        (subst (λ (u : DirectoryPassView). HasClaimed (keys_at w.cells.moment (names_under request request.descriptors fs)) w.cells.moment v.claims.claims u.claims) (sym claims_are)
        (subst (λ (u : DirectoryPassView). HasClaimed (keys_at w.cells.moment (names_under request request.descriptors fs)) w.cells.moment u.claims w.claims.claims) claims
        pins.claimed));
  }

-- pins that are given back leave what was waited for
pub waited_left : (v w x : CellView) → HasWaited v w → LeavesAllButPins w x → HasWaited v x
waited_left v w x h left = record {
  ticked = record {
    number = ap number_of left ∙ h.ticked.number;
    added = h.ticked.added;
    ticks = ap (λ (u : CellView). u.ticks) left ∙ h.ticked.ticks;
    offers = h.ticked.offers;
    moment = ap (λ (u : CellView). u.moment) left ∙ h.ticked.moment;
    later = let e = ap (λ (u : CellView). u.moment) left in let later = h.ticked.later in omega arith;
  };
  keeps = record { looks = ap (λ (u : CellView). u.looks) left ∙ h.keeps.looks; charges = ap (λ (u : CellView). u.charges) left ∙ h.keeps.charges };
}
