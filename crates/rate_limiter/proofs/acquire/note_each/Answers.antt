use Rattle.std.proofs.Common.{◌≡◌, ◌<◌, ◌∙◌, get_or, length, refl, sym, ap, subst, arith}
use mathlib.Core.Option.{some}
use lib.ListN.{get_elem?}
use Rattle.counter_cells.specs.declared.answers.Spot.{Spot}
use Rattle.rate_types.specs.declared.counter_name.CounterName.{CounterName}
use Rattle.counter_directory.specs.Keys.{key_at, keys_at}
use Rattle.over_cache.specs.Entries.{noted}
use Rattle.rate_limiter.specs.Counters.{CountersView}
use Rattle.rate_limiter.specs.Known.{key_of}
use Rattle.rate_limiter.specs.Sought.{IsOwnSpot}
use Rattle.rate_limiter.proofs.Knowing.{map_at, no_spot}
use Rattle.rate_limiter.proofs.Noting.{within_next, noted_all_names}
use Rattle.rate_limiter.specs.Names.{name_keys}
use Rattle.rate_limiter.proofs.Totalling.{item_at}
use Rattle.rate_limiter.proofs.Using.{among_names, uses_none, uses_then, uses_noted}
use Rattle.rate_limiter.proofs.acquire.note_each.Goals as goal

pub names-init : goal.names-init
names-init g c = record {
  rest = refl;
  uses = uses_none (name_keys c.args.counters.now.cells.moment c.args.names.now) c.args.counters.now.known c.args.counters.now.known refl;
  noted = λ i name lt at. absurd (omega arith);
}

pub note-requires : goal.note-requires
note-requires g c =
    let names = c.args.names.now in
    let spots = c.args.spots.now in
    let v = c.args.counters.now in
    let i = c.names.place in
    let name = c.index-names-place.result in
    let there : i < length spots = omega (arith, c.requires.count) in
    let q = key_at v.cells.moment name in
    let at : get_elem? (keys_at v.cells.moment names) i ≡ some q
    = map_at (key_at v.cells.moment) names i name (omega arith) ∙ ap (λ (n : CounterName). some (key_at v.cells.moment n)) (sym c.index-names-place.is) in
    let s : Spot = get_or spots i no_spot in
    let own : IsOwnSpot g.N.CellNaming.setup.cells v.claims.claims.known v.cells.pairs q s = record {
      there = c.requires.within i no_spot there;
      bound = c.requires.bound i q s at (item_at spots i no_spot there);
      had = c.requires.had i no_spot there;
    } in
    record {
      own = subst (λ (u : CountersView). IsOwnSpot g.N.CellNaming.setup.cells u.claims.claims.known u.cells.pairs (key_at u.cells.moment name) s) (sym c.names.invariant.rest) own;
    }

pub names-preserved : goal.names-preserved
names-preserved g c =
    let names = c.args.names.now in
    let v = c.args.counters.now in
    let w = c.names.counters in
    let x = c.note.new.self in
    let i = c.names.place in
    let name = c.index-names-place.result in
    let before = c.names.invariant in
    let here : get_elem? names i ≡ some name = item_at names i name (omega arith) ∙ ap (λ (n : CounterName). some n) (sym c.index-names-place.is) in
    let s = get_or c.args.spots.now i no_spot in
    let keys = name_keys v.cells.moment names in
    let now : x.known ≡ noted (key_of (key_at v.cells.moment name)) s 0 w.known
    = subst (λ (u : CountersView). x.known ≡ noted (key_of (key_at u.cells.moment name)) s 0 w.known) before.rest c.in_ok-note.ensures.noted in
    record {
      rest = c.note.ensures.rest ∙ (λ j. record (before.rest j) { known = x.known });
      uses = uses_then keys v.known w.known x.known before.uses
          (uses_noted keys (key_of (key_at v.cells.moment name)) s 0 w.known x.known (among_names v.cells.moment names i name here) now);
      noted = within_next names i v.cells.moment name s w.known x.known here (omega (arith, c.requires.few)) now before.noted _ (omega arith);
    }

pub returns-clause-noted : goal.returns-clause-noted
returns-clause-noted g c = noted_all_names c.args.names.now c.names.place c.args.counters.now.cells.moment c.names.counters.known (omega arith) c.names.invariant.noted

pub returns-in_err-note-clause-uses : goal.returns-in_err-note-clause-uses
returns-in_err-note-clause-uses g c =
    let keys = name_keys c.args.counters.now.cells.moment c.args.names.now in
    let w = c.names.counters in
    let x = c.note.new.self in
    uses_then keys c.args.counters.now.known w.known x.known c.names.invariant.uses (uses_none keys w.known x.known c.in_err-note.ensures.refused)
