use Rattle.std.proofs.Common.{◌≡◌, ◌∙◌, ◌<◌, [], List, length, take, get_or, refl, sym, subst, ap, arith}
use Rattle.std.proofs.lemmas.List.{take_all, length-map}
use mathlib.Core.Option.{some, some-injective}
use lib.ListN.{get_elem?}
use Rattle.rate_types.specs.declared.request.Descriptor.{Descriptor}
use Rattle.rule_lookup.specs.declared.found.Found.{Found}
use Rattle.counter_directory.specs.Passes.{DirectoryPassView}
use Rattle.over_cache.specs.Entries.{Entries}
use Rattle.rls_core.specs.declared.status.Status.{Status}
use Rattle.rate_limiter.specs.Asked.{known_for, ReadyAt, founds}
use Rattle.rate_limiter.specs.Counted.{IsCounted, AreCounted}
use Rattle.rate_limiter.specs.Counters.{CountersView}
use Rattle.rate_limiter.specs.Names.{name_under, names_under, name_keys}
use Rattle.rate_limiter.specs.Used.{HasUsed}
use Rattle.rate_limiter.specs.declared.asked.Asked.{Asked}
use Rattle.rate_limiter.proofs.AskedCounters.{no_ask, known_later, neither}
use Rattle.rate_limiter.proofs.CountedCounters.{ready_still, risen_self, risen_then, risen_same}
use Rattle.rate_limiter.proofs.Counting.{same_counts_then, same_of, counted_next}
use Rattle.rate_limiter.proofs.Lists.{map_some}
use Rattle.rate_limiter.proofs.Totalling.{item_at}
use Rattle.rate_limiter.proofs.Using.{among_under, uses_none, uses_then, uses_more}
use Rattle.rate_limiter.proofs.answer.count_each.Goals as goal

pub asked-init : goal.asked-init
asked-init g c = record {
  count = ap length c.empty.ensures;
  claims = refl;
  counted = subst (λ (l : List Status). AreCounted c.args.counters.now.claims.claims.known c.args.request.now c.args.counters.now.cells.moment [] [] l
      c.args.counters.now.cells c.args.counters.now.cells) (sym c.empty.ensures) refl;
  same = same_of c.args.counters.now.cells c.args.counters.now.cells refl;
  risen = risen_self c.args.counters.now.known;
  uses = uses_none (name_keys c.args.counters.now.cells.moment (names_under c.args.request.now c.args.request.now.descriptors (founds c.args.asked.now)))
      c.args.counters.now.known c.args.counters.now.known refl;
  fresh = λ _. refl;
}

pub asked_now-now-requires : goal.asked_now-now-requires
asked_now-now-requires g c =
    let cells = g.N.CellNaming.setup.cells in
    let r = c.args.request.now in
    let ds = c.descriptors-descriptors.result.now in
    let xs = c.args.asked.now in
    let v = c.args.counters.now in
    let w = c.asked.counters in
    let i = c.asked.place in
    let before = c.asked.invariant in
    let d = c.index-descriptors-place.result in
    let a : Asked = get_or xs i no_ask in
    let at : get_elem? xs i ≡ some a = item_at xs i no_ask (omega arith) in
    let all = c.descriptors-descriptors.ensures.all in
    let many = ap length all in
    let d_at : get_elem? ds i ≡ some d = item_at ds i d (omega (arith, many, c.requires.count)) ∙ sym (ap (λ (e : Descriptor). some e) c.index-descriptors-place.is) in
    let in_ds = subst (λ (l : List Descriptor). get_elem? l i ≡ some d) all d_at in
    let base = c.requires.known i d a in_ds at in
    record {
      known = λ fresh.
          subst (λ m. a.known ≡ known_for r m w.known d a.found) (sym before.same.moment)
          (subst (λ (l : Entries). a.known ≡ known_for r v.cells.moment l d a.found) (sym (before.fresh fresh)) base);
    }

pub count-answered-requires-clause-ready : goal.count-answered-requires-clause-ready
count-answered-requires-clause-ready g c =
    let cells = g.N.CellNaming.setup.cells in
    let r = c.args.request.now in
    let ds = c.descriptors-descriptors.result.now in
    let xs = c.args.asked.now in
    let v = c.args.counters.now in
    let w = c.asked.counters in
    let i = c.asked.place in
    let before = c.asked.invariant in
    let d = c.index-descriptors-place.result in
    let a : Asked = get_or xs i no_ask in
    let at : get_elem? xs i ≡ some a = item_at xs i no_ask (omega arith) in
    let all = c.descriptors-descriptors.ensures.all in
    let many = ap length all in
    let d_at : get_elem? ds i ≡ some d = item_at ds i d (omega (arith, many, c.requires.count)) ∙ sym (ap (λ (e : Descriptor). some e) c.index-descriptors-place.is) in
    let in_ds = subst (λ (l : List Descriptor). get_elem? l i ≡ some d) all d_at in
    let base = c.requires.known i d a in_ds at in
    let now = c.asked_now-now.result in
    let called = c.asked_now-now.ensures in
    let x = c.asked_now-now.new.counters in
    let first = c.requires.ready i d a in_ds at in
    let still = ready_still cells v.claims.claims.known v.cells w.cells before.same.good r d v.known w.known before.risen before.same.moment a.found a.hits a.known now.known base
    called.known first.spot in
    record {
      hits = called.hits ∙ first.hits;
      spot = subst (λ (u : CountersView). ReadyAt cells u.claims.claims.known r u.cells d now.found now.hits now.known) (sym called.rest)
          (subst (λ (t : DirectoryPassView). ReadyAt cells t.claims.known r w.cells d now.found now.hits now.known) (sym before.claims)
          (subst (λ (f : Found). ReadyAt cells v.claims.claims.known r w.cells d f now.hits now.known) (sym called.found)
          (subst (λ n. ReadyAt cells v.claims.claims.known r w.cells d a.found n now.known) (sym called.hits) still)));
    }

pub count-answered-requires-clause-known : goal.count-answered-requires-clause-known
count-answered-requires-clause-known g c =
    let cells = g.N.CellNaming.setup.cells in
    let r = c.args.request.now in
    let ds = c.descriptors-descriptors.result.now in
    let xs = c.args.asked.now in
    let v = c.args.counters.now in
    let w = c.asked.counters in
    let i = c.asked.place in
    let before = c.asked.invariant in
    let d = c.index-descriptors-place.result in
    let a : Asked = get_or xs i no_ask in
    let at : get_elem? xs i ≡ some a = item_at xs i no_ask (omega arith) in
    let all = c.descriptors-descriptors.ensures.all in
    let many = ap length all in
    let d_at : get_elem? ds i ≡ some d = item_at ds i d (omega (arith, many, c.requires.count)) ∙ sym (ap (λ (e : Descriptor). some e) c.index-descriptors-place.is) in
    let in_ds = subst (λ (l : List Descriptor). get_elem? l i ≡ some d) all d_at in
    let base = c.requires.known i d a in_ds at in
    let now = c.asked_now-now.result in
    let called = c.asked_now-now.ensures in
    let x = c.asked_now-now.new.counters in
    let by_now = known_later cells w.claims.claims.known w.cells.pairs r w.cells.moment w.known d x.known a.found now.known called.same called.known in
    subst (λ (u : CountersView). now.known ≡ known_for r u.cells.moment x.known d now.found) (sym called.rest)
    (subst (λ (f : Found). now.known ≡ known_for r w.cells.moment x.known d f) (sym called.found) by_now)

pub asked-preserved : goal.asked-preserved
asked-preserved g c =
    let cells = g.N.CellNaming.setup.cells in
    let r = c.args.request.now in
    let ds = c.descriptors-descriptors.result.now in
    let xs = c.args.asked.now in
    let v = c.args.counters.now in
    let w = c.asked.counters in
    let i = c.asked.place in
    let before = c.asked.invariant in
    let d = c.index-descriptors-place.result in
    let a : Asked = get_or xs i no_ask in
    let at : get_elem? xs i ≡ some a = item_at xs i no_ask (omega arith) in
    let all = c.descriptors-descriptors.ensures.all in
    let many = ap length all in
    let d_at : get_elem? ds i ≡ some d = item_at ds i d (omega (arith, many, c.requires.count)) ∙ sym (ap (λ (e : Descriptor). some e) c.index-descriptors-place.is) in
    let in_ds = subst (λ (l : List Descriptor). get_elem? l i ≡ some d) all d_at in
    let base = c.requires.known i d a in_ds at in
    let now = c.asked_now-now.result in
    let called = c.asked_now-now.ensures in
    let x = c.asked_now-now.new.counters in
    let y = c.count-answered.new.self in
    let did = c.count-answered.ensures in
    let s = c.count-answered.result.status in
    let fs = founds xs in
    let lt : i < length fs = omega (arith, length-map xs (λ (b : Asked). b.found)) in
    let f_is : get_or fs i a.found ≡ a.found
    = some-injective (get_or fs i a.found) a.found (sym (item_at fs i a.found lt) ∙ map_some (λ (b : Asked). b.found) xs i a at) in
    let one : IsCounted v.claims.claims.known r v.cells.moment d a.found s w.cells y.cells
    = subst (λ m. IsCounted v.claims.claims.known r m d a.found s w.cells y.cells) before.same.moment
    (subst (λ (t : DirectoryPassView). IsCounted t.claims.known r w.cells.moment d a.found s w.cells y.cells) before.claims
    (subst (λ (f : Found). IsCounted w.claims.claims.known r w.cells.moment d f s w.cells y.cells) called.found
    (subst (λ (u : CountersView). IsCounted u.claims.claims.known r u.cells.moment d now.found s u.cells y.cells) called.rest did.counted))) in
    record {
      count = omega (arith, c.push.ensures.len, before.count);
      claims = did.claims ∙ ap (λ (u : CountersView). u.claims) called.rest ∙ before.claims;
      counted = counted_next v.claims.claims.known r v.cells.moment ds fs i d a.found c.asked.statuses.items c.push.new.self.items s v.cells w.cells y.cells
          (omega (arith, many, c.requires.count)) lt (sym c.index-descriptors-place.is) f_is c.push.ensures.items before.counted one;
      same = same_counts_then v.cells w.cells y.cells before.same one.same;
      risen = risen_then v.known x.known y.known (risen_then v.known w.known x.known before.risen (risen_same w.known x.known called.same)) did.risen;
      uses =
          let m = v.cells.moment in
          let keys = name_keys m (names_under r r.descriptors fs) in
          let more = among_under r m r.descriptors fs i d a.found in_ds (map_some (λ (b : Asked). b.found) xs i a at) in
          let mine = name_keys m (name_under r d a.found) in
          uses_then keys v.known w.known y.known before.uses (uses_then keys w.known x.known y.known
          (uses_more mine keys w.known x.known more (subst (λ n. HasUsed [] (name_keys n (name_under r d a.found)) w.known x.known) before.same.moment called.uses))
          (uses_more mine keys x.known y.known more (subst (λ n. HasUsed [] (name_keys n (name_under r d a.found)) x.known y.known) before.same.moment
          (subst (λ (u : CountersView). HasUsed [] (name_keys u.cells.moment (name_under r d a.found)) x.known y.known) called.rest
          (subst (λ (f : Found). HasUsed [] (name_keys x.cells.moment (name_under r d f)) x.known y.known) called.found did.uses)))));
      fresh = λ none. let no = neither c.asked.is_noted c.count-answered.result.is_noted none in did.same no.1 ∙ called.kept no.0 ∙ before.fresh no.0;
    }

pub returns-clause-counted : goal.returns-clause-counted
returns-clause-counted g c =
    let r = c.args.request.now in
    let ds = c.descriptors-descriptors.result.now in
    let xs = c.args.asked.now in
    let v = c.args.counters.now in
    let w = c.asked.counters in
    let i = c.asked.place in
    let sts = c.asked.statuses.items in
    let all = c.descriptors-descriptors.ensures.all in
    let many = ap length all in
    let whole_ds : take i ds ≡ r.descriptors = take_all i ds (omega (arith, many, c.requires.count)) ∙ all in
    let whole_fs : take i (founds xs) ≡ founds xs = take_all i (founds xs) (omega (arith, length-map xs (λ (b : Asked). b.found))) in
    subst (λ (l : List Descriptor). AreCounted v.claims.claims.known r v.cells.moment l (founds xs) sts v.cells w.cells) whole_ds
    (subst (λ (l : List Found). AreCounted v.claims.claims.known r v.cells.moment (take i ds) l sts v.cells w.cells) whole_fs c.asked.invariant.counted)
