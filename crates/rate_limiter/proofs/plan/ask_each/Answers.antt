use Rattle.std.proofs.Common.{◌≡◌, ◌∙◌, ◌++◌, ◌∷◌, [], List, length, get_or, refl, sym, ap, subst, arith}
use Rattle.std.proofs.lemmas.List.{take_more, take_all, map-append}
use Rattle.std.specs.Prelude.{unwrap_or}
use mathlib.Core.Option.{some, some-ne-none}
use lib.ListN.{get_elem?}
use Rattle.rate_types.specs.declared.request.Descriptor.{Descriptor}
use Rattle.rule_lookup.specs.declared.found.Found.{Found}
use Rattle.rule_lookup.specs.declared.found.Found.TheVariants.{NoRule}
use Rattle.rate_limiter.specs.Asked.{known_for, IsOwn, IsAsked, founds}
use Rattle.rate_limiter.specs.Counters.{CountersView}
use Rattle.rate_limiter.specs.declared.asked.Asked.{Asked}
use Rattle.rate_limiter.specs.Names.{name_under, names_under, name_keys}
use Rattle.rate_limiter.specs.Used.{asked_each}
use Rattle.rate_limiter.proofs.Using.{asked_next}
use Rattle.rate_limiter.proofs.AskedCounters.{known_later, asked_later}
use Rattle.rate_limiter.specs.Known.{PinsGrow}
use Rattle.rate_limiter.proofs.Knowing.{grow_self}
use Rattle.rate_limiter.proofs.Seeking.{each_next, same_known_then}
use Rattle.rate_limiter.proofs.Totalling.{item_at}
use Rattle.rate_limiter.proofs.plan.ask_each.Goals as goal

pub descriptors-init : goal.descriptors-init
descriptors-init g c = record {
  rest = refl;
  same = λ key. refl;
  order = refl;
  count = ap length c.empty.ensures;
  founds = ap founds c.empty.ensures;
  each = λ i d a in_ds at. absurd (some-ne-none a (sym (subst (λ (l : List Asked). get_elem? l i ≡ some a) c.empty.ensures at)));
}

pub descriptors-preserved : goal.descriptors-preserved
descriptors-preserved g c =
    let cells = g.N.CellNaming.setup.cells in
    let r = c.args.request.now in
    let ds = c.descriptors-descriptors.result.now in
    let fs = c.args.rules.now in
    let v = c.args.counters.now in
    let w = c.descriptors.counters in
    let i = c.descriptors.place in
    let before = c.descriptors.invariant in
    let d = c.index-descriptors-place.result in
    let f : Found = get_or fs i NoRule in
    let called = c.known_for-known.ensures in
    let x = c.known_for-known.new.counters in
    let items = c.descriptors.asked.items in
    let a : Asked = record { found = f; hits = c.unwrap_or-hits.result; known = c.known_for-known.result } in
    let d_at : get_elem? ds i ≡ some d = item_at ds i d (omega arith) ∙ sym (ap (λ (e : Descriptor). some e) c.index-descriptors-place.is) in
    let one : IsAsked cells r v d a = record {
      hits = c.unwrap_or-hits.ensures ∙ ap (unwrap_or d.hits) c.hits.ensures.same;
      known = subst (λ (u : CountersView). a.known ≡ known_for r u.cells.moment v.known d f) before.rest
          (known_later cells w.claims.claims.known w.cells.pairs r w.cells.moment w.known d v.known f a.known (λ key. sym (before.same key)) called.known);
      own = subst (λ (u : CountersView). IsOwn cells u.claims.claims.known u.cells.pairs r u.cells.moment d f a.known) before.rest called.own;
    } in
    record {
      rest = called.rest ∙ (λ j. record (before.rest j) { known = x.known });
      same = same_known_then v.known w.known x.known before.same called.same;
      order = asked_next r v.cells.moment ds fs d NoRule i (omega arith) (omega (arith, ap length c.descriptors-descriptors.ensures.all, c.requires.rules)) v.known w.known x.known before.order
          (subst (λ (u : CountersView). x.known ≡ asked_each (name_keys u.cells.moment (name_under r (get_or ds i d) f)) w.known) before.rest
          (subst (λ (e : Descriptor). x.known ≡ asked_each (name_keys w.cells.moment (name_under r e f)) w.known) c.index-descriptors-place.is called.order));
      count = omega (arith, c.push.ensures.len, before.count);
      founds =
          ap founds c.push.ensures.items ∙ map-append (λ (b : Asked). b.found) items (a ∷ []) ∙ ap (λ (l : List Found). l ++ f ∷ []) before.founds
          ∙ sym (take_more fs i NoRule (omega (arith, ap length c.descriptors-descriptors.ensures.all, c.requires.rules)));
      each = λ j e b in_ds at.
          each_next (IsAsked cells r v) ds items d a before.each (ap (get_elem? ds) before.count ∙ d_at) one j e b in_ds
          (subst (λ (l : List Asked). get_elem? l j ≡ some b) c.push.ensures.items at);
    }

pub returns-clause-founds : goal.returns-clause-founds
returns-clause-founds g c =
    let all = ap length c.descriptors-descriptors.ensures.all in
    c.descriptors.invariant.founds ∙ take_all c.descriptors.place c.args.rules.now (omega (arith, all, c.requires.rules))

pub returns-clause-asked : goal.returns-clause-asked
returns-clause-asked g c =
    let cells = g.N.CellNaming.setup.cells in
    let v = c.args.counters.now in
    let w = c.descriptors.counters in
    let before = c.descriptors.invariant in
    let all = c.descriptors-descriptors.ensures.all in
    asked_later cells c.args.request.now v c.descriptors.asked.items
    (record {
      count = before.count ∙ omega (arith, ap length all);
      each = λ i d a in_ds at. before.each i d a (subst (λ (l : List Descriptor). get_elem? l i ≡ some d) (sym all) in_ds) at;
    })
    w (ap (λ (u : CountersView). u.claims) before.rest) before.same (ap (λ (u : CountersView). u.cells.moment) before.rest)
    (subst (λ (u : CountersView). PinsGrow v.cells.pairs u.cells.pairs) (sym before.rest) (grow_self v.cells.pairs))

pub returns-clause-order : goal.returns-clause-order
returns-clause-order g c =
    let ds = c.descriptors-descriptors.result.now in
    let fs = c.args.rules.now in
    let r = c.args.request.now in
    let i = c.descriptors.place in
    let v = c.args.counters.now in
    let all = c.descriptors-descriptors.ensures.all in
    let many = ap length all in
    c.descriptors.invariant.order
    ∙ (λ j. asked_each (name_keys v.cells.moment (names_under r (take_all i ds (omega (arith, many, c.requires.rules)) j) (take_all i fs (omega (arith, many, c.requires.rules)) j))) v.known)
    ∙ ap (λ (l : List Descriptor). asked_each (name_keys v.cells.moment (names_under r l fs)) v.known) all
