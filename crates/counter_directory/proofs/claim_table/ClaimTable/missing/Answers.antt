use Rattle.std.proofs.Common.{◌≡◌, ◌<◌, List, [], ◌∷◌, length, get_or, refl, sym, ap, ◌∙◌, subst, arith, rules, eq-eqb}
use mathlib.Core.Option.{some}
use lib.ListN.{get_elem?}
use Rattle.atomic_table.proofs.Lists.{at_map}
use Rattle.rate_types.specs.declared.counter_key.CounterKey.{CounterKey}
use Rattle.rate_types.specs.declared.counter_name.CounterName.{CounterName}
use Rattle.counter_directory.specs.Claims.{claims_of}
use Rattle.counter_directory.specs.Keys.{key_at, keys_at}
use Rattle.counter_directory.specs.Acquiring.{AddsMissing}
use Rattle.counter_directory.proofs.Finding.{first_stays}
use Rattle.counter_directory.proofs.Lists.{at_index, at_read, at_within}
use Rattle.counter_directory.proofs.Missing.{adds_missing_new, missing_more}
use Rattle.counter_directory.proofs.KeyLists.{key_or, len_keys}
use Rattle.counter_directory.proofs.claim_table.ClaimTable.missing.Goals as goal

pub loop-place-init : goal.loop-place-init
loop-place-init g c =
    let b = c.args.self.now in
    let m = b.pool.last in
    let names = c.args.names.now in
    let keys = keys_at m names in
    let i = c.args.first in
    let q = c.index-names-first.result in
    let missing = c.push_reserved.new.self.items in
    let within : i < length names = omega (arith, c.requires.first.0, len_keys m names) in
    let is : missing ≡ q ∷ [] = search rules in
    let at : get_elem? names i ≡ some q = at_index names i q within c.index-names-first.is in
    let none = c.requires.first.1 (key_at m q) (at_map (key_at m) names i q at) in
    let adds = adds_missing_new b.pool.claims (key_at m q) [] (keys_at m missing) (eq-eqb (claims_of (key_at m q) b.pool.claims) 0 none) refl (ap (keys_at m) is) in
    record {
      missing = missing_more b.pool.claims keys [] (keys_at m missing) i (key_at m q) (omega (arith, c.requires.first.0))
          (subst (λ (k : CounterKey). AddsMissing b.pool.claims k [] (keys_at m missing)) (ap (key_at m) c.index-names-first.is ∙ sym (key_or m names i q)) adds)
          c.requires.before;
      first = ap (λ (l : List CounterName). get_elem? l 0) is ∙ sym at;
      few = omega (arith, c.push_reserved.new.self.ok.0, ap (λ (l : List CounterName). length l) is);
      room = search rules;
    }

pub returns-clause-few : goal.returns-clause-few
returns-clause-few g c =
    let i = c.loop-place.invariant in
    let names = c.args.names.now in
    let q = c.index-names-first.result in
    let within : c.args.first < length names = omega (arith, c.requires.first.0, len_keys c.args.self.now.pool.last names) in
    let there = at_read names c.args.first q within in
    let some_one = at_within c.loop-place.missing.items 0 (get_or names c.args.first q) (i.first ∙ there) in
    (omega (arith, some_one, c.loop-place.missing.ok.0), omega (arith, i.few, within))

pub loop-place-preserved : goal.loop-place-preserved
loop-place-preserved g c =
    let i = c.loop-place.invariant in
    let e = c.add_missing.ensures in
    let f = c.in_ok-add_missing.ensures in
    let b = c.args.self.now in
    let m = b.pool.last in
    let names = c.args.names.now in
    let n = c.index-names-place.result in
    let there = at_read names c.args.first n (omega (arith, c.requires.first.0, len_keys m names)) in
    record {
      missing = missing_more b.pool.claims (keys_at m names) (keys_at m c.loop-place.missing.items) (keys_at m c.add_missing.new.missing.items) c.loop-place.place
          (key_at m n) (omega (arith, len_keys m names))
          (subst (λ (k : CounterKey). AddsMissing b.pool.claims k (keys_at m c.loop-place.missing.items) (keys_at m c.add_missing.new.missing.items))
          (ap (key_at m) c.index-names-place.is ∙ sym (key_or m names c.loop-place.place n)) f.adds) i.missing;
      first = first_stays c.loop-place.missing.items c.add_missing.new.missing.items (get_or names c.args.first n) e.behind (i.first ∙ there) ∙ sym there;
      few = omega (arith, e.room.0, i.few);
      room = e.room.1 ∙ i.room;
    }
