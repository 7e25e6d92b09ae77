use Rattle.std.proofs.Common.{◌∙◌, ◌++◌, ◌∷◌, [], sym, ap}
use Rattle.std.specs.Prelude.{ltb}
use Rattle.counter_directory.specs.Keys.{key_at, keys_at, key_count}
use Rattle.counter_directory.proofs.Missing.{adds_missing_not, adds_missing_there, adds_missing_new, claimed_some, claimed_none}
use Rattle.counter_directory.proofs.KeyLists.{keys_more}
use Rattle.counter_directory.proofs.claim_table.ClaimTable.add_missing.Goals as goal

pub returns-then-is_some-clause-adds : goal.returns-then-is_some-clause-adds
returns-then-is_some-clause-adds g c =
    let b = c.args.self.now in
    let m = b.pool.last in
    let k = key_at m c.args.name.now in
    adds_missing_not b.pool.claims k (keys_at m c.args.missing.now.items)
    (claimed_some k b.pool.claims c.find.result (sym c.is_some.ensures ∙ c.if-is_some.true) c.find.ensures.bound)

pub returns-then-contains-clause-adds : goal.returns-then-contains-clause-adds
returns-then-contains-clause-adds g c =
    let b = c.args.self.now in
    let m = b.pool.last in
    let k = key_at m c.args.name.now in
    adds_missing_there b.pool.claims k (keys_at m c.args.missing.now.items)
    (ap (λ l. ltb 0 (key_count k (keys_at m l))) (sym c.as_slice.ensures.value) ∙ sym (c.contains.ensures m) ∙ c.if-contains.true)

pub returns-clause-adds : goal.returns-clause-adds
returns-clause-adds g c =
    let b = c.args.self.now in
    let m = b.pool.last in
    let k = key_at m c.args.name.now in
    let old = c.args.missing.now.items in
    adds_missing_new b.pool.claims k (keys_at m old) (keys_at m c.push_reserved.new.self.items)
    (claimed_none k b.pool.claims c.find.result (sym c.is_some.ensures ∙ c.if-is_some.false) c.find.ensures.none)
    (ap (λ l. ltb 0 (key_count k (keys_at m l))) (sym c.as_slice.ensures.value) ∙ sym (c.contains.ensures m) ∙ c.if-contains.false)
    (ap (keys_at m) c.push_reserved.ensures.items ∙ keys_more m old c.in_ok-own.own ∙ ap (λ n. keys_at m old ++ key_at m n ∷ []) c.in_ok-own.ensures)
