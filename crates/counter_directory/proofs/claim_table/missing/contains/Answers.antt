use Rattle.std.proofs.Common.{◌≡◌, ◌+◌, take, get_or, sym, ap, ◌∙◌, arith}
use Rattle.std.proofs.lemmas.Bool.{lt-ltb}
use Rattle.rate_types.specs.declared.counter_key.CounterKey.{CounterKey}
use Rattle.rate_types.specs.declared.counter_name.CounterName.{CounterName}
use Rattle.rate_types.specs.Counters.{same_counter, same_name}
use Rattle.rate_types.specs.Sums.{one_if}
use Rattle.counter_directory.specs.Keys.{key_at, keys_at, key_count}
use Rattle.counter_directory.proofs.Missing.{key_count_more, key_count_at}
use Rattle.counter_directory.proofs.Indexing.{same_at}
use Rattle.counter_directory.proofs.KeyLists.{key_or, len_keys}
use Rattle.counter_directory.proofs.claim_table.missing.contains.Goals as goal

pub returns-then-eq : goal.returns-then-eq
returns-then-eq c = λ m.
    let k = key_at m c.args.name.now in
    let keys = keys_at m c.args.names.now in
    let at = key_or m c.args.names.now c.loop-other.other-index c.other-item.result ∙ ap (key_at m) (sym c.other-item.is) in
    let e = ap (λ (j : CounterKey). same_counter j k) at ∙ same_at m c.other-item.result c.args.name.now ∙ ap (λ (n : CounterName). same_name n c.args.name.now) (sym c.of.ensures) in
    let n = key_count_at k keys c.loop-other.other-index (key_at m c.other-item.result) (omega (arith, len_keys m c.args.names.now)) (e ∙ sym c.eq.ensures ∙ c.if-eq.true) in
    sym (lt-ltb 0 (key_count k keys) n)

pub loop-other-preserved : goal.loop-other-preserved
loop-other-preserved c = λ m.
    let k = key_at m c.args.name.now in
    let keys = keys_at m c.args.names.now in
    let at = key_or m c.args.names.now c.loop-other.other-index c.other-item.result ∙ ap (key_at m) (sym c.other-item.is) in
    let e = ap (λ (j : CounterKey). same_counter j k) at ∙ same_at m c.other-item.result c.args.name.now ∙ ap (λ (n : CounterName). same_name n c.args.name.now) (sym c.of.ensures) in
    let n = key_count_more k keys c.loop-other.other-index (key_at m c.other-item.result) (omega (arith, len_keys m c.args.names.now)) in
    let o : one_if (same_counter (get_or keys c.loop-other.other-index (key_at m c.other-item.result)) k) ≡ 0 = ap one_if (e ∙ sym c.eq.ensures ∙ c.if-eq.false) in
    let i : key_count k (take c.loop-other.other-index keys) ≡ 0 = c.loop-other.invariant m in
    let r : key_count k (take (c.loop-other.other-index + 1) keys) ≡ 0 = omega arith in
    r
