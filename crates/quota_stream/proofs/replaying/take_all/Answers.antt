use Rattle.std.proofs.Common.{◌≡◌, ◌-◌, take, drop, length, ap, arith, length-drop}
use Rattle.std.proofs.lemmas.List.{take_all}
use Rattle.quota_stream.proofs.Parting.{err_as, grew_none, takes_none}
use Rattle.quota_stream.proofs.Rounds.{parts_on, parts_stop}
use Rattle.quota_stream.proofs.replaying.take_all.Goals as goal

pub parts-init : goal.parts-init
parts-init g c = record {
  within = omega arith;
  took = grew_none _ _ (takes_none c.args.replay.now);
  later = omega arith;
}

pub parts-preserved : goal.parts-preserved
parts-preserved g c =
    let inv = c.parts.invariant in
    let rest : take (length c.args.bytes.now - c.parts.at) (drop c.parts.at c.args.bytes.now) ≡ drop c.parts.at c.args.bytes.now =
    take_all _ _ (omega (arith, length-drop c.parts.at c.args.bytes.now)) in
    record {
      within = omega (arith, inv.within, c.in_ok-count.ensures.most, length-drop c.parts.at c.args.bytes.now, ap length rest);
      took = parts_on _ _ _ c.args.bytes.now _ c.parts.at c.in_ok-count.count _ _ _ rest inv.took c.in_ok-count.ensures.took;
      later = omega (arith, inv.later, c.in_ok-count.ensures.later);
    }

pub returns-in_err-count-clause-fault : goal.returns-in_err-count-clause-fault
returns-in_err-count-clause-fault g c =
    let inv = c.parts.invariant in
    let rest : take (length c.args.bytes.now - c.parts.at) (drop c.parts.at c.args.bytes.now) ≡ drop c.parts.at c.args.bytes.now =
    take_all _ _ (omega (arith, length-drop c.parts.at c.args.bytes.now)) in
    err_as c.from_residual.result c.in_err-count.field-0.0 _ c.from_residual.ensures
    (parts_stop _ _ c.args.bytes.now _ c.parts.at c.in_err-count.field-0.0 _ _ _ rest inv.took c.in_err-count.ensures.fault)

pub returns-clause-took : goal.returns-clause-took
returns-clause-took g c =
    let all : take c.parts.at c.args.bytes.now ≡ c.args.bytes.now = take_all c.parts.at c.args.bytes.now (omega arith) in
    rw all at c.parts.invariant.took
