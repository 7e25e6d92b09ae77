use Rattle.std.proofs.Common.{◌≡◌, ◌∙◌, [], ◌∷◌, ◌++◌, ap, sym, subst, arith, append_assoc}
use Rattle.std.proofs.lemmas.List.{append-nil, nil_from_length}
use Rattle.crossbeam_channel.specs.Claims.{view}
use Rattle.link_handover.specs.Passes.{TakesFrom}
use Rattle.link_handover.proofs.Steps.{merges, learns}
use Rattle.link_handover.proofs.Closing.{Stands, alone, one_more, closes, each_once, all_next, all_parts}
use Rattle.link_handover.proofs.handover.Handover.close.Goals as goal

pub loop-take-init : goal.loop-take-init
loop-take-init g c = record {
  here = c.requires.put;
  whole = c.into_iter-take-iterator.ensures.into_iter_gives.0;
  stands = alone (view c.args.put.pass) c.args.put.idle;
}

pub absorb-requires-clause-channel : goal.absorb-requires-clause-channel
absorb-requires-clause-channel g c =
    let i = c.loop-take.invariant in
    (i.here, all_next (TakesFrom c.args.self) c.loop-take.yielded _ _ _ c.in-Some.take c.requires.takes i.whole c.in-Some.ensures.steps.0)

pub absorb-requires-clause-rule : goal.absorb-requires-clause-rule
absorb-requires-clause-rule g c =
    let i = c.loop-take.invariant in
    let t = c.in-Some.take in
    merges _ _ _ _ (i.stands.puts ∙ c.args.put.puts) t.takes.0 (let one = t.takes.1 in omega arith)

pub loop-take-preserved : goal.loop-take-preserved
loop-take-preserved g c =
    let i = c.loop-take.invariant in
    let t = c.in-Some.take in
    record {
      here = c.absorb.ensures.channel.0;
      whole = append_assoc c.loop-take.yielded (t ∷ []) c.next.new.self.rest.items ∙ ap (λ l. c.loop-take.yielded ++ l) (sym c.in-Some.ensures.steps.0) ∙ i.whole;
      stands = subst (λ v. Stands (view c.args.put.pass) (c.loop-take.yielded ++ t ∷ []) v) (sym c.absorb.ensures.rule)
          (one_more (view c.args.put.pass) c.loop-take.yielded (view c.loop-take.pass) t i.stands);
    }

pub learn_as-requires-clause-channel : goal.learn_as-requires-clause-channel
learn_as-requires-clause-channel g c = c.loop-take.invariant.here

pub learn_as-requires-clause-rule : goal.learn_as-requires-clause-rule
learn_as-requires-clause-rule g c =
    let i = c.loop-take.invariant in
    let rest : c.loop-take.take-iterator.rest.items ≡ [] = nil_from_length c.loop-take.take-iterator.rest.items (sym c.loop-take.take-iterator.rest.ok.0
    ∙ c.in-None.ensures.steps.0) in
    let whole : c.loop-take.yielded ≡ c.args.takes.items = sym (append-nil c.loop-take.yielded) ∙ ap (λ l. c.loop-take.yielded ++ l) (sym rest) ∙ i.whole in
    learns _ _ (i.stands.puts ∙ c.args.put.puts)
    (all_parts (view c.args.put.pass) c.loop-take.yielded c.args.takes.items (view c.loop-take.pass) i.stands whole
    (let every = c.requires.every in let len = c.args.takes.ok.0 in omega arith) c.args.put.few.0 c.requires.ended.0 c.requires.ended.1)

pub returns : goal.returns
returns g c =
    let i = c.loop-take.invariant in
    let rest : c.loop-take.take-iterator.rest.items ≡ [] = nil_from_length c.loop-take.take-iterator.rest.items (sym c.loop-take.take-iterator.rest.ok.0
    ∙ c.in-None.ensures.steps.0) in
    let whole : c.loop-take.yielded ≡ c.args.takes.items = sym (append-nil c.loop-take.yielded) ∙ ap (λ l. c.loop-take.yielded ++ l) (sym rest) ∙ i.whole in
    let all = closes (view c.args.put.pass) c.args.takes.items (view c.loop-take.pass) c.learn_as.ensures.rule.0
    (subst (λ l. Stands (view c.args.put.pass) l (view c.loop-take.pass)) whole i.stands) c.learn_as.ensures.rule.1 c.requires.ended.0 c.requires.ended.1 in
    record { all = all; once = each_once (view c.args.put.pass).links (view c.args.put.pass).marks c.args.takes.items all }
