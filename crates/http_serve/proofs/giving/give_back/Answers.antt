use Rattle.std.proofs.Common.{◌≡◌, ◌++◌, ◌∷◌, [], length, sym, ap, ◌∙◌, arith, rules, append_assoc}
use Rattle.std.proofs.lemmas.List.{append-nil, nil_from_length}
use Rattle.http_serve.specs.Service.{Service}
use Rattle.http_serve.specs.Links.{given_back, ends_of}
use Rattle.http_serve.proofs.Events.{next_out, back_more, ends_more}
use Rattle.http_serve.proofs.giving.give_back.Goals as goal

pub give_back-requires : goal.give_back-requires
give_back-requires g c =
    let i = c.loop-one.invariant in
    let s = c.in-Some.one in
    let all : c.args.served.items ≡ c.loop-one.yielded ++ s ∷ c.next.new.self.rest.items = sym i.whole ∙ ap (λ l. c.loop-one.yielded ++ l) c.in-Some.ensures.steps.0 in
    let few = c.requires.accepted in
    let len = c.args.served.ok.0 in
    next_out (g.L.Listen.history c.args.listen.now) (g.L.Listen.history c.loop-one.listen) c.loop-one.yielded c.next.new.self.rest.items c.args.served.items s c.one.inside.number i.events
    (ap (λ (x : Service). x.number) c.one.view_is) c.requires.none_back (omega arith) c.requires.numbered all

pub loop-one-preserved : goal.loop-one-preserved
loop-one-preserved g c =
    let i = c.loop-one.invariant in
    let s = c.in-Some.one in
    let state = g.L.Link.Link.state c.one.inside.link in
    record {
      whole = append_assoc c.loop-one.yielded (s ∷ []) c.next.new.self.rest.items ∙ ap (λ l. c.loop-one.yielded ++ l) (sym c.in-Some.ensures.steps.0) ∙ i.whole;
      room = let room = i.room in let rest = ap length c.in-Some.ensures.steps.0 in search rules;
      ends = ends_more c.loop-one.ends.items c.push_reserved.new.self.items c.loop-one.yielded s c.one.inside.link_end i.ends c.push_reserved.ensures.items
          (ap (λ (x : Service). x.link_end) c.one.view_is);
      events = back_more (g.L.Listen.history c.args.listen.now) (g.L.Listen.history c.loop-one.listen) (g.L.Listen.history c.give_back.new.self) c.loop-one.yielded s c.one.inside.number state.history
          c.one.inside.link_end state.is_shut i.events c.give_back.ensures.event c.one.invariant c.one.view_is;
      faults = c.give_back.ensures.faults ∙ i.faults;
    }

pub returns-clause-events : goal.returns-clause-events
returns-clause-events g c =
    let i = c.loop-one.invariant in
    let rest : c.loop-one.one-iterator.rest.items ≡ [] = nil_from_length c.loop-one.one-iterator.rest.items (sym c.loop-one.one-iterator.rest.ok.0 ∙ c.in-None.ensures.steps.0) in
    let whole : c.loop-one.yielded ≡ c.args.served.items = sym (append-nil c.loop-one.yielded) ∙ ap (λ l. c.loop-one.yielded ++ l) (sym rest) ∙ i.whole in
    i.events ∙ ap (λ l. g.L.Listen.history c.args.listen.now ++ given_back l) whole

pub returns-clause-ends : goal.returns-clause-ends
returns-clause-ends g c =
    let i = c.loop-one.invariant in
    let rest : c.loop-one.one-iterator.rest.items ≡ [] = nil_from_length c.loop-one.one-iterator.rest.items (sym c.loop-one.one-iterator.rest.ok.0 ∙ c.in-None.ensures.steps.0) in
    let whole : c.loop-one.yielded ≡ c.args.served.items = sym (append-nil c.loop-one.yielded) ∙ ap (λ l. c.loop-one.yielded ++ l) (sym rest) ∙ i.whole in
    i.ends ∙ ap ends_of whole
