use Rattle.std.proofs.Common.{◌≡◌, ◌∙◌, [], ◌∷◌, ◌++◌, ap, sym, subst, arith, append_assoc}
use Rattle.told_list.specs.Joins.{JoinsTokens}
use Rattle.told_list.proofs.Steps.{enters, joins}
use Rattle.told_list.proofs.Joining.{joins_more, all_next}
use Rattle.told_list.proofs.tokens.join_tokens.Goals as goal

pub load_new_seat-all-requires : goal.load_new_seat-all-requires
load_new_seat-all-requires g c = (omega (arith, c.requires.here.0), enters _ _ _ _ _)

pub join_seat-requires : goal.join_seat-requires
join_seat-requires g c =
    let i = c.loop-pass.invariant in
    let p = c.in-Some.pass in
    let s = c.into_seen-seat.result in
    let here = all_next (λ x. g.P.IntoSeen.list x ≡ c.args.shared.now.table_id) c.loop-pass.yielded _ _ _ p c.requires.passes i.whole c.in-Some.ensures.steps.0 in
    (i.here, c.into_seen-seat.ensures.list ∙ here, s.bare, omega (arith, c.requires.here.0), joins _ _ _ _ _ _ _ _ s.rests.0 s.rests.1)

pub loop-pass-preserved : goal.loop-pass-preserved
loop-pass-preserved g c =
    let i = c.loop-pass.invariant in
    let p = c.in-Some.pass in
    let s = c.into_seen-seat.result in
    let e = c.join_seat.ensures in
    let known = g.P.IntoSeen.known in
    let own = g.P.IntoSeen.own in
    let more = joins_more known own c.loop-pass.yielded c.loop-pass.all.me.0 s.seat.me.0 p i.joins_tokens s.one c.into_seen-seat.ensures.known c.into_seen-seat.ensures.own in
    record {
      here = e.0 ∙ i.here;
      bare = ap (λ m. m.1) e.2 ∙ i.bare;
      whole = append_assoc c.loop-pass.yielded (p ∷ []) c.next.new.self.rest.items ∙ ap (λ l. c.loop-pass.yielded ++ l) (sym c.in-Some.ensures.steps.0) ∙ i.whole;
      joins_tokens = subst (λ v. JoinsTokens known own (c.loop-pass.yielded ++ p ∷ []) v) (sym (ap (λ m. m.0) e.2)) more;
    }
