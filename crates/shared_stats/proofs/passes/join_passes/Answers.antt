use Rattle.std.proofs.Common.{◌≡◌, ◌∙◌, [], ◌∷◌, ◌++◌, ap, sym, subst, append_assoc}
use Rattle.shared_stats.specs.Joins.{JoinsPasses}
use Rattle.shared_stats.proofs.Steps.{enters, joins}
use Rattle.shared_stats.proofs.Joining.{joins_more, all_next}
use Rattle.shared_stats.proofs.passes.join_passes.Goals as goal

pub load_new_seat-all-requires : goal.load_new_seat-all-requires
load_new_seat-all-requires c = (c.requires.here, enters _ _ _)

pub join_seat-requires : goal.join_seat-requires
join_seat-requires c =
    let i = c.loop-pass.invariant in
    let p = c.in-Some.pass in
    let here = all_next (λ x. x.seat.table_id ≡ c.args.shared.now.table_id) c.loop-pass.yielded _ _ _ p c.requires.passes i.whole c.in-Some.ensures.steps.0 in
    (i.here, here, p.bare, c.requires.here, joins _ _ _ _ _)

pub loop-pass-preserved : goal.loop-pass-preserved
loop-pass-preserved c =
    let i = c.loop-pass.invariant in
    let p = c.in-Some.pass in
    let e = c.join_seat.ensures in
    record {
      here = e.0 ∙ i.here;
      bare = ap (λ m. m.1) e.2 ∙ i.bare;
      whole = append_assoc c.loop-pass.yielded (p ∷ []) c.next.new.self.rest.items ∙ ap (λ l. c.loop-pass.yielded ++ l) (sym c.in-Some.ensures.steps.0) ∙ i.whole;
      joins = subst (λ v. JoinsPasses (c.loop-pass.yielded ++ p ∷ []) v) (sym (ap (λ m. m.0) e.2)) (joins_more c.loop-pass.yielded c.loop-pass.all.me.0 p i.joins);
    }
