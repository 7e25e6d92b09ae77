use Rattle.std.proofs.Common.{◌≡◌, ◌∙◌, [], ◌∷◌, ◌++◌, ap, sym, subst, arith, append_assoc}
use Rattle.line_numbers.specs.Joins.{JoinsDrawers}
use Rattle.line_numbers.proofs.Steps.{enters, joins}
use Rattle.line_numbers.proofs.Joining.{joins_more, all_next}
use Rattle.line_numbers.proofs.drawers.join_drawers.Goals as goal

pub load_new_seat-all-requires : goal.load_new_seat-all-requires
load_new_seat-all-requires c = (c.requires.here, enters _ _)

pub join_seat-requires : goal.join_seat-requires
join_seat-requires c =
    let i = c.loop-drawer.invariant in
    let d = c.in-Some.drawer in
    let here = all_next (λ x. x.seat.table_id ≡ c.args.shared.now.table_id) c.loop-drawer.yielded _ _ _ d c.requires.drawers i.whole c.in-Some.ensures.steps.0 in
    let one = d.one in
    (i.here, here, d.bare, c.requires.here, joins _ _ _ _ _ (omega arith))

pub loop-drawer-preserved : goal.loop-drawer-preserved
loop-drawer-preserved c =
    let i = c.loop-drawer.invariant in
    let d = c.in-Some.drawer in
    let e = c.join_seat.ensures in
    record {
      here = e.0 ∙ i.here;
      bare = ap (λ m. m.1) e.2 ∙ i.bare;
      whole = append_assoc c.loop-drawer.yielded (d ∷ []) c.next.new.self.rest.items ∙ ap (λ l. c.loop-drawer.yielded ++ l) (sym c.in-Some.ensures.steps.0) ∙ i.whole;
      joins = subst (λ v. JoinsDrawers (c.loop-drawer.yielded ++ d ∷ []) v) (sym (ap (λ m. m.0) e.2)) (joins_more c.loop-drawer.yielded c.loop-drawer.all.me.0 d i.joins);
    }
