use Rattle.std.proofs.Common.{ℕ, List, [], true≢false, refl, sym, ap, ◌∙◌, subst, arith}
use Rattle.std.specs.Prelude.{vec_len}
use Rattle.counter_directory.specs.Gates.{HeldSince}
use Rattle.counter_directory.proofs.Acquiring.{told_none, told_grows}
use Rattle.counter_directory.proofs.claim_table.ClaimTable.reserve_cells.Goals as goal

pub loop-round-init : goal.loop-round-init
loop-round-init g c = record {
  keeps = record { claims = refl; rings = refl; last = refl; cells = refl; most = refl };
  more = omega arith;
  few = omega arith;
  index = refl;
  told = told_none c.args.cell_pass.now c.args.cell_pass.now refl;
  held = λ e. absurd (true≢false (sym e));
}

pub loop-round-preserved : goal.loop-round-preserved
loop-round-preserved g c =
    let i = c.loop-round.invariant in
    let e = c.retry_held.ensures in
    let k = i.keeps in
    let same = ap (λ r. vec_len r) e.same in
    record {
      keeps = record {
        claims = e.keeps.claims ∙ k.claims;
        rings = e.keeps.rings ∙ k.rings;
        last = e.keeps.last ∙ k.last;
        cells = e.keeps.cells ∙ k.cells;
        most = e.keeps.most ∙ k.most;
      };
      more = omega (arith, i.more, same);
      few = omega (arith, i.few, same);
      index = i.index;
      told = i.told;
      held = λ _. subst (λ (l : List ℕ). HeldSince c.args.cell_pass.now c.loop-round.cell_pass [] l) (sym e.held.1)
          (told_grows c.args.cell_pass.now c.loop-round.cell_pass i.told);
    }
