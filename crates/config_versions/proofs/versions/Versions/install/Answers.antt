use Rattle.std.proofs.Common.{◌≡◌, ◌≤◌, length, refl, sym, ap, ◌∙◌, subst, arith, rules}
use Rattle.std.specs.Arc.{arc_value}
use mathlib.Core.List.{IsPrefix}
use Rattle.told_list.specs.Tokens.{view}
use Rattle.config_versions.specs.PassState.{IsVersion}
use Rattle.config_versions.proofs.Lists.{below_prefix}
use Rattle.config_versions.proofs.versions.Versions.install.Goals as goal

pub returns-in-Full-clause-answer : goal.returns-in-Full-clause-answer
returns-in-Full-clause-answer g c =
    let t = c.in-Full.ensures.turn in
    let v = view c.args.pass.now.seen in
    let w = view c.with.new.seen in
    let e : w.known ≡ t.0.versions = t.3.known ∙ t.2.1.2 in
    let p = c.args.pass.now in
    let b = below_prefix v.known t.0.versions p.version p.index.value p.at t.3.knew in (
      refl,
      ap (λ l. length l) e ∙ t.2.1.0,
      record {
        turn = record {
          knew = subst (λ l. IsPrefix v.known l) (sym e) t.3.knew;
          saw = subst (λ l. v.shown ≤ length l) (sym e) t.3.saw;
          loads = t.3.loads;
          shown = t.3.shown;
        };
        own = search rules;
        version = search rules;
        index = subst (λ l. IsVersion l 1048575 (arc_value c.in-Full.newest)) (sym e) t.2.1.1;
        rises = omega (arith, b, t.2.1.0);
      },
    )
