use Rattle.std.proofs.Common.{◌≡◌, ◌≤◌, length, sym, ap, ◌∙◌, subst, arith, rules}
use mathlib.Core.List.{IsPrefix}
use Rattle.told_list.specs.Tokens.{view}
use Rattle.config_versions.proofs.Lists.{below_prefix}
use Rattle.config_versions.proofs.versions.Versions.refresh.Goals as goal

pub returns-in-Newest-clause-answer : goal.returns-in-Newest-clause-answer
returns-in-Newest-clause-answer g c =
    let t = c.in-Newest.ensures.turn in
    let v = view c.args.pass.now.seen in
    let w = view c.with.new.seen in
    let e : w.known ≡ t.0.versions = t.3.known ∙ t.2.1 in
    let p = c.args.pass.now in
    let b = below_prefix v.known t.0.versions p.version p.index.value p.at t.3.knew in
    record {
      turn = record {
        knew = subst (λ l. IsPrefix v.known l) (sym e) t.3.knew;
        saw = subst (λ l. v.shown ≤ length l) (sym e) t.3.saw;
        loads = t.3.loads;
        shown = t.3.shown;
      };
      own = search rules;
      version = omega (arith, ap (λ l. length l) e, b, t.2.0);
      index = search rules;
      rises = search rules;
    }
