use Rattle.std.proofs.Common.{subst}
use Rattle.script_run.specs.Lone.{IsLone}
use Rattle.script_run.proofs.Ordering.{in_places}
use Rattle.script_run.proofs.run_journals.merge.Goals as goal

pub returns : goal.returns
returns c = record {
  merged = (in_places c.is_lone-is_lone.result c.args.lines c.args.journals.items c.requires.once
      (λ alone. subst (λ js. IsLone c.args.lines js) c.deref.ensures.value (c.is_lone-is_lone.ensures alone))).1;
}
