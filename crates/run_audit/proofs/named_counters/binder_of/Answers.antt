use Rattle.std.proofs.Common.{ap, ◌∙◌, sym, Option, unwrap_or}
use Rattle.std.specs.Option.{option_copied}
use Rattle.run_audit.specs.declared.binder.Binder.{Binder}
use Rattle.run_audit.specs.declared.binder.Binder.TheVariants.{Nobody}
use Rattle.run_audit.proofs.EndOrder.{found_by_end}
use Rattle.run_audit.proofs.named_counters.binder_of.Goals as goal

pub returns-in-Some : goal.returns-in-Some
returns-in-Some c =
    ap (λ (o : Option Binder). unwrap_or o Nobody)
    (sym (ap option_copied c.in-Some.is) ∙ c.get.ensures.value ∙ found_by_end c.args.key.now c.args.counters.now.entries)

pub returns-in-None : goal.returns-in-None
returns-in-None c =
    ap (λ (o : Option Binder). unwrap_or o Nobody)
    (sym (ap option_copied c.in-None.is) ∙ c.get.ensures.value ∙ found_by_end c.args.key.now c.args.counters.now.entries)
