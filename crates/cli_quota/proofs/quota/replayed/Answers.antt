use Rattle.cli_quota.proofs.Faults.{settings_fault}
use Rattle.cli_quota.proofs.Outputs.{texts_of_all, lines_of_all, fault_of_all}
use Rattle.cli_quota.proofs.quota.replayed.Goals as goal

pub returns-in-Err-clause-fault : goal.returns-in-Err-clause-fault
returns-in-Err-clause-fault g c = settings_fault c.args.file.now c.args.streams.now c.in-Err.exit c.in-Err.ensures.fault

pub returns-clause-texts : goal.returns-clause-texts
returns-clause-texts g c =
    texts_of_all c.in-Ok.settings c.texts_of.ensures.lines c.texts_of.ensures.cut c.args.file.now c.args.streams.now c.texts_of.result
    c.in-Ok.ensures.spells c.texts_of.ensures.texts c.texts_of.ensures.short

pub returns-clause-lines : goal.returns-clause-lines
returns-clause-lines g c =
    lines_of_all c.in-Ok.settings c.texts_of.ensures.lines c.texts_of.ensures.cut c.args.streams.now c.texts_of.result c.texts_of.ensures.texts

pub returns-clause-fault : goal.returns-clause-fault
returns-clause-fault g c =
    fault_of_all c.args.file.now c.args.streams.now c.in-Ok.settings c.texts_of.result c.in-Ok.ensures.spells c.texts_of.ensures.fault
