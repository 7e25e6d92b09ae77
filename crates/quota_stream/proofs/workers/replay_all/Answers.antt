use Rattle.quota_stream.proofs.Feeding.{lines_each}
use Rattle.quota_stream.proofs.Feeds.{outputs_cut}
use Rattle.quota_stream.proofs.workers.replay_all.Goals as goal

pub returns-in_default-clause-lines : goal.returns-in_default-clause-lines
returns-in_default-clause-lines g c = lines_each c.args.settings.now

pub returns-in-Ok-run_all-clause-lines : goal.returns-in-Ok-run_all-clause-lines
returns-in-Ok-run_all-clause-lines g c = lines_each c.args.settings.now

pub returns-clause-lines : goal.returns-clause-lines
returns-clause-lines g c = lines_each c.args.settings.now

pub returns-in_default-clause-cut : goal.returns-in_default-clause-cut
returns-in_default-clause-cut g c = outputs_cut c.args.settings.now

pub returns-in-Ok-run_all-clause-cut : goal.returns-in-Ok-run_all-clause-cut
returns-in-Ok-run_all-clause-cut g c = outputs_cut c.args.settings.now

pub returns-clause-cut : goal.returns-clause-cut
returns-clause-cut g c = outputs_cut c.args.settings.now
