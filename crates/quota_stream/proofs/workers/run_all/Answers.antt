use Rattle.std.proofs.Common.{subst, sym}
use Rattle.quota_stream.specs.Tasks.{Task, Stands}
use Rattle.quota_stream.proofs.Working.{stand_on}
use Rattle.quota_stream.proofs.workers.run_all.Goals as goal

pub answers_of-requires : goal.answers_of-requires
answers_of-requires g c =
    stand_on c.args.settings.now c.args.streams.now c.args.tasks.now c.for_each_chunk_mut.new.s c.requires.tasks
    (λ k d lt whole bytes stands. (let p = (c.for_each_chunk_mut.ensures.by_index k d lt).1 in
    subst (λ (x : Task). Stands whole bytes x) p.new_element
    (p.call p.offset d p.offset_in_chunk whole bytes (subst (λ (x : Task). Stands whole bytes x) (sym p.old_element) stands))))
    c.for_each_chunk_mut.auto.s
