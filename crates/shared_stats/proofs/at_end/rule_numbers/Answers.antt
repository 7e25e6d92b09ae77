use Rattle.std.proofs.Common.{refl}
use Rattle.std.specs.Mem.Slots.{slots_items}
use Rattle.shared_stats.specs.Words.{word_of}
use Rattle.shared_stats.proofs.Closing.{read_at}
use Rattle.shared_stats.proofs.at_end.rule_numbers.Goals as goal

pub returns : goal.returns
returns c =
    let words = slots_items c.args.closed.now.words in
    let rule = c.args.rule in
    rw (
      read_at words _ (word_of rule 0) c.word.result c.word.ensures c.word_of.ensures,
      read_at words _ (word_of rule 1) c.word-2.result c.word-2.ensures c.word_of-2.ensures,
      read_at words _ (word_of rule 2) c.word-3.result c.word-3.ensures c.word_of-3.ensures,
      read_at words _ (word_of rule 3) c.word-4.result c.word-4.ensures c.word_of-4.ensures,
      read_at words _ (word_of rule 4) c.word-5.result c.word-5.ensures c.word_of-5.ensures,
      read_at words _ (word_of rule 5) c.word-6.result c.word-6.ensures c.word_of-6.ensures,
    ) refl
