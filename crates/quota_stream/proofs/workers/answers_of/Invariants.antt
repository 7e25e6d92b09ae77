use Rattle.std.proofs.Common.{◌≡◌, ℕ, ◌<◌, ◌≤◌, ◌++◌, List, length, drop, get_or}
use Rattle.quota_stream.specs.Tasks.{Task, Stands, IsShort, texts_from, output_text}
use Rattle.quota_stream.proofs.workers.answers_of.Given as goal

abbrev pub invariant-streams : goal.invariant-streams
invariant-streams l = record {
  texts : l.words.items ++ texts_from l.settings l.index (drop l.index l.streams) ≡ texts_from l.settings 0 l.streams;
  short : (k : ℕ) (d : List ℕ) → k < l.index → IsShort (get_or l.streams k d);
  stand : (k : ℕ) (bytes : List ℕ) (task : Task) → l.index ≤ k → k < length l.streams
      → Stands (output_text l.settings k (get_or l.streams k bytes)) (get_or l.streams k bytes) (get_or l.tasks k task);
  one_each : length l.tasks ≡ length l.streams;
}
