-- One journal that is in the order of its lines is the records of the run.
use Rattle.std.proofs.Common.{ℕ, ◌≤◌, List, [], ◌∷◌, length, refl, arith}
use Rattle.reply_text.specs.declared.record.Record.{Record}
use Rattle.script_run.specs.Merged.{Merges}
use Rattle.script_run.specs.Lone.{AreInOrder, IsLone}
use Rattle.script_run.specs.RunRecords.{journal_at}

pub lone : (lines : ℕ) (records : List Record) → AreInOrder lines records → Merges lines (records ∷ []) records
lone lines records order = record {
  as_many = order.as_many;
  numbered = order.numbered;
  from = λ i r at. record { worker = 0; journal = records; place = i; there = refl; here = at };
  sums = λ f. omega arith;
}

-- one journal in this order stands for itself
pub lone_ordered : (lines : ℕ) (journals : List (List Record)) → IsLone lines journals → (1 ≤ length journals) × Merges lines journals (journal_at journals 0)
lone_ordered lines [] alone = absurd alone
lone_ordered lines (journal ∷ []) alone = (omega arith, lone lines journal alone)
lone_ordered lines (journal ∷ other ∷ journals) alone = absurd alone
