-- Journals stand for their records in the order of the lines.
use Rattle.std.proofs.Common.{◌≡◌, ℕ, Bool, true, false, List, refl}
use Rattle.reply_text.specs.declared.record.Record.{Record}
use Rattle.script_run.specs.Merged.{joined, EachLineOnce, Merges}
use Rattle.script_run.specs.Lone.{IsLone}
use Rattle.script_run.specs.RunRecords.{ordered, order_of, places_of, IsOrder}
use Rattle.script_run.proofs.Lone.{lone_ordered}
use Rattle.script_run.proofs.Spreading.{spread}

-- where the records lie is in the journals, and they are the journals' in the order of their lines
pub in_places : (is_lone : Bool) (lines : ℕ) (journals : List (List Record)) → EachLineOnce lines (joined journals) → (is_lone ≡ true → IsLone lines journals)
    → IsOrder journals (order_of is_lone lines journals) × Merges lines journals (ordered journals (order_of is_lone lines journals))
in_places true lines journals once alone = lone_ordered lines journals (alone refl)
in_places false lines journals once alone = spread lines journals (places_of lines journals) once refl
