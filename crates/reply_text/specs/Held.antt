-- The answer that its statuses make, wherever they lie, and a list of statuses that is lent.
use Rattle.std.specs.Prelude.{List, [], ◌∷◌}
use Rattle.rls_core.specs.declared.status.Status.{Status}
use Rattle.reply_text.specs.declared.statuses.HeldStatuses.{HeldStatuses}
use Rattle.reply_text.specs.declared.statuses.HeldStatuses.TheVariants as held
use Rattle.reply_text.specs.declared.status_items.HeldItems.{HeldItems}
use Rattle.reply_text.specs.declared.status_items.HeldItems.TheVariants as items
use Rattle.reply_text.specs.Answer.{Answer}
use Rattle.reply_text.specs.Packed.{unpacked}

abbrev pub held_answer : HeldStatuses → Answer
held_answer (held.One over status) = record { over = over; statuses = unpacked status ∷ [] }
held_answer (held.Several over statuses) = record { over = over; statuses = statuses.items }

abbrev pub held_items : HeldItems → List Status
held_items (items.One status) = status ∷ []
held_items (items.Several statuses) = statuses.now
