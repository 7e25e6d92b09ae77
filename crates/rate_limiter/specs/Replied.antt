-- The answer of a call that writes its reply.
use Rattle.std.specs.Prelude.{Result, Ok, Err}
use Rattle.rls_core.specs.declared.reply.Reply.{Reply}

-- the reply that was written where there is no fault, and else the fault
abbrev pub replied : {E : Type 0} → Result (Unit {0}) E → Reply → Result Reply E
replied (Ok _) reply = Ok reply
replied (Err fault) reply = Err fault
