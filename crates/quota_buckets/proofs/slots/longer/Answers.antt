use Rattle.std.proofs.Common.{◌≡◌, ◌∙◌, ◌++◌, None, replicate, map, lit<, refl}
use Rattle.quota_buckets.specs.Tables.{slot_due, without_gaps}
use Rattle.quota_buckets.proofs.Advancing.{longer_agenda, longer_room}
use Rattle.quota_buckets.proofs.slots.longer.Goals as goal

pub returns-clause-agenda : goal.returns-clause-agenda
returns-clause-agenda c =
    let is : c.in_ok-agenda.agenda ≡ (map (slot_due c.args.time) (without_gaps c.args.slots.now) ++ replicate c.len-taken.result None) ++ replicate 16 None =
    c.in_ok-agenda.ensures ∙ c.in_ok-add_free-2.ensures ∙ rw (c.in_ok-add_free.ensures, c.in_ok-moments.ensures) refl in
    longer_agenda c.args.time c.len-taken.result 16 (without_gaps c.args.slots.now) c.in_ok-agenda.agenda is

pub returns-clause-room : goal.returns-clause-room
returns-clause-room c =
    let is : c.in_ok-agenda.agenda ≡ (map (slot_due c.args.time) (without_gaps c.args.slots.now) ++ replicate c.len-taken.result None) ++ replicate 16 None =
    c.in_ok-agenda.ensures ∙ c.in_ok-add_free-2.ensures ∙ rw (c.in_ok-add_free.ensures, c.in_ok-moments.ensures) refl in
    longer_room c.args.time c.len-taken.result 16 (without_gaps c.args.slots.now) c.in_ok-agenda.agenda (lit< tt) is
