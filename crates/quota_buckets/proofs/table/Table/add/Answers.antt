use Rattle.std.proofs.Common.{rules, ◌≡◌, ◌<◌, ◌++◌, ◌∷◌, [], ◌∙◌, List, Some, None, ap, refl, find, length}
use Rattle.std.specs.HashMap.{get}
use Rattle.quota_settings.specs.Pairs.{same_pairs}
use Rattle.quota_buckets.specs.Tables.{Stored, Table, held, is_stored_as}
use Rattle.quota_buckets.proofs.Advancing.{agenda_push, held_push}
use Rattle.quota_buckets.proofs.Steps.{pushed_index}
use Rattle.quota_buckets.proofs.Tabling.{not_found}
use Rattle.quota_buckets.proofs.table.Table.add.Goals as goal

pub invariant_of-self-2 : goal.invariant_of-self-2
invariant_of-self-2 c =
    let slots = c.make_room.new.slots.items in
    let count : c.len-place.result ≡ length slots = search rules in
    let new : find (is_stored_as c.args.bucket.id) (held slots) ≡ None =
    ap (find (is_stored_as c.args.bucket.id)) c.make_room.ensures.held ∙ rw (← c.self.view_is) at c.requires.new in
    let pushed : c.push_reserved.new.self.items ≡ slots ++ Some c.args.bucket ∷ [] =
    c.push_reserved.ensures.items ∙ rw c.reserve.ensures.items refl in
    let table = c.make_room.ensures.table in
    let room : length slots < length c.make_room.new.agenda = c.in_ok-make_room.ensures.room in
    record {
      indexed = pushed_index (get same_pairs c.make_room.new.index) (get same_pairs c.insert.new.self) slots c.args.bucket c.args.id
          table.indexed (not_found c.args.bucket.id slots new) c.requires.name
          (λ q. rw (← count) (c.in_ok-insert.ensures.updates.0 q)) c.requires.there c.push_reserved.new.self.items pushed;
      planned = agenda_push c.self.inside.time c.make_room.new.agenda c.set.new.self slots c.push_reserved.new.self.items c.args.bucket
          c.due.result table.planned room pushed c.due.ensures (rw (← count) c.set.ensures);
    }

pub returns-clause-added : goal.returns-clause-added
returns-clause-added c =
    let make : List Stored → Table = λ stored. record { time = c.self.inside.time; stored = stored } in
    let pushed : c.push_reserved.new.self.items ≡ c.make_room.new.slots.items ++ Some c.args.bucket ∷ [] =
    c.push_reserved.ensures.items ∙ rw c.reserve.ensures.items refl in
    rw (← c.self.view_is) (ap make (held_push c.make_room.new.slots.items c.push_reserved.new.self.items c.args.bucket pushed
    ∙ ap (λ (kept : List Stored). kept ++ c.args.bucket ∷ []) c.make_room.ensures.held))
