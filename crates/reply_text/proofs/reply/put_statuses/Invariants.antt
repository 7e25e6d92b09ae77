use Rattle.std.proofs.Common.{◌≡◌, ◌≤◌, ◌+◌, ◌*◌, ◌++◌, nat_lt, map, drop, string_bytes, string_len, string_capacity}
use Rattle.serde_json.specs.Data.{array}
use Rattle.serde_json.specs.View.{items_of}
use Rattle.serde_json.specs.Written.{compact_text, items_text}
use Rattle.reply_text.specs.Texts as texts
use Rattle.reply_text.proofs.reply.put_statuses.Given as goal

abbrev pub invariant-statuses : goal.invariant-statuses
invariant-statuses l = record {
  text : string_bytes l.out ++ items_text (nat_lt 0 l.index) (items_of (map texts.status_data (drop l.index l.statuses)))
      ≡ string_bytes l.fn.out ++ compact_text (array (items_of (map texts.status_data l.statuses)));
  grown : string_len l.out ≤ string_len l.fn.out + (1 + 177 * l.index);
  capacity : string_capacity l.fn.out ≤ string_capacity l.out;
}
