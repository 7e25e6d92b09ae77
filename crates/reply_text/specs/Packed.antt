-- What a packed status stands for.
use Rattle.std.specs.Prelude.{ℕ, Option, option_map}
use Rattle.rate_types.specs.declared.request.OwnLimit.{OwnLimit}
use Rattle.rate_types.specs.declared.unit.Unit.{Unit}
use Rattle.rls_core.specs.declared.status.Status.{Status}
use Rattle.rls_core.specs.declared.status.Count.{Count}
use Rattle.rls_core.specs.declared.status.Count.TheVariants as counts
use Rattle.reply_text.specs.declared.packed_status.CountKind.{CountKind}
use Rattle.reply_text.specs.declared.packed_status.CountKind.TheVariants as kinds
use Rattle.reply_text.specs.declared.packed_status.PackedStatus.{PackedStatus}

-- a count, from its kind and its number
abbrev pub count_of : CountKind → ℕ → Count
count_of kinds.NoCount number = counts.NoCount
count_of kinds.Before number = counts.Before number
count_of kinds.Seen number = counts.Seen number

-- a limit, where it has a unit
abbrev pub limit_of : ℕ → Option Unit → Option OwnLimit
limit_of limit unit = option_map (λ (u : Unit). record { limit = limit; unit = u }) unit

-- the status that a packed one stands for
abbrev pub unpacked : PackedStatus → Status
unpacked p = record {
  code = p.code;
  limit = limit_of p.limit p.unit;
  remaining = p.remaining;
  reset = p.reset;
  rule = p.rule;
  count = count_of p.kind p.count;
}
