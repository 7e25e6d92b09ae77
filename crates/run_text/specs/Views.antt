-- What a record that was read shows.
use Rattle.std.specs.Prelude.{string_bytes}
use Rattle.reply_text.specs.declared.record.Outcome.TheVariants as outcome
use Rattle.reply_text.specs.Shown.{Shown}
use Rattle.run_text.specs.declared.said.Said.{Said}
use Rattle.run_text.specs.declared.said.Said.TheVariants.{Run, Bad}

-- the record
abbrev pub shown_of : Said → Shown
shown_of (Run r) = r
shown_of (Bad b) = record {
  line = b.line;
  worker = b.worker;
  version = b.version;
  moment = b.moment;
  outcome = outcome.Bad (record { at = string_bytes b.at; number = b.number });
}
