-- Records whose texts are short, whatever texts the script holds.
use Rattle.std.specs.Prelude.{⊤}
use Rattle.reply_text.specs.declared.record.Outcome.{Outcome}
use Rattle.reply_text.specs.declared.record.Outcome.TheVariants as outcome

-- those of an answered check, of a tick and of an installed configuration
abbrev pub IsShort : Outcome → Type 0
IsShort (outcome.Checked answer) = ⊤
IsShort (outcome.Ticked moment) = ⊤
IsShort outcome.Installed = ⊤
IsShort other = ⊥
