-- Which records are short.
use Rattle.std.proofs.Common.{◌≡◌, ◌↔◌, Bool, true, false, refl}
use Rattle.std.specs.Bool.{IsTrue}
use Rattle.reply_text.specs.Short.{IsShort}
use Rattle.reply_text.specs.declared.record.Outcome.{Outcome}
use Rattle.reply_text.specs.declared.record.Outcome.TheVariants.{Checked, Ticked, Installed, Bad, Full, Spent, VersionsFull}
use Rattle.run_lines.specs.RunLines.{is_short}

fails : (b : Bool) → (IsTrue b → ⊥) → b ≡ false
fails true never = absurd (never refl)
fails false never = refl

pub short_is : (b : Bool) (o : Outcome) → IsTrue b ↔ IsShort o → b ≡ is_short o
short_is b (Checked answer) h = h.1 tt
short_is b (Ticked moment) h = h.1 tt
short_is b Installed h = h.1 tt
short_is b (Bad refused) h = fails b h.0
short_is b (Full live held wanted) h = fails b h.0
short_is b (Spent claims wanted) h = fails b h.0
short_is b (VersionsFull versions) h = fails b h.0

pub is_short_record : (o : Outcome) → is_short o ≡ true → IsShort o
is_short_record (Checked answer) h = tt
is_short_record (Ticked moment) h = tt
is_short_record Installed h = tt
is_short_record (Bad refused) h = absurd (cc)
is_short_record (Full live held wanted) h = absurd (cc)
is_short_record (Spent claims wanted) h = absurd (cc)
is_short_record (VersionsFull versions) h = absurd (cc)
