-- Which moment a record may have, by tests.
use Rattle.std.proofs.Common.{◌≡◌, ℕ, ◌≤◌, ◌==◌, ◌||◌, ◌&&◌, not, List, [], ◌∷◌, ◌++◌, Bool, sym}
use Rattle.std.specs.Prelude.{◌⊎◌}
use Rattle.std.specs.Bool.{Decides}
use Rattle.std.proofs.lemmas.Bool.Decides.{Decides-eqb}
use Rattle.reply_text.specs.declared.record.Record.{Record}
use Rattle.script_run.specs.ScriptLine.{ScriptLine}
use Rattle.script_run.specs.Moments.{tick_of, offers, IsTimely}
use Rattle.run_audit.proofs.Tests.{both, either}

pub source_by : (start : ℕ) (r : Record) (ls bs : List ScriptLine) (rs es : List Record) (w m : ℕ) (a b c : Bool) → w ≡ r.worker → m ≡ r.moment
    → a ≡ (m == start) → Decides b (1 ≤ offers (λ v. not (v == w)) m ls rs) → Decides c (1 ≤ offers (λ v. v == w) m bs es)
    → Decides (a || (b || c)) ((r.moment ≡ start)
    ⊎ ((1 ≤ offers (λ v. not (v == r.worker)) r.moment ls rs) ⊎ (1 ≤ offers (λ v. v == r.worker) r.moment bs es)))
source_by start r ls bs rs es w m a b c ew em ea db dc =
    rw (sym ew, sym em, ea) (either (m == start) (b || c) (Decides-eqb m start) (either b c db dc))

pub timely_by : (start : ℕ) (ls bs : List ScriptLine) (rs es : List Record) (l : ScriptLine) (r : Record) (a b : Bool)
    → Decides a ((start ≤ r.moment) × (tick_of l ≤ r.moment))
    → Decides b ((r.moment ≡ start)
    ⊎ ((1 ≤ offers (λ v. not (v == r.worker)) r.moment ls rs) ⊎ (1 ≤ offers (λ v. v == r.worker) r.moment (bs ++ l ∷ []) (es ++ r ∷ []))))
    → Decides (a && b) (IsTimely start ls rs bs es l r)
timely_by start ls bs rs es l r a b da db =
    let d = both a b da db in
    (λ h. record { least = (d.0 h).0.0; ticked = (d.0 h).0.1; source = (d.0 h).1 }, λ t. d.1 ((t.least, t.ticked), t.source))
