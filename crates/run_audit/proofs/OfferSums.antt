-- The offers of a script, split in two.
use Rattle.std.proofs.Common.{◌≡◌, ℕ, ◌+◌, List, [], ◌∷◌, ◌++◌, length, Bool, arith}
use Rattle.reply_text.specs.declared.record.Record.{Record}
use Rattle.script_run.specs.ScriptLine.{ScriptLine}
use Rattle.script_run.specs.Moments.{offers}

pub offers_append : (by : ℕ → Bool) (m : ℕ) (ls ks : List ScriptLine) (rs ss : List Record) → length ls ≡ length rs
    → offers by m (ls ++ ks) (rs ++ ss) ≡ offers by m ls rs + offers by m ks ss
offers_append by m [] ks [] ss e = omega arith
offers_append by m [] ks (r ∷ rs) ss e = absurd (omega arith)
offers_append by m (l ∷ ls) ks [] ss e = absurd (omega arith)
offers_append by m (l ∷ ls) ks (r ∷ rs) ss e = omega (arith, offers_append by m ls ks rs ss (omega arith))
