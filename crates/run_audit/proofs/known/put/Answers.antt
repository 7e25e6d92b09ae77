use Rattle.std.proofs.Common.{◌≡◌, ℕ, Bool, true, false, cond, Some, refl, ap, ◌∙◌, is_eq, unwrap_or}
use Rattle.std.specs.Prelude.{Option}
use Rattle.std.specs.BTreeMap.{is_at}
use Rattle.std.specs.Map.{lookup}
use Rattle.run_audit.specs.declared.known.KnownCounter.{KnownCounter}
use Rattle.run_audit.specs.Known.{known_cmp}
use Rattle.run_audit.proofs.known.put.Goals as goal

either_value : (b : Bool) (v : ℕ) (o : Option ℕ) → unwrap_or (cond b (Some v) o) 0 ≡ cond b v (unwrap_or o 0)
either_value true v o = refl
either_value false v o = refl

pub returns : goal.returns
returns c = λ w k.
    let q : KnownCounter = record { worker = w; counter = k } in
    ap (λ (o : Option ℕ). unwrap_or o 0) (c.in_ok-insert.ensures.updates.0 q)
    ∙ either_value (is_eq (known_cmp c.args.key q)) c.args.value (lookup (is_at (known_cmp q)) c.args.values.now.entries)
