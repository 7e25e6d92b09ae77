-- Calls of a stream that failed.
use Rattle.std.specs.Prelude.{Err}
use Rattle.std.proofs.Common.{◌≡◌, ℕ, ◌≤◌, Bool, List, [], ◌∷◌, ◌++◌, length, take, refl, sym, subst, arith}
use Rattle.std.proofs.lemmas.List.{take_all}
use Rattle.rate_io.specs.Causes.{Rose}
use Rattle.rate_io.specs.Events.{Event, write_failed}
use Rattle.rate_io.specs.Links.{IsLinkWrite, stream_state}

-- a write that failed whole
pub failed_write : {E : Type 0} (old new : List Event) (faults later : ℕ) (open_now : Bool) (piece : List ℕ) (e : E)
    → new ≡ old ++ write_failed piece ∷ [] → faults ≤ later → Rose faults later
    → (part : ℕ) × IsLinkWrite {T = Unit {0}} {E = E} (stream_state old faults open_now) (stream_state new later open_now) (Err e) (take part piece)
failed_write {E = E} old new faults later open_now piece e is more rose =
    let same : take (length piece) piece ≡ piece = take_all (length piece) piece (omega arith) in (
      length piece,
      subst (λ (ys : List ℕ). IsLinkWrite {T = Unit {0}} {E = E} (stream_state old faults open_now) (stream_state new later open_now) (Err e) ys) (sym same)
          (record {
            done = tt;
            part = (0, tt);
            left = refl;
            history = is;
            cause = record { later = more; failed = rose };
            stays = record { can_fail = refl; is_shut = refl; bounds = refl; sure = λ sure. absurd (cc) };
          }),
    )
