-- Pieces that were written, and the flush behind them.
use Rattle.std.proofs.Common.{◌≡◌, ℕ, ◌≤◌, List, [], ◌∷◌, ◌++◌, map, Option, Result, Ok, Err, OnOk, OnErr, inl, inr, refl, sym, ap, ◌∙◌, subst, arith, append_assoc}
use Rattle.std.proofs.lemmas.List.{append-nil}
use Rattle.rate_io.specs.Causes.{Rose, HasCause}
use Rattle.rate_io.specs.Content.{Appends}
use Rattle.rate_io.specs.Events.{Event, Grew, wrote, flushed, flush_failed, flush_event}
use Rattle.cli_exits.specs.Output.{AppendsFront}
use Rattle.cli_exits.specs.World.{all_written, WroteSome, WroteUpTo}

-- a write failed, and nothing was flushed
pub stops_before : (old new : List Event) (pieces : List (List ℕ)) → Grew old new (WroteSome pieces) → Grew old new (WroteUpTo pieces)
stops_before old new pieces g = record { events = g.events; grew = g.grew; are = inl g.are }

-- one event behind the writes
then_event : (old mid new : List Event) (pieces : List (List ℕ)) (e : Event) → mid ≡ old ++ map wrote pieces → new ≡ mid ++ e ∷ []
    → new ≡ old ++ (map wrote pieces ++ e ∷ [])
then_event old mid new pieces e so_far is = is ∙ ap (λ (l : List Event). l ++ e ∷ []) so_far ∙ append_assoc old (map wrote pieces) (e ∷ [])

-- all pieces were written, and this is what the flush answered
module _ {T E : Type 0} (old mid new : List Event) (pieces : List (List ℕ)) (so_far : mid ≡ old ++ map wrote pieces) where
  pub flush_each : (r : Result T E) → new ≡ mid ++ flush_event r ∷ [] → OnOk r (new ≡ old ++ all_written pieces)
  flush_each (Ok done) is = then_event old mid new pieces flushed so_far is
  flush_each (Err e) is = tt

  pub flush_stops : (r : Result T E) → new ≡ mid ++ flush_event r ∷ [] → OnErr r (Grew old new (WroteUpTo pieces))
  flush_stops (Ok done) is = tt
  flush_stops (Err e) is = record {
    events = map wrote pieces ++ flush_failed ∷ [];
    grew = then_event old mid new pieces flush_failed so_far is;
    are = inr refl;
  }

-- a flush leaves the bytes
stays : (a b c : Option (List ℕ)) (bytes : List ℕ) → Appends a b bytes → c ≡ b → Appends a c bytes
stays a b c bytes so_far same = subst (λ (x : Option (List ℕ)). Appends a x bytes) (sym same) so_far

module _ {T E : Type 0} (a b c : Option (List ℕ)) (bytes : List ℕ) (so_far : Appends a b bytes) (same : c ≡ b) where
  pub flush_bytes : (r : Result T E) → OnOk r (Appends a c bytes)
  flush_bytes (Ok done) = stays a b c bytes so_far same
  flush_bytes (Err e) = tt

  pub flush_part : (r : Result T E) → OnErr r (AppendsFront a c bytes)
  flush_part (Ok done) = tt
  flush_part (Err e) = (bytes, [], sym (append-nil bytes), stays a b c bytes so_far same)

rises : (a b c : ℕ) → a ≤ b → Rose b c → Rose a c
rises a b c first rose = omega arith

-- the cause of a flush is one of the writes and the flush together
pub flush_cause : {T E : Type 0} (a b c : ℕ) (r : Result T E) → a ≤ b → HasCause b c r → HasCause a c r
flush_cause a b c (Ok done) first h = record { later = omega (arith, first, h.later); failed = tt }
flush_cause a b c (Err e) first h = record { later = omega (arith, first, h.later); failed = rises a b c first h.failed }
