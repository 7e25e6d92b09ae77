-- The turns of a replay, in the histories of its source and its sink.
use Rattle.std.specs.Prelude.{⊤}
use Rattle.std.proofs.Common.{◌≡◌, ℕ, ◌+◌, ◌<◌, ◌≤◌, List, [], ◌∷◌, ◌++◌, length, take, drop, take-append-drop, Result, Ok, Err, IfErr, OnOk, sym, ap, subst, ◌∙◌, append_assoc}
use Rattle.rate_types.specs.declared.limits.TheConstants.{MOST_BYTES}
use Rattle.rate_io.specs.Events.{Event, gave, ended, read_failed, Grew}
use Rattle.quota_settings.specs.Covering.{AllSettings}
use Rattle.quota_stream.specs.Replays.{IsReplay}
use Rattle.quota_stream.specs.Progress.{Progress, Takes, Stops, Finishes, StopsAtEnd}
use Rattle.quota_stream.specs.declared.replay_fault.ReplayFault.{ReplayFault}
use Rattle.quota_stream.specs.declared.replay_fault.ReplayFault.TheVariants.{Read, TooLong, OutOfMemory}
use Rattle.quota_stream.proofs.Parting.{takes_then, stops_then, take_then, grew_then, grew_as, grew_none}
use Rattle.quota_stream.proofs.Coming.{HasCome, begun, comes_on, comes_over, replay_done, replay_stopped, replay_stopped_at_end, replay_unread, replay_too_long, replay_no_memory}

-- ---- the parts of a chunk

pub parts_on : (p q r : Progress) (bytes rest : List ℕ) (at count : ℕ) (a b c : List Event) → rest ≡ drop at bytes
    → Grew a b (Takes p (take at bytes) q) → Grew b c (Takes q (take count rest) r) → Grew a c (Takes p (take (at + count) bytes) r)
parts_on p q r bytes rest at count a b c is one two =
    subst (λ (t : List ℕ). Grew a c (Takes p t r)) (ap (λ (d : List ℕ). take at bytes ++ take count d) is ∙ sym (take_then at count bytes))
    (grew_then a b c (Takes p (take at bytes) q) (Takes q (take count rest) r) (Takes p (take at bytes ++ take count rest) r) one two
    (λ x y h k. takes_then p q r (take at bytes) (take count rest) x y h k))

pub parts_stop : (p q : Progress) (bytes rest : List ℕ) (at : ℕ) (fault : ReplayFault) (a b c : List Event) → rest ≡ drop at bytes
    → Grew a b (Takes p (take at bytes) q) → Grew b c (Stops q rest fault) → Grew a c (Stops p bytes fault)
parts_stop p q bytes rest at fault a b c is one two =
    subst (λ (t : List ℕ). Grew a c (Stops p t fault)) (ap (λ (d : List ℕ). take at bytes ++ d) is ∙ take-append-drop at bytes)
    (grew_then a b c (Takes p (take at bytes) q) (Stops q rest fault) (Stops p (take at bytes ++ rest) fault) one two
    (λ x y h k. stops_then p q (take at bytes) rest fault x y h k))

-- ---- the turns

-- how far a replay has come, by what its source and its sink did
abbrev pub Come : List Event → List Event → List Event → List Event → Progress → Progress → ℕ → Type 0
Come reads_old reads_new writes_old writes_new start q count =
    Grew reads_old reads_new (λ reads. Grew writes_old writes_new (HasCome start q count reads))

-- and what it did, where it ended so
abbrev pub Ended : List Event → List Event → List Event → List Event → AllSettings → ℕ → Result ⊤ ReplayFault → Type 0
Ended reads_old reads_new writes_old writes_new settings index result =
    Grew reads_old reads_new (λ reads. Grew writes_old writes_new (IsReplay settings index result reads))

-- the stream before its first byte
pub from_begun : (r0 r1 w0 w1 : List Event) (start q : Progress) (settings : AllSettings) (index count : ℕ) → start ≡ begun settings index
    → Come r0 r1 w0 w1 start q count → Come r0 r1 w0 w1 (begun settings index) q count
from_begun r0 r1 w0 w1 start q settings index count is come = subst (λ (p : Progress). Come r0 r1 w0 w1 p q count) is come

more : (a b c events : List Event) (e : Event) → b ≡ a ++ events → c ≡ b ++ e ∷ [] → c ≡ a ++ (events ++ e ∷ [])
more a b c events e grew is = is ∙ ap (λ (l : List Event). l ++ e ∷ []) grew ∙ append_assoc a events (e ∷ [])

module _ (r0 r1 r2 w0 w1 : List Event) (start q : Progress) (count : ℕ) (inv : Come r0 r1 w0 w1 start q count) (few : count ≤ MOST_BYTES) where
  pub reads_on : (w2 : List Event) (r : Progress) (chunk : List ℕ) (next : ℕ) → r2 ≡ r1 ++ gave chunk ∷ [] → next ≡ count + length chunk
      → Grew w1 w2 (Takes q chunk r) → Come r0 r2 w0 w2 start r next
  reads_on w2 r chunk next event is took = record {
    events = inv.events ++ gave chunk ∷ [];
    grew = more r0 r1 r2 inv.events (gave chunk) inv.grew event;
    are = grew_then w0 w1 w2 (HasCome start q count inv.events) (Takes q chunk r) (HasCome start r next (inv.events ++ gave chunk ∷ [])) inv.are took
        (λ x y h k. comes_on start q count inv.events x h few r chunk next y is k);
  }

  pub reads_over : (chunk : List ℕ) (next : ℕ) → r2 ≡ r1 ++ gave chunk ∷ [] → next ≡ count + length chunk → MOST_BYTES < next
      → Come r0 r2 w0 w1 start q next
  reads_over chunk next event is many = record {
    events = inv.events ++ gave chunk ∷ [];
    grew = more r0 r1 r2 inv.events (gave chunk) inv.grew event;
    are = grew_as w0 w1 (HasCome start q count inv.events) (HasCome start q next (inv.events ++ gave chunk ∷ [])) inv.are
        (λ x h. comes_over start q count inv.events x h few chunk next is many);
  }

-- ---- the end

module _ (r0 r1 r2 w0 w1 : List Event) (settings : AllSettings) (index : ℕ) (q : Progress) (count : ℕ)
    (inv : Come r0 r1 w0 w1 (begun settings index) q count) where
  pub unread : r2 ≡ r1 ++ read_failed ∷ [] → Ended r0 r2 w0 w1 settings index (Err Read)
  unread event = record {
    events = inv.events ++ read_failed ∷ [];
    grew = more r0 r1 r2 inv.events read_failed inv.grew event;
    are = grew_as w0 w1 (HasCome (begun settings index) q count inv.events) (IsReplay settings index (Err Read) (inv.events ++ read_failed ∷ [])) inv.are
        (λ x h. replay_unread settings index q count inv.events x h);
  }

  pub too_much : MOST_BYTES < count → Ended r0 r1 w0 w1 settings index (Err (TooLong count))
  too_much many = record {
    events = inv.events;
    grew = inv.grew;
    are = grew_as w0 w1 (HasCome (begun settings index) q count inv.events) (IsReplay settings index (Err (TooLong count)) inv.events) inv.are
        (λ x h. replay_too_long settings index q count inv.events x h many);
  }

  pub stopped : (w2 : List Event) (chunk : List ℕ) (fault : ReplayFault) → count ≤ MOST_BYTES → r2 ≡ r1 ++ gave chunk ∷ []
      → count + length chunk ≤ MOST_BYTES → Grew w1 w2 (Stops q chunk fault) → Ended r0 r2 w0 w2 settings index (Err fault)
  stopped w2 chunk fault few event still stops = record {
    events = inv.events ++ gave chunk ∷ [];
    grew = more r0 r1 r2 inv.events (gave chunk) inv.grew event;
    are = grew_then w0 w1 w2 (HasCome (begun settings index) q count inv.events) (Stops q chunk fault)
        (IsReplay settings index (Err fault) (inv.events ++ gave chunk ∷ [])) inv.are stops
        (λ x y h k. replay_stopped settings index q count inv.events x h few chunk still fault y k);
  }

  pub at_end : (w2 : List Event) (result : Result ⊤ ReplayFault) → count ≤ MOST_BYTES → r2 ≡ r1 ++ ended ∷ []
      → OnOk result (Grew w1 w2 (Finishes q)) → IfErr result (λ fault. Grew w1 w2 (StopsAtEnd q fault)) → Ended r0 r2 w0 w2 settings index result
  at_end w2 (Ok done) few event all stops = record {
    events = inv.events ++ ended ∷ [];
    grew = more r0 r1 r2 inv.events ended inv.grew event;
    are = grew_then w0 w1 w2 (HasCome (begun settings index) q count inv.events) (Finishes q)
        (IsReplay settings index (Ok done) (inv.events ++ ended ∷ [])) inv.are all
        (λ x y h k. replay_done settings index q count inv.events x h few y k);
  }
  at_end w2 (Err fault) few event all stops = record {
    events = inv.events ++ ended ∷ [];
    grew = more r0 r1 r2 inv.events ended inv.grew event;
    are = grew_then w0 w1 w2 (HasCome (begun settings index) q count inv.events) (StopsAtEnd q fault)
        (IsReplay settings index (Err fault) (inv.events ++ ended ∷ [])) inv.are stops
        (λ x y h k. replay_stopped_at_end settings index q count inv.events x h few fault y k);
  }

pub without_memory : (r0 w0 : List Event) (settings : AllSettings) (index : ℕ) → Ended r0 r0 w0 w0 settings index (Err OutOfMemory)
without_memory r0 w0 settings index =
    grew_none r0 (λ reads. Grew w0 w0 (IsReplay settings index (Err OutOfMemory) reads))
    (grew_none w0 (IsReplay settings index (Err OutOfMemory) []) (replay_no_memory settings index))
