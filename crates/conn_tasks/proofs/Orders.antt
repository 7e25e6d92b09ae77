-- What follows from the order of calls, and how it grows.
use Rattle.std.specs.List.{flat_map}
use Rattle.std.proofs.Common.{◌≡◌, ℕ, false, List, [], ◌∷◌, ◌++◌, drop, Option, Some, None, refl, sym, ap, ◌∙◌, subst, append-nil, append_assoc}
use Rattle.std.proofs.lemmas.Grind.{flat_map-append}
use Rattle.rate_io.specs.Events.{Event, gave, ended, read_failed, wrote, write_failed, flushed, flush_failed, told, given, has_write_failed, pieces_written}
use Rattle.http_front.specs.Front.{IsFront, used_of}
use Rattle.http_endpoint.specs.Answers.{Asked, check, statistics, Turn, turn_bytes}
use Rattle.http_endpoint.specs.Order.{ReadsOn, told_for, OffersWithin}
use Rattle.http_endpoint.proofs.ReadLemmas.{given-append, pieces-append, reads_more}
use Rattle.conn_tasks.specs.Order.{bytes_written, AreWrites, Writes, TaskCalls}

-- ---- writes

pub written-append : (a b : List Event) → bytes_written (a ++ b) ≡ bytes_written a ++ bytes_written b
written-append a b = ap (λ ps. flat_map (λ p. p) ps) (pieces-append a b) ∙ flat_map-append (λ (p : List ℕ). p) (pieces_written a) (pieces_written b)

are-append : (a b : List Event) → AreWrites a → AreWrites b → AreWrites (a ++ b)
are-append [] b x y = y
are-append (e ∷ a) b x y = (x.0, are-append a b x.1 y)

-- writes, and then more
pub writes_more : (xs ys : List ℕ) (a b : List Event) → Writes xs a → Writes ys b → Writes (xs ++ ys) (a ++ b)
writes_more xs ys a b x y = record {
  are = are-append a b x.are y.are;
  bytes_are = written-append a b ∙ (ap (λ (zs : List ℕ). zs ++ bytes_written b) x.bytes_are ∙ ap (λ (zs : List ℕ). xs ++ zs) y.bytes_are);
}

pub one_write : (piece : List ℕ) → Writes piece (wrote piece ∷ [])
one_write piece = record { are = (refl, tt); bytes_are = append-nil piece }

-- they hand out no byte
given_writes : (events : List Event) → AreWrites events → given events ≡ []
given_writes [] x = refl
given_writes (wrote piece ∷ es) x = given_writes es x.1
given_writes (gave xs ∷ es) x = absurd (let not = x.0 in cc)
given_writes (ended ∷ es) x = absurd (let not = x.0 in cc)
given_writes (read_failed ∷ es) x = absurd (let not = x.0 in cc)
given_writes (write_failed piece ∷ es) x = absurd (let not = x.0 in cc)
given_writes (flushed ∷ es) x = absurd (let not = x.0 in cc)
given_writes (flush_failed ∷ es) x = absurd (let not = x.0 in cc)
given_writes (told now ∷ es) x = absurd (let not = x.0 in cc)

-- and none failed
unfailed_writes : (events : List Event) → AreWrites events → has_write_failed events ≡ false
unfailed_writes [] x = refl
unfailed_writes (wrote piece ∷ es) x = unfailed_writes es x.1
unfailed_writes (gave xs ∷ es) x = absurd (let not = x.0 in cc)
unfailed_writes (ended ∷ es) x = absurd (let not = x.0 in cc)
unfailed_writes (read_failed ∷ es) x = absurd (let not = x.0 in cc)
unfailed_writes (write_failed piece ∷ es) x = absurd (let not = x.0 in cc)
unfailed_writes (flushed ∷ es) x = absurd (let not = x.0 in cc)
unfailed_writes (flush_failed ∷ es) x = absurd (let not = x.0 in cc)
unfailed_writes (told now ∷ es) x = absurd (let not = x.0 in cc)

-- what the clock told, and then other calls
given_told : (asked : Option Asked) (es : List Event) → given (told_for asked ++ es) ≡ given es
given_told None es = refl
given_told (Some (check c)) es = refl
given_told (Some (statistics text)) es = refl

written_told : (asked : Option Asked) (es : List Event) → bytes_written (told_for asked ++ es) ≡ bytes_written es
written_told None es = refl
written_told (Some (check c)) es = refl
written_told (Some (statistics text)) es = refl

failed_told : (asked : Option Asked) (es : List Event) → has_write_failed (told_for asked ++ es) ≡ has_write_failed es
failed_told None es = refl
failed_told (Some (check c)) es = refl
failed_told (Some (statistics text)) es = refl

pub given_sent : (asked : Option Asked) (bytes : List ℕ) (es : List Event) → Writes bytes es → given (told_for asked ++ es) ≡ []
given_sent asked bytes es w = given_told asked es ∙ given_writes es w.are

pub written_sent : (asked : Option Asked) (bytes : List ℕ) (es : List Event) → Writes bytes es → bytes_written (told_for asked ++ es) ≡ bytes
written_sent asked bytes es w = written_told asked es ∙ w.bytes_are

pub unfailed_sent : (asked : Option Asked) (bytes : List ℕ) (es : List Event) → Writes bytes es → has_write_failed (told_for asked ++ es) ≡ false
unfailed_sent asked bytes es w = failed_told asked es ∙ unfailed_writes es w.are

-- the same where a last write failed
pub given_up_to : (asked : Option Asked) (bytes piece : List ℕ) (es : List Event) → Writes bytes es → given (told_for asked ++ (es ++ write_failed piece ∷ [])) ≡ []
given_up_to asked bytes piece es w = given_told asked (es ++ write_failed piece ∷ [])
    ∙ (given-append es (write_failed piece ∷ []) ∙ (append-nil (given es) ∙ given_writes es w.are))

pub written_up_to : (asked : Option Asked) (bytes piece : List ℕ) (es : List Event) → Writes bytes es
    → bytes_written (told_for asked ++ (es ++ write_failed piece ∷ [])) ≡ bytes
written_up_to asked bytes piece es w = written_told asked (es ++ write_failed piece ∷ [])
    ∙ (written-append es (write_failed piece ∷ []) ∙ (append-nil (bytes_written es) ∙ w.bytes_are))

-- calls, and then others
pub history_on : (a b c xs ys : List Event) → b ≡ a ++ xs → c ≡ b ++ ys → c ≡ a ++ (xs ++ ys)
history_on a b c xs ys x y = y ∙ (ap (λ (h : List Event). h ++ ys) x ∙ append_assoc a xs ys)

-- ---- the order

behind : (events reads telling writes later tail : List Event) → events ≡ reads ++ (telling ++ (writes ++ later))
    → events ++ tail ≡ reads ++ (telling ++ (writes ++ (later ++ tail)))
behind events reads telling writes later tail is = ap (λ (es : List Event). es ++ tail) is
    ∙ (append_assoc reads (telling ++ (writes ++ later)) tail ∙ ap (λ (es : List Event). reads ++ es) (append_assoc telling (writes ++ later) tail
    ∙ ap (λ (es : List Event). telling ++ es) (append_assoc writes later tail)))

-- more was read
pub calls_grow : (bounds : Option (ℕ × ℕ)) (bytes : List ℕ) (turns : List Turn) (events more : List Event) (rest : List ℕ)
    → TaskCalls bounds bytes turns events rest → ReadsOn rest more → TaskCalls bounds bytes turns (events ++ more) (rest ++ given more)
calls_grow bounds bytes [] events more rest c r = (
  reads_more bytes events more c.0 (subst (λ (bs : List ℕ). ReadsOn bs more) c.1 r),
  ap (λ (bs : List ℕ). bs ++ given more) c.1 ∙ (append_assoc bytes (given events) (given more) ∙ ap (λ (bs : List ℕ). bytes ++ bs) (sym (given-append events more))),
)
calls_grow bounds bytes (t ∷ turns) events more rest c r = (
  c.0,
  c.1,
  c.2 ++ more,
  behind events c.0 (told_for t.asked) c.1 c.2 more c.3,
  c.4,
  c.5,
  c.6,
  c.7,
  calls_grow bounds (drop (used_of t.front) (bytes ++ given c.0)) turns c.2 more rest c.8 r,
)

-- one answer more
pub calls_on : (bounds : Option (ℕ × ℕ)) (bytes : List ℕ) (turns : List Turn) (events writes : List Event) (mid : List ℕ) (t : Turn)
    → TaskCalls bounds bytes turns events mid → IsFront mid t.front → OffersWithin bounds t.asked → Writes (turn_bytes t) writes
    → TaskCalls bounds bytes (turns ++ t ∷ []) (events ++ (told_for t.asked ++ writes)) (drop (used_of t.front) mid)
calls_on bounds bytes [] events writes mid t c front within w = (
  events,
  writes,
  [],
  ap (λ (es : List Event). events ++ (told_for t.asked ++ es)) (sym (append-nil writes)),
  c.0,
  subst (λ (bs : List ℕ). IsFront bs t.front) c.1 front,
  within,
  w,
  (tt, ap (λ (bs : List ℕ). drop (used_of t.front) bs) c.1 ∙ sym (append-nil (drop (used_of t.front) (bytes ++ given events)))),
)
calls_on bounds bytes (s ∷ turns) events writes mid t c front within w = (
  c.0,
  c.1,
  c.2 ++ (told_for t.asked ++ writes),
  behind events c.0 (told_for s.asked) c.1 c.2 (told_for t.asked ++ writes) c.3,
  c.4,
  c.5,
  c.6,
  c.7,
  calls_on bounds (drop (used_of s.front) (bytes ++ given c.0)) turns c.2 writes mid t c.8 front within w,
)
