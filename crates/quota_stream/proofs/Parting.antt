-- The replay of a stream part by part: what one part and then the next take and write.
use Rattle.std.proofs.Common.{◌≡◌, ℕ, suc, ◌+◌, ◌<◌, ◌≤◌, ◌==◌, List, [], ◌∷◌, ◌++◌, length, map, take, drop, Some, None, Result, Ok, Err, IfErr, IsErr, IsErrAnd, true}
use Rattle.std.proofs.Common.{false, refl, sym, ap, subst, ◌∙◌, append_assoc, append-nil, get_or, take-append-drop, arith}
use Rattle.std.specs.List.{slice_split, position, position_or_len}
use Rattle.std.proofs.lemmas.Bool.Decides.{nat_tests}
use Rattle.std.proofs.lemmas.List.{map-append, take_more, take_all, take-take, drop-take, length-take, get_or-take}
use Rattle.std.proofs.lemmas.List.Sums.{fails_before_first, passes_at_first}
use Rattle.std.proofs.lemmas.List.Splits.{slice_split_at, slice_split_none, length-slice_split}
use Rattle.rate_types.specs.declared.limits.TheConstants.{MOST_LINES}
use Rattle.rate_io.specs.Events.{Event, wrote, write_failed, Grew}
use Rattle.text_lines.specs.Lines.{lines_of_parts, cut}
use Rattle.quota_stream.specs.Output.{outputs}
use Rattle.quota_stream.specs.Replays.{IsFront, WrotePart, WroteUpTo}
use Rattle.quota_stream.specs.Progress.{Progress, IsPlain, has_bytes, output_left, lines_with, next_outcome, after_line, Takes, Stops, IsFrontOf}
use Rattle.quota_stream.specs.Progress.{AreTooMany, EndsLine, IsLineFault, IsOneTooMany, StopsLine, Finishes, StopsAtEnd, AreTooManyAtEnd}
use Rattle.quota_stream.specs.declared.replay_fault.ReplayFault.{ReplayFault}
use Rattle.quota_stream.specs.declared.replay_fault.ReplayFault.TheVariants.{Read, Write, TooLong, OutOfMemory}

-- the fault that a call hands on
pub err_same : {T E : Type 0} (r : Result T E) (e : E) → IsErr r × IsErrAnd r (λ f. f ≡ e) → r ≡ Err e
err_same (Ok x) e h = absurd h.1
err_same (Err f) e h = ap (λ g. Err g) h.1

-- what holds of it holds of the answer
pub err_as : {T E : Type 0} (r : Result T E) (e : E) (P : E → Type 0) → IsErr r × IsErrAnd r (λ f. f ≡ e) → P e → IfErr r P
err_as (Ok x) e P h p = tt
err_as (Err f) e P h p = subst P (sym h.1) p

lines_more : (x : List ℕ) (ps : List (List ℕ)) → 0 < length ps → lines_of_parts (x ∷ ps) ≡ x ∷ lines_of_parts ps
lines_more x [] h = absurd (omega arith)
lines_more x (p ∷ ps) h = refl

-- a line and its line feed
pub cut_feed : (line more : List ℕ) → IsPlain line → cut (line ++ 10 ∷ more) ≡ line ∷ cut more
cut_feed line more plain =
    let parts : slice_split (λ b. b == 10) (line ++ 10 ∷ more) ≡ line ∷ slice_split (λ b. b == 10) more =
    slice_split_at (λ b. b == 10) line 10 more plain refl in
    rw parts (lines_more line (slice_split (λ b. b == 10) more) (omega (arith, length-slice_split (λ b. b == 10) more)))

-- a last line without one
pub cut_plain : (line : List ℕ) → IsPlain line → 0 < length line → cut line ≡ line ∷ []
cut_plain [] plain some = absurd (omega arith)
cut_plain (b ∷ bs) plain some = rw (slice_split_none (λ b. b == 10) (b ∷ bs) plain) refl

-- ---- one part and then the next

-- bytes of a line that hasn't ended
pub add_takes : (p q : Progress) (part : List ℕ) → q ≡ record p { pending = p.pending ++ part } → Takes p part q []
add_takes p q part is = record {
  written = [];
  each = refl;
  output = λ more. rw is (ap (λ (b : List ℕ). outputs p.index p.lines p.stream (cut b)) (sym (append_assoc p.pending part more)));
  lines = λ more. rw is (ap (λ (b : List ℕ). p.lines + length (cut b)) (sym (append_assoc p.pending part more)));
}

-- the end of a line
pub line_takes : (p q : Progress) (writes : List Event) → IsPlain p.pending → EndsLine p q writes → Takes p (10 ∷ []) q writes
line_takes p q writes plain ends = record {
  written = (next_outcome p).written;
  each = ends.each;
  output = λ more. rw ends.next (ap (outputs p.index p.lines p.stream) (cut_feed p.pending more plain));
  lines = λ more. rw ends.next (let longer : length (cut (p.pending ++ 10 ∷ more)) ≡ suc (length (cut more)) =
      ap length (cut_feed p.pending more plain) in omega (arith, longer));
}

pub takes_then : (p q r : Progress) (a b : List ℕ) (first second : List Event) → Takes p a q first → Takes q b r second
    → Takes p (a ++ b) r (first ++ second)
takes_then p q r a b first second one two = record {
  written = one.written ++ two.written;
  each = ap (λ (l : List Event). l ++ second) one.each ∙ ap (λ (l : List Event). map wrote one.written ++ l) two.each
      ∙ sym (map-append wrote one.written two.written);
  output = λ more. ap (output_left p) (append_assoc a b more) ∙ one.output (b ++ more)
      ∙ ap (λ (l : List (List ℕ)). one.written ++ l) (two.output more) ∙ sym (append_assoc one.written two.written (output_left r more));
  lines = λ more. ap (lines_with p) (append_assoc a b more) ∙ one.lines (b ++ more) ∙ two.lines more;
}

-- what was written before a fault, and what before it
pub part_then : (fault : ReplayFault) (F G : List (List ℕ) → Type 0) (w : List (List ℕ)) (first second : List Event) → first ≡ map wrote w
    → ((front : List (List ℕ)) → G front → F (w ++ front)) → WrotePart fault G second → WrotePart fault F (first ++ second)
part_then Write F G w first second is so part = (
  w ++ part.0,
  part.1,
  ap (λ (l : List Event). l ++ second) is ∙ ap (λ (l : List Event). map wrote w ++ l) part.2
      ∙ sym (append_assoc (map wrote w) (map wrote part.0) (write_failed part.1 ∷ []))
      ∙ ap (λ (l : List Event). l ++ write_failed part.1 ∷ []) (sym (map-append wrote w part.0)),
  subst F (sym (append_assoc w part.0 (part.1 ∷ []))) (so (part.0 ++ part.1 ∷ []) part.3),
)
part_then Read F G w first second is so part = (
  w ++ part.0,
  ap (λ (l : List Event). l ++ second) is ∙ ap (λ (l : List Event). map wrote w ++ l) part.1 ∙ sym (map-append wrote w part.0),
  so part.0 part.2,
)
part_then (TooLong read) F G w first second is so part = (
  w ++ part.0,
  ap (λ (l : List Event). l ++ second) is ∙ ap (λ (l : List Event). map wrote w ++ l) part.1 ∙ sym (map-append wrote w part.0),
  so part.0 part.2,
)
part_then OutOfMemory F G w first second is so part = (
  w ++ part.0,
  ap (λ (l : List Event). l ++ second) is ∙ ap (λ (l : List Event). map wrote w ++ l) part.1 ∙ sym (map-append wrote w part.0),
  so part.0 part.2,
)

-- the first of what is left is the first of the whole
pub front_then : (w front all whole : List (List ℕ)) → whole ≡ w ++ all → IsFront front all → IsFront (w ++ front) whole
front_then w front all whole is part =
    (part.0, is ∙ ap (λ (l : List (List ℕ)). w ++ l) part.1 ∙ sym (append_assoc w front part.0))

many_then : (p q : Progress) (a b : List ℕ) (events : List Event) (fault : ReplayFault) → Takes p a q events → AreTooMany q b fault → AreTooMany p (a ++ b) fault
many_then p q a b events (TooLong read) one many = (
  many.0,
  λ more. (let same : lines_with p ((a ++ b) ++ more) ≡ lines_with q (b ++ more) = ap (lines_with p) (append_assoc a b more) ∙ one.lines (b ++ more) in
      omega (arith, same, many.1 more)),
)
many_then p q a b events Read one many = many
many_then p q a b events Write one many = tt
many_then p q a b events OutOfMemory one many = tt

pub stops_then : (p q : Progress) (a b : List ℕ) (fault : ReplayFault) (first second : List Event) → Takes p a q first → Stops q b fault second
    → Stops p (a ++ b) fault (first ++ second)
stops_then p q a b fault first second one two = record {
  part = part_then fault (IsFrontOf p (a ++ b)) (IsFrontOf q b) one.written first second one.each
      (λ front is more. front_then one.written front (output_left q (b ++ more)) (output_left p ((a ++ b) ++ more))
      (ap (output_left p) (append_assoc a b more) ∙ one.output (b ++ more)) (is more)) two.part;
  many = many_then p q a b first fault one two.many;
}

-- another kind of lines before a fault
pub part_as : (fault : ReplayFault) (F G : List (List ℕ) → Type 0) (writes : List Event) → ((front : List (List ℕ)) → G front → F front)
    → WrotePart fault G writes → WrotePart fault F writes
part_as Write F G writes so part = (part.0, part.1, part.2, so (part.0 ++ part.1 ∷ []) part.3)
part_as Read F G writes so part = (part.0, part.1, so part.0 part.2)
part_as (TooLong read) F G writes so part = (part.0, part.1, so part.0 part.2)
part_as OutOfMemory F G writes so part = (part.0, part.1, so part.0 part.2)

many_line : (p : Progress) (rest : List ℕ) (fault : ReplayFault) → IsPlain p.pending → IsOneTooMany p fault → AreTooMany p (10 ∷ rest) fault
many_line p rest (TooLong read) plain many = (
  many.0,
  λ more. (let longer : length (cut (p.pending ++ 10 ∷ (rest ++ more))) ≡ suc (length (cut (rest ++ more))) =
      ap length (cut_feed p.pending (rest ++ more) plain) in omega (arith, longer, many.1)),
)
many_line p rest Read plain many = many
many_line p rest Write plain many = tt
many_line p rest OutOfMemory plain many = tt

-- a fault while a line ends, whatever stands behind it
pub line_stops : (p : Progress) (rest : List ℕ) (fault : ReplayFault) (writes : List Event) → IsPlain p.pending → StopsLine p fault writes
    → Stops p (10 ∷ rest) fault writes
line_stops p rest fault writes plain stops = record {
  part = part_as fault (IsFrontOf p (10 ∷ rest)) (λ front. IsFront front (next_outcome p).written) writes
      (λ front is more. (
        is.0 ++ output_left (after_line p) (rest ++ more),
        ap (outputs p.index p.lines p.stream) (cut_feed p.pending (rest ++ more) plain)
            ∙ ap (λ (l : List (List ℕ)). l ++ output_left (after_line p) (rest ++ more)) is.1
            ∙ append_assoc front is.0 (output_left (after_line p) (rest ++ more)),
      )) stops.part;
  many = many_line p rest fault plain stops.many;
}

-- want of memory, before anything was written
pub no_memory : (p : Progress) (bytes : List ℕ) → Stops p bytes OutOfMemory []
no_memory p bytes = record { part = ([], refl, λ more. (output_left p (bytes ++ more), refl)); many = tt }

-- a list at one of its places
pub cut_list : {X : Type 0} (xs : List X) (i : ℕ) (d : X) → i < length xs → xs ≡ take i xs ++ get_or xs i d ∷ drop (i + 1) xs
cut_list xs i d h = sym (take-append-drop (i + 1) xs) ∙ ap (λ l. l ++ drop (i + 1) xs) (take_more xs i d h) ∙ append_assoc (take i xs) (get_or xs i d ∷ []) (drop (i + 1) xs)

-- ---- the bytes up to the first line feed

-- no line feed is among bytes without one
pub none_plain : (bytes : List ℕ) → position (λ b. b == 10) bytes ≡ None → IsPlain bytes
none_plain bytes none = λ k d lt. fails_before_first (λ b. b == 10) bytes k d (let long : length bytes ≤ position_or_len (λ b. b == 10) bytes = grind (arith, nat_tests) in
    omega (arith, lt, long))

feed_at : (bytes : List ℕ) (at : ℕ) → position (λ b. b == 10) bytes ≡ Some at → (at ≡ position_or_len (λ b. b == 10) bytes) × (at < length bytes)
feed_at bytes at is = grind (arith, nat_tests)

-- nor among those before the first
pub front_plain : (bytes : List ℕ) (at : ℕ) → position (λ b. b == 10) bytes ≡ Some at → IsPlain (take at bytes)
front_plain bytes at is = λ k d lt.
    let here = feed_at bytes at is in
    let below : k < at = omega (arith, lt, length-take at bytes) in
    rw (get_or-take at bytes k d below) (fails_before_first (λ b. b == 10) bytes k d (omega (arith, below, here.0)))

feed_is : (bytes : List ℕ) (at : ℕ) → position (λ b. b == 10) bytes ≡ Some at → get_or bytes at 0 ≡ 10
feed_is bytes at is =
    let here = feed_at bytes at is in
    let passes : (get_or bytes (position_or_len (λ b. b == 10) bytes) 0 == 10) ≡ true = passes_at_first (λ b. b == 10) bytes 0 (omega (arith, here.0, here.1)) in
    let same : (get_or bytes at 0 == 10) ≡ true = subst (λ (n : ℕ). (get_or bytes n 0 == 10) ≡ true) (sym here.0) passes in
    grind (arith, nat_tests)

pub with_feed : (bytes : List ℕ) (at : ℕ) → position (λ b. b == 10) bytes ≡ Some at → take (at + 1) bytes ≡ take at bytes ++ 10 ∷ []
with_feed bytes at is = take_more bytes at 0 (feed_at bytes at is).1 ∙ ap (λ (b : ℕ). take at bytes ++ b ∷ []) (feed_is bytes at is)

pub around_feed : (bytes : List ℕ) (at : ℕ) → position (λ b. b == 10) bytes ≡ Some at → bytes ≡ take at bytes ++ 10 ∷ drop (at + 1) bytes
around_feed bytes at is = cut_list bytes at 0 (feed_at bytes at is).1 ∙ ap (λ (b : ℕ). take at bytes ++ b ∷ drop (at + 1) bytes) (feed_is bytes at is)

-- all bytes, where there is none
pub all_added : (p q : Progress) (bytes : List ℕ) → q ≡ record p { pending = p.pending ++ bytes } → Takes p (take (length bytes) bytes) q []
all_added p q bytes is = subst (λ (b : List ℕ). Takes p b q []) (sym (take_all (length bytes) bytes (omega arith))) (add_takes p q bytes is)

-- the line that ends there
pub line_added : (p q r : Progress) (bytes : List ℕ) (at : ℕ) (writes : List Event) → position (λ b. b == 10) bytes ≡ Some at
    → q ≡ record p { pending = p.pending ++ take at bytes } → IsPlain q.pending → EndsLine q r writes → Takes p (take (at + 1) bytes) r writes
line_added p q r bytes at writes feed is plain ends =
    subst (λ (b : List ℕ). Takes p b r writes) (sym (with_feed bytes at feed))
    (takes_then p q r (take at bytes) (10 ∷ []) [] writes (add_takes p q (take at bytes) is) (line_takes q r writes plain ends))

pub line_not_added : (p q : Progress) (bytes : List ℕ) (at : ℕ) (fault : ReplayFault) (writes : List Event) → position (λ b. b == 10) bytes ≡ Some at
    → q ≡ record p { pending = p.pending ++ take at bytes } → IsPlain q.pending → StopsLine q fault writes → Stops p bytes fault writes
line_not_added p q bytes at fault writes feed is plain stops =
    subst (λ (b : List ℕ). Stops p b fault writes) (sym (around_feed bytes at feed))
    (stops_then p q (take at bytes) (10 ∷ drop (at + 1) bytes) fault [] writes (add_takes p q (take at bytes) is)
    (line_stops q (drop (at + 1) bytes) fault writes plain stops))

-- ---- what ends a line

pub line_fault : (p : Progress) (fault : ReplayFault) → IsLineFault p fault → StopsLine p fault []
line_fault p (TooLong read) is = record { part = ([], refl, ((next_outcome p).written, refl)); many = is }
line_fault p OutOfMemory is = record { part = ([], refl, ((next_outcome p).written, refl)); many = tt }
line_fault p Read is = absurd is
line_fault p Write is = absurd is

pub line_unwritten : (p : Progress) (lines : List (List ℕ)) (writes : List Event) → lines ≡ (next_outcome p).written → WroteUpTo lines writes
    → StopsLine p Write writes
line_unwritten p lines writes is up_to = record {
  part = (up_to.front, up_to.piece, up_to.each, (up_to.rest, sym is ∙ up_to.all ∙ sym (append_assoc up_to.front (up_to.piece ∷ []) up_to.rest)));
  many = tt;
}

pub no_write_fault : (p : Progress) (fault : ReplayFault) → IsLineFault p fault → fault ≡ Write → ⊥
no_write_fault p (TooLong read) is e = absurd (cc)
no_write_fault p OutOfMemory is e = absurd (cc)
no_write_fault p Read is e = is
no_write_fault p Write is e = is

-- ---- a slice

pub take_then : {X : Type 0} (at n : ℕ) (xs : List X) → take (at + n) xs ≡ take at xs ++ take n (drop at xs)
take_then at n xs =
    sym (take-append-drop at (take (at + n) xs)) ∙ ap (λ l. l ++ drop at (take (at + n) xs)) (take-take at (at + n) xs (omega arith))
    ∙ ap (λ l. take at xs ++ l) (drop-take at n xs)

-- ---- the end

pub last_line : (p q : Progress) (writes : List Event) → IsPlain p.pending → 0 < length p.pending → EndsLine p q writes → Finishes p writes
last_line p q writes plain some ends =
    let one : cut (p.pending ++ []) ≡ p.pending ∷ [] = ap cut (append-nil p.pending) ∙ cut_plain p.pending plain some in
    record {
      each = ends.each ∙ ap (map wrote) (sym (ap (outputs p.index p.lines p.stream) one ∙ append-nil (next_outcome p).written));
      few = let count : length (cut (p.pending ++ [])) ≡ 1 = ap length one in
          let lines : q.lines ≡ p.lines + 1 = ap (λ (x : Progress). x.lines) ends.next in omega (arith, count, lines, ends.few);
    }

many_end : (p : Progress) (fault : ReplayFault) → cut (p.pending ++ []) ≡ p.pending ∷ [] → IsOneTooMany p fault → AreTooManyAtEnd p fault
many_end p (TooLong read) one many = (many.0, (let count : length (cut (p.pending ++ [])) ≡ 1 = ap length one in omega (arith, count, many.1)))
many_end p Read one many = many
many_end p Write one many = tt
many_end p OutOfMemory one many = tt

pub last_line_stops : (p : Progress) (fault : ReplayFault) (writes : List Event) → IsPlain p.pending → 0 < length p.pending → StopsLine p fault writes
    → StopsAtEnd p fault writes
last_line_stops p fault writes plain some stops =
    let one : cut (p.pending ++ []) ≡ p.pending ∷ [] = ap cut (append-nil p.pending) ∙ cut_plain p.pending plain some in
    record {
      part = part_as fault (λ front. IsFront front (output_left p [])) (λ front. IsFront front (next_outcome p).written) writes
          (λ front is. (is.0, ap (outputs p.index p.lines p.stream) one ∙ append-nil (next_outcome p).written ∙ is.1)) stops.part;
      many = many_end p fault one stops.many;
    }

pub no_line : (p : Progress) → p.pending ≡ [] → p.lines ≤ MOST_LINES → Finishes p []
no_line p none few = record { each = rw none refl; few = rw none (omega (arith, few)) }

-- ---- histories

pub grew_then : {E : Type 0} (a b c : List E) (P Q R : List E → Type 0) → Grew a b P → Grew b c Q → ((x y : List E) → P x → Q y → R (x ++ y)) → Grew a c R
grew_then a b c P Q R one two so = record {
  events = one.events ++ two.events;
  grew = two.grew ∙ ap (λ l. l ++ two.events) one.grew ∙ append_assoc a one.events two.events;
  are = so one.events two.events one.are two.are;
}

pub grew_none : {E : Type 0} (a : List E) (P : List E → Type 0) → P [] → Grew a a P
grew_none a P p = record { events = []; grew = sym (append-nil a); are = p }

pub grew_as : {E : Type 0} (a b : List E) (P Q : List E → Type 0) → Grew a b P → ((x : List E) → P x → Q x) → Grew a b Q
grew_as a b P Q one so = record { events = one.events; grew = one.grew; are = so one.events one.are }

-- ---- what the code calls

bytes_none : (b : List ℕ) → has_bytes b ≡ false → b ≡ []
bytes_none [] is = refl
bytes_none (b ∷ bs) is = absurd (cc)

pub bytes_some : (b : List ℕ) → has_bytes b ≡ true → 0 < length b
bytes_some [] is = absurd (cc)
bytes_some (b ∷ bs) is = omega arith

-- no line has begun
pub nothing_pending : (p : Progress) → has_bytes p.pending ≡ false → p.lines ≤ MOST_LINES → Finishes p []
nothing_pending p is few = no_line p (bytes_none p.pending is) few

-- no bytes
pub takes_none : (p : Progress) → Takes p [] p []
takes_none p = record { written = []; each = refl; output = λ more. refl; lines = λ more. refl }

-- want of memory under another name
pub no_memory_as : (p : Progress) (bytes : List ℕ) (fault : ReplayFault) → fault ≡ OutOfMemory → Stops p bytes fault []
no_memory_as p bytes fault is = subst (λ (f : ReplayFault). Stops p bytes f []) (sym is) (no_memory p bytes)
