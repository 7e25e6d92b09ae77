-- A whole replay: from what its parts take and write to what it answers.
use Rattle.std.proofs.Common.{◌≡◌, ℕ, ◌+◌, ◌<◌, ◌≤◌, ◌==◌, ◌&&◌, nat_lt, Bool, true, false, List, [], ◌∷◌, ◌++◌, length, map, take, Ok, Err, refl, sym, ap, subst, ◌∙◌}
use Rattle.std.proofs.Common.{append-nil, inl, inr, arith, if◌then◌else◌, ◌||◌}
use Rattle.std.proofs.lemmas.Bool.Decides.{nat_tests}
use Rattle.std.proofs.lemmas.Grind.{flat_map-append}
use Rattle.std.proofs.lemmas.List.{length-append, map-append}
use Rattle.std.proofs.lemmas.List.Folds.{list_any-append}
use Rattle.rate_types.specs.declared.limits.TheConstants.{MOST_BYTES}
use Rattle.rate_io.specs.Events.{Event, gave, ended, read_failed, wrote, bytes_given, given, has_ended, is_ended, has_failed, is_read_failed}
use Rattle.quota_settings.specs.Covering.{AllSettings}
use Rattle.quota_buckets.specs.Streams.{new_stream}
use Rattle.text_lines.specs.Lines.{cut}
use Rattle.quota_stream.specs.Output.{quota_output}
use Rattle.quota_stream.specs.Replays.{IsFront, HasStopCause, IsReplay}
use Rattle.quota_stream.specs.Progress.{Progress, output_left, lines_with, Takes, Stops, IsFrontOf, AreTooMany, Finishes, StopsAtEnd, AreTooManyAtEnd}
use Rattle.quota_stream.specs.declared.replay_fault.ReplayFault.{ReplayFault}
use Rattle.quota_stream.specs.declared.replay_fault.ReplayFault.TheVariants.{Read, Write, TooLong, OutOfMemory}
use Rattle.quota_stream.proofs.Parting.{takes_then, stops_then, part_as, part_then, front_then}

-- before the first byte
abbrev pub begun : AllSettings → ℕ → Progress
begun settings index = record { index = index; lines = 0; stream = new_stream settings; pending = [] }

-- how far a replay has come: what was read and counted, and what of it was taken
pub record HasCome (start q : Progress) (count : ℕ) (reads writes : List Event) : Type 0 where
  pub taken : List ℕ
  pub over : List ℕ
  pub bytes : given reads ≡ taken ++ over
  pub counted : count ≡ length (given reads)
  pub all : count ≤ MOST_BYTES → over ≡ []
  pub takes : Takes start taken q writes

pub comes_first : (p : Progress) → HasCome p p 0 [] []
comes_first p = record {
  taken = [];
  over = [];
  bytes = refl;
  counted = refl;
  all = λ few. refl;
  takes = record { written = []; each = refl; output = λ more. refl; lines = λ more. refl };
}

-- ---- one more read

given_more : (reads : List Event) (bytes : List ℕ) → given (reads ++ gave bytes ∷ []) ≡ given reads ++ bytes
given_more reads bytes = flat_map-append bytes_given reads (gave bytes ∷ []) ∙ ap (λ (l : List ℕ). given reads ++ l) (append-nil bytes)

given_ended : (reads : List Event) → given (reads ++ ended ∷ []) ≡ given reads
given_ended reads = flat_map-append bytes_given reads (ended ∷ []) ∙ append-nil (given reads)

given_failed : (reads : List Event) → given (reads ++ read_failed ∷ []) ≡ given reads
given_failed reads = flat_map-append bytes_given reads (read_failed ∷ []) ∙ append-nil (given reads)

or_last : (b : Bool) → (b || true) ≡ true
or_last true = refl
or_last false = refl

has_ended_last : (reads : List Event) → has_ended (reads ++ ended ∷ []) ≡ true
has_ended_last reads = list_any-append is_ended reads (ended ∷ []) ∙ or_last (has_ended reads)

has_failed_last : (reads : List Event) → has_failed (reads ++ read_failed ∷ []) ≡ true
has_failed_last reads = list_any-append is_read_failed reads (read_failed ∷ []) ∙ or_last (has_failed reads)

-- the event of a read that answered no byte, and of one that answered some
pub event_of_end : (read : ℕ) (room : List ℕ) → read ≡ 0 → 0 < length room
    → (if (read == 0) && nat_lt 0 (length room) then ended else gave (take read room)) ≡ ended
event_of_end read room none some = by ((read == 0) && nat_lt 0 (length room)) (grind (arith, nat_tests))
  where
    by : (b : Bool) → b ≡ true → (if b then ended else gave (take read room)) ≡ ended
    by true is = refl
    by false is = absurd (cc)

pub event_of_bytes : (read : ℕ) (room : List ℕ) → (read ≡ 0 → ⊥)
    → (if (read == 0) && nat_lt 0 (length room) then ended else gave (take read room)) ≡ gave (take read room)
event_of_bytes read room some = by ((read == 0) && nat_lt 0 (length room)) (grind (arith, nat_tests))
  where
    by : (b : Bool) → b ≡ false → (if b then ended else gave (take read room)) ≡ gave (take read room)
    by false is = refl
    by true is = absurd (cc)

module _ (start q : Progress) (count : ℕ) (reads writes : List Event) (so_far : HasCome start q count reads writes) (few : count ≤ MOST_BYTES) where
  taken_all : given reads ≡ so_far.taken
  taken_all = so_far.bytes ∙ ap (λ (l : List ℕ). so_far.taken ++ l) (so_far.all few) ∙ append-nil so_far.taken

  counts : (chunk : List ℕ) (next : ℕ) → next ≡ count + length chunk → next ≡ length (given (reads ++ gave chunk ∷ []))
  counts chunk next is = let long : length (given (reads ++ gave chunk ∷ [])) ≡ length (given reads ++ chunk) = ap length (given_more reads chunk) in
      omega (arith, is, so_far.counted, long, length-append (given reads) chunk)

  -- its bytes were taken
  pub comes_on : (r : Progress) (chunk : List ℕ) (next : ℕ) (more : List Event) → next ≡ count + length chunk → Takes q chunk r more
      → HasCome start r next (reads ++ gave chunk ∷ []) (writes ++ more)
  comes_on r chunk next more is takes = record {
    taken = so_far.taken ++ chunk;
    over = [];
    bytes = given_more reads chunk ∙ ap (λ (l : List ℕ). l ++ chunk) taken_all ∙ sym (append-nil (so_far.taken ++ chunk));
    counted = counts chunk next is;
    all = λ still. refl;
    takes = takes_then start q r so_far.taken chunk writes more so_far.takes takes;
  }

  -- it is too much
  pub comes_over : (chunk : List ℕ) (next : ℕ) → next ≡ count + length chunk → MOST_BYTES < next
      → HasCome start q next (reads ++ gave chunk ∷ []) writes
  comes_over chunk next is many = record {
    taken = so_far.taken;
    over = chunk;
    bytes = given_more reads chunk ∙ ap (λ (l : List ℕ). l ++ chunk) taken_all;
    counted = counts chunk next is;
    all = λ still. absurd (omega (arith, many, still));
    takes = so_far.takes;
  }

-- ---- how it ends

-- a fault before anything was read
pub replay_no_memory : (settings : AllSettings) (index : ℕ) → IsReplay settings index (Err OutOfMemory) [] []
replay_no_memory settings index = (tt, ([], refl, (quota_output settings index [], refl)))

module _ (settings : AllSettings) (index : ℕ) (q : Progress) (count : ℕ) (reads writes : List Event)
    (so_far : HasCome (begun settings index) q count reads writes) where
  -- what was written are the first lines of the output of what was read
  front : IsFront so_far.takes.written (quota_output settings index (given reads))
  front = (output_left q so_far.over, ap (quota_output settings index) so_far.bytes ∙ so_far.takes.output so_far.over)

  -- more than 67,108,864 bytes
  pub replay_too_long : MOST_BYTES < count → IsReplay settings index (Err (TooLong count)) reads writes
  replay_too_long many = (
    inl (omega (arith, many, so_far.counted), so_far.counted),
    (so_far.takes.written, so_far.takes.each, front),
  )

  pub replay_unread : IsReplay settings index (Err Read) (reads ++ read_failed ∷ []) writes
  replay_unread = (
    has_failed_last reads,
    (
      so_far.takes.written,
      so_far.takes.each,
      subst (λ (bytes : List ℕ). IsFront so_far.takes.written (quota_output settings index bytes)) (sym (given_failed reads)) front,
    ),
  )

  module _ (few : count ≤ MOST_BYTES) where
    all_bytes : given (reads ++ ended ∷ []) ≡ so_far.taken
    all_bytes = given_ended reads ∙ so_far.bytes ∙ ap (λ (l : List ℕ). so_far.taken ++ l) (so_far.all few) ∙ append-nil so_far.taken

    output_is : quota_output settings index (given (reads ++ ended ∷ [])) ≡ so_far.takes.written ++ output_left q []
    output_is = ap (quota_output settings index) (all_bytes ∙ sym (append-nil so_far.taken)) ∙ so_far.takes.output []

    lines_are : length (cut (given (reads ++ ended ∷ []))) ≡ lines_with q []
    lines_are =
        let whole : length (cut (given (reads ++ ended ∷ []))) ≡ length (cut (so_far.taken ++ [])) =
        ap (λ (l : List ℕ). length (cut l)) (all_bytes ∙ sym (append-nil so_far.taken)) in
        let lines = so_far.takes.lines [] in
        omega (arith, whole, lines)

    few_bytes : length (given (reads ++ ended ∷ [])) ≤ MOST_BYTES
    few_bytes = let same : length (given (reads ++ ended ∷ [])) ≡ length (given reads) = ap length (given_ended reads) in omega (arith, same, so_far.counted, few)

    pub replay_done : (last : List Event) → Finishes q last → IsReplay settings index (Ok tt) (reads ++ ended ∷ []) (writes ++ last)
    replay_done last ends = (
      ap (λ (l : List Event). l ++ last) so_far.takes.each ∙ ap (λ (l : List Event). map wrote so_far.takes.written ++ l) ends.each
          ∙ sym (map-append wrote so_far.takes.written (output_left q [])) ∙ ap (map wrote) (sym output_is),
      has_ended_last reads,
      record { few_bytes = few_bytes; few_lines = omega (arith, lines_are, ends.few) },
    )

    cause_at_end : (fault : ReplayFault) → AreTooManyAtEnd q fault → HasStopCause fault (reads ++ ended ∷ [])
    cause_at_end Read many = absurd many
    cause_at_end Write many = tt
    cause_at_end (TooLong read) many = inr (few_bytes, many.0, omega (arith, many.1, lines_are))
    cause_at_end OutOfMemory many = tt

    pub replay_stopped_at_end : (fault : ReplayFault) (last : List Event) → StopsAtEnd q fault last
        → IsReplay settings index (Err fault) (reads ++ ended ∷ []) (writes ++ last)
    replay_stopped_at_end fault last stops = (
      cause_at_end fault stops.many,
      part_then fault (λ l. IsFront l (quota_output settings index (given (reads ++ ended ∷ [])))) (λ l. IsFront l (output_left q []))
          so_far.takes.written writes last so_far.takes.each
          (λ l is. front_then so_far.takes.written l (output_left q []) (quota_output settings index (given (reads ++ ended ∷ []))) output_is is) stops.part,
    )

    -- while these bytes were taken
    module _ (chunk : List ℕ) (still : count + length chunk ≤ MOST_BYTES) where
      chunk_bytes : given (reads ++ gave chunk ∷ []) ≡ (so_far.taken ++ chunk) ++ []
      chunk_bytes = given_more reads chunk
          ∙ ap (λ (l : List ℕ). l ++ chunk) (so_far.bytes ∙ ap (λ (l : List ℕ). so_far.taken ++ l) (so_far.all few) ∙ append-nil so_far.taken)
          ∙ sym (append-nil (so_far.taken ++ chunk))

      cause_on_the_way : (fault : ReplayFault) → AreTooMany (begun settings index) (so_far.taken ++ chunk) fault → HasStopCause fault (reads ++ gave chunk ∷ [])
      cause_on_the_way Read many = absurd many
      cause_on_the_way Write many = tt
      cause_on_the_way (TooLong read) many =
          let long : length (given (reads ++ gave chunk ∷ [])) ≡ length (given reads ++ chunk) = ap length (given_more reads chunk) in
          let lines : length (cut (given (reads ++ gave chunk ∷ []))) ≡ length (cut ((so_far.taken ++ chunk) ++ [])) =
          ap (λ (l : List ℕ). length (cut l)) chunk_bytes in
          inr (omega (arith, long, length-append (given reads) chunk, so_far.counted, still), many.0, omega (arith, many.1 [], lines))
      cause_on_the_way OutOfMemory many = tt

      pub replay_stopped : (fault : ReplayFault) (last : List Event) → Stops q chunk fault last
          → IsReplay settings index (Err fault) (reads ++ gave chunk ∷ []) (writes ++ last)
      replay_stopped fault last stops =
          let whole : Stops (begun settings index) (so_far.taken ++ chunk) fault (writes ++ last) =
          stops_then (begun settings index) q so_far.taken chunk fault writes last so_far.takes stops in (
            cause_on_the_way fault whole.many,
            part_as fault (λ l. IsFront l (quota_output settings index (given (reads ++ gave chunk ∷ [])))) (IsFrontOf (begun settings index) (so_far.taken ++ chunk))
                (writes ++ last)
                (λ l is. subst (λ (bytes : List ℕ). IsFront l (quota_output settings index bytes)) (sym chunk_bytes) (is [])) whole.part,
          )
