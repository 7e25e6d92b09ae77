-- What the parts of a line's outcome share.
use Rattle.std.proofs.Common.{◌≡◌, ℕ, ◌<◌, Bool, true, false, List, [], ◌∷◌, ◌++◌, map, Option, Some, None, option_map, Result, Ok, Err, OnOk, nat_lt, refl, sym, ap, ◌∙◌}
use Rattle.std.proofs.Common.{append_assoc, arith, if◌then◌else◌}
use Rattle.std.specs.List.{concat, flat_map}
use Rattle.std.proofs.lemmas.Bool.Decides.{nat_tests}
use Rattle.quota_settings.specs.Covering.{OneSettings, covering, id_of}
use Rattle.quota_settings.specs.declared.pair.Pair.{Pair}
use Rattle.quota_bucket.specs.declared.rules.BucketRules.{BucketRules}
use Rattle.quota_buckets.specs.Streams.{Stream, requested, asked_by, asked_named, answer}
use Rattle.quota_buckets.specs.declared.answers.AdvanceFault.{AdvanceFault}
use Rattle.quota_buckets.specs.declared.answers.AdvanceFault.TheVariants.{TimeBack, OutOfMemory}
use Rattle.quota_buckets.specs.declared.phase.Phase.{Phase}
use Rattle.quota_buckets.specs.declared.phase.Phase.TheVariants.{None as NoPhase, NoAssignment, Live, Expired}
use Rattle.quota_lines.specs.declared.stream_line.StreamLine.{StreamLine}
use Rattle.quota_stream.specs.Outcomes.{Outcome, in_time, accepted, refused_as, abandonment_answer, time_back_text}
use Rattle.quota_stream.specs.Texts.{time_back_line}
use Rattle.quota_stream.specs.declared.line_number.LineNumber.{LineNumber}
use Rattle.quota_stream.specs.declared.action_answer.ActionAnswer.TheVariants.{Abandoned}

-- a request leaves the settings
asked_settings : (id : List Pair) (rules : BucketRules) (s : Stream) (o : Option Bool) → (asked_named id rules s o).settings ≡ s.settings
asked_settings id rules s None = refl
asked_settings id rules s (Some allowed) = refl

by_settings : (attributes : List Pair) (s : Stream) (o : Option OneSettings) → (asked_by attributes s o).settings ≡ s.settings
by_settings attributes s None = refl
by_settings attributes s (Some settings) =
    asked_settings (id_of settings attributes) settings.rules s (answer (id_of settings attributes) s)

pub requested_settings : (attributes : List Pair) (s : Stream) → (requested attributes s).settings ≡ s.settings
requested_settings attributes s = by_settings attributes s (covering s.settings attributes)

-- a bucket that is there is abandoned
pub abandoned_answer : (phase : Phase) → (phase ≡ NoPhase → ⊥) → abandonment_answer phase ≡ Abandoned
abandoned_answer NoPhase there = absurd (there refl)
abandoned_answer NoAssignment there = refl
abandoned_answer (Live strategy effect) there = refl
abandoned_answer (Expired strategy effect) there = refl

chosen : (b : Bool) (x y : Outcome) → b ≡ false → (if b then x else y) ≡ y
chosen true x y is = absurd (cc)
chosen false x y is = refl

chosen_back : (b : Bool) (x y : Outcome) → b ≡ true → (if b then x else y) ≡ x
chosen_back true x y is = refl
chosen_back false x y is = absurd (cc)

-- a line whose moment isn't before the last one
pub accepted_in_time : (n : LineNumber) (line : StreamLine) (s : Stream) → (line.at < s.time → ⊥) → in_time n line s ≡ accepted n line s
accepted_in_time n line s later = chosen (nat_lt line.at s.time) _ _ (grind (arith, nat_tests))

-- and one whose moment is
pub refused_in_time : (n : LineNumber) (line : StreamLine) (s : Stream) → line.at < s.time
    → in_time n line s ≡ refused_as (time_back_line n s.time) s
refused_in_time n line s back = chosen_back (nat_lt line.at s.time) _ _ (grind (arith, nat_tests))

-- the outcome of a line that time goes back to, by the answer of the advance
pub not_in_time : (n : LineNumber) (line : StreamLine) (s : Stream) (fault : AdvanceFault) (old new : List ℕ)
    → ((last : ℕ) → fault ≡ TimeBack last → (line.at < s.time) × (last ≡ s.time))
    → Some new ≡ option_map (λ text. old ++ text) (time_back_text n fault)
    → (in_time n line s ≡ refused_as (time_back_line n s.time) s) × (new ≡ old ++ time_back_line n s.time)
not_in_time n line s (TimeBack last) old new back is =
    let at = back last refl in
    let text : new ≡ old ++ time_back_line n last = cc in
    (refused_in_time n line s at.0, rw at.1 at text)
not_in_time n line s OutOfMemory old new back is = absurd (cc)

-- the lines of reports, and others behind them
pub texts_behind : {X : Type 0} (f : X → List ℕ) (xs : List X) (lines : List (List ℕ)) → concat (map f xs ++ lines) ≡ flat_map f xs ++ concat lines
texts_behind f [] lines = refl
texts_behind f (x ∷ xs) lines = ap (λ (l : List ℕ). f x ++ l) (texts_behind f xs lines) ∙ sym (append_assoc (f x) (flat_map f xs) (concat lines))

pub on_ok : {T E : Type 0} (r : Result T E) (P Q : Type 0) → OnOk r P → (P → Q) → OnOk r Q
on_ok (Ok x) P Q h f = f h
on_ok (Err e) P Q h f = tt
