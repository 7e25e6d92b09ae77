-- Tasks side by side: what a change of one of them leaves, and the answers of them all.
use Rattle.std.proofs.Common.{◌≡◌, ◌≢◌, ℕ, ◌+◌, ◌-◌, ◌<◌, Some, slice_get, if◌then◌else◌, ◌≤◌, ◌⊎◌, inl, inr, Bool, true, false, List, [], ◌∷◌, ◌++◌, length, take}
use Rattle.std.proofs.Common.{drop, get_or, refl, sym, subst, ◌∙◌, add-one, drop-cons, arith, nat_eq}
use Rattle.std.proofs.Math.ListN.{set}
use Rattle.std.proofs.lemmas.List.{get_or-set_same, get_or-set_other, get_or-take, get_or_default, length-append, length-take, drop_all}
use Rattle.std.proofs.Math.ListN.{get_or-append}
use Rattle.std.proofs.Math.Seq.{get_or-append_seam}
use Rattle.std.proofs.lemmas.Bool.Decides.{nat_tests}
use Rattle.quota_settings.specs.Covering.{AllSettings}
use Rattle.rate_types.specs.declared.limits.TheConstants.{MOST_LINES}
use Rattle.quota_stream.specs.Tasks.{Task, GoesOn, Stands, IsShort, IsFaultOf, texts_from, output_text}
use Rattle.quota_stream.specs.declared.replay_fault.ReplayFault.{ReplayFault}
use Rattle.quota_stream.specs.declared.replay_fault.ReplayFault.TheVariants.{Read, Write, TooLong, OutOfMemory}
use Rattle.quota_stream.specs.Runs.{StandEach, IsFaultOfOne}

-- each task stands for what it stood for
abbrev pub AllGoOn : List Task → List Task → Type 0
AllGoOn old new = (k : ℕ) (d : Task) → k < length old → GoesOn (get_or old k d) (get_or new k d)

-- one place or another
same_place : (k i : ℕ) → (k ≡ i) ⊎ (k ≢ i)
same_place k i = by (nat_eq k i) refl
  where
    by : (b : Bool) → nat_eq k i ≡ b → (k ≡ i) ⊎ (k ≢ i)
    by true is = inl (grind (arith, nat_tests))
    by false is = inr (λ e. grind (arith, nat_tests))

-- after one of them went on
pub one_goes_on : (all tasks later : List Task) (i : ℕ) (t u : Task) → AllGoOn all tasks → i < length tasks → t ≡ get_or tasks i t → GoesOn t u
    → later ≡ set tasks i u → AllGoOn all later
one_goes_on all tasks later i t u so_far within read on is k d lt whole bytes stands = rw is (by (same_place k i))
  where
    by : (k ≡ i) ⊎ (k ≢ i) → Stands whole bytes (get_or (set tasks i u) k d)
    by (inl here) = rw (here, get_or-set_same tasks i u d within) (on whole bytes (there here))
      where
        there : k ≡ i → Stands whole bytes t
        there e = subst (λ (x : Task). Stands whole bytes x) (sym (read ∙ get_or_default tasks i t d within))
            (subst (λ (n : ℕ). Stands whole bytes (get_or tasks n d)) e (so_far k d lt whole bytes stands))
    by (inr other) = rw (get_or-set_other tasks i k u d other) (so_far k d lt whole bytes stands)

-- one more task for one more stream
pub one_more_task : (settings : AllSettings) (streams : List (List ℕ)) (tasks later : List Task) (i : ℕ) (bytes : List ℕ) (t : Task)
    → StandEach settings (take i streams) tasks → i < length streams → bytes ≡ get_or streams i bytes
    → Stands (output_text settings i bytes) bytes t → later ≡ tasks ++ t ∷ [] → StandEach settings (take (i + 1) streams) later
one_more_task settings streams tasks later i bytes t so_far within read stands is = record {
  one_each = rw is (omega (arith, length-append tasks (t ∷ []), so_far.one_each, length-take i streams, length-take (i + 1) streams));
  each = λ k b d lt. rw (is, get_or-take (i + 1) streams k b (omega (arith, lt, length-take (i + 1) streams))) (by k b d lt (same_place k i));
}
  where
    count : length tasks ≡ i
    count = omega (arith, so_far.one_each, length-take i streams)

    by : (k : ℕ) (b : List ℕ) (d : Task) → k < length (take (i + 1) streams) → (k ≡ i) ⊎ (k ≢ i)
        → Stands (output_text settings k (get_or streams k b)) (get_or streams k b) (get_or (tasks ++ t ∷ []) k d)
    by k b d lt (inl here) =
        let last : get_or (tasks ++ t ∷ []) k d ≡ t = rw (here, ← count) (get_or-append_seam tasks t [] d) in
        let same : get_or streams k b ≡ bytes = rw here (get_or_default streams i b bytes within ∙ sym read) in
        rw (last, same) (subst (λ (n : ℕ). Stands (output_text settings n bytes) bytes t) (sym here) stands)
    by k b d lt (inr other) =
        let below : k < i = omega (arith, lt, length-take (i + 1) streams, other) in
        let at : get_or (tasks ++ t ∷ []) k d ≡ get_or tasks k d = get_or-append tasks (t ∷ []) d k (omega (arith, below, count)) in
        rw at (subst (λ (x : List ℕ). Stands (output_text settings k x) x (get_or tasks k d)) (get_or-take i streams k b below)
        (so_far.each k b d (omega (arith, below, within, length-take i streams))))

-- the texts of the streams from a place on
pub texts_at : (settings : AllSettings) (streams : List (List ℕ)) (i : ℕ) (d : List ℕ) → i < length streams
    → texts_from settings i (drop i streams) ≡ output_text settings i (get_or streams i d) ∷ texts_from settings (i + 1) (drop (i + 1) streams)
texts_at settings streams i d within = rw (drop-cons streams i d, add-one) refl

pub texts_end : (settings : AllSettings) (streams : List (List ℕ)) (i : ℕ) → length streams ≤ i → texts_from settings i (drop i streams) ≡ []
texts_end settings streams i done = rw (drop_all i streams done) refl

-- after all of them went on
pub stand_on : (settings : AllSettings) (streams : List (List ℕ)) (tasks later : List Task) → StandEach settings streams tasks → AllGoOn tasks later
    → length later ≡ length tasks → StandEach settings streams later
stand_on settings streams tasks later stand on same = record {
  one_each = same ∙ stand.one_each;
  each = λ k b d lt. on k d (omega (arith, lt, stand.one_each)) (output_text settings k (get_or streams k b)) (get_or streams k b) (stand.each k b d lt);
}

-- the fault of a stream whose forerunners are short
pub fault_of_one : (streams : List (List ℕ)) (i : ℕ) (bytes : List ℕ) (fault : ReplayFault) → ((k : ℕ) (d : List ℕ) → k < i → IsShort (get_or streams k d))
    → slice_get streams i ≡ Some bytes → IsFaultOf bytes fault → IsFaultOfOne streams fault
fault_of_one streams i bytes (TooLong read) short is says = record { index = i; bytes = bytes; first = short; stream = is; long = says }
fault_of_one streams i bytes OutOfMemory short is says = tt
fault_of_one streams i bytes Read short is says = says
fault_of_one streams i bytes Write short is says = says

-- each turn of 64 lines leaves fewer
pub fewer_lines : (ended : Bool) (old new : ℕ) → old ≤ MOST_LINES → (ended ≡ false → new ≡ old + 64)
    → (if ended then 0 else MOST_LINES + 1 - new) < MOST_LINES + 1 - old
fewer_lines true old new few more = omega arith
fewer_lines false old new few more = omega (arith, more refl)

-- one more stream is short
pub short_more : (streams : List (List ℕ)) (i : ℕ) → i < length streams → ((k : ℕ) (d : List ℕ) → k < i → IsShort (get_or streams k d))
    → IsShort (get_or streams i []) → (k : ℕ) (d : List ℕ) → k < i + 1 → IsShort (get_or streams k d)
short_more streams i within short here k d lt = by (same_place k i)
  where
    by : (k ≡ i) ⊎ (k ≢ i) → IsShort (get_or streams k d)
    by (inl same) = subst (λ (n : ℕ). IsShort (get_or streams n d)) (sym same)
        (subst (λ (x : List ℕ). IsShort x) (get_or_default streams i [] d within) here)
    by (inr other) = short k d (omega (arith, lt, other))
