-- What is found in a value is a record that a text can show.
use Rattle.std.proofs.Common.{◌≡◌, ℕ, ◌^◌, ◌<◌, ◌≤◌, ◌-◌, List, [], ◌∷◌, length, take, Bool, true, false, nat_lt, cond, Option, Some, None, refl, arith, ltb-true, ltb-false}
use Rattle.std.specs.Prelude.{codes, fold, unwrap_or, option_and_then}
use Rattle.std.specs.List.{AllByRecursion}
use Rattle.serde_json.specs.Data.{Data}
use Rattle.serde_json.specs.Find.{get, as_u64, as_number}
use Rattle.rate_types.specs.declared.limits.TheConstants.{MOST_DESCRIPTORS, LATEST_MOMENT}
use Rattle.rls_core.specs.declared.status.Status.{Status}
use Rattle.run_text.specs.Members.{below, whole_of, u32_of, moment_of, text_of, one_more, number_before_last, at, items_in}
use Rattle.run_text.specs.Found.{limit_of, reset_under, count_by, status_in, statuses_in, if_few, answer_in, refused_by, outcome_by, outcome_in, outcome_of, place_in}
use Rattle.run_text.specs.Found.{is_placed, record_in}
use Rattle.run_text.specs.Said.{IsSaidCount, IsSaidLimit, IsSaidStatus, IsSaidOutcome, IsSaid}

below_bound : (bound n : ℕ) → 0 < bound → below bound n < bound
below_bound bound n some = by (nat_lt n bound) refl
  where
    by : (b : Bool) → nat_lt n bound ≡ b → cond b n 0 < bound
    by true e = ltb-true n bound e
    by false e = some

pub whole_bound : (o : Option Data) → whole_of o < 2 ^ 64
whole_bound o = below_bound (2 ^ 64) (unwrap_or (option_and_then as_u64 (option_and_then as_number o)) 0) (omega arith)

u32_bound : (o : Option Data) → u32_of o < 2 ^ 32
u32_bound o = below_bound (2 ^ 32) (whole_of o) (omega arith)

pub moment_bound : (o : Option Data) → moment_of o ≤ LATEST_MOMENT
moment_bound o = omega arith

fold_bound : (n : ℕ) (bs : List ℕ) → n < 2 ^ 64 → fold one_more n bs < 2 ^ 64
fold_bound n [] h = h
fold_bound n (b ∷ bs) h = fold_bound (one_more n b) bs (omega arith)

seconds_bound : (s : List ℕ) → number_before_last s < 2 ^ 64
seconds_bound s = fold_bound 0 (take (length s - 1) s) (omega arith)

count_said : (before seen : Option Data) → IsSaidCount (count_by before seen)
count_said (Some d) seen = whole_bound (Some d)
count_said None (Some d) = whole_bound (Some d)
count_said None None = tt

limit_said : (o reset : Option Data) → IsSaidLimit (limit_of o) (reset_under (limit_of o) reset)
limit_said None reset = refl
limit_said (Some d) reset = (u32_bound (get (codes "requestsPerUnit") d), seconds_bound (text_of reset))

status_said : (c d : Data) → IsSaidStatus (status_in c d)
unfolding status_in
status_said c d = record {
  no_rule = refl;
  remaining = u32_bound (get (codes "limitRemaining") d);
  limit = limit_said (get (codes "currentLimit") d) (get (codes "durationUntilReset") d);
  count = count_said (get (codes "before") c) (get (codes "seen") c);
}

statuses_said : (cs ds : List Data) → AllByRecursion IsSaidStatus (statuses_in cs ds)
statuses_said [] ds = tt
statuses_said (c ∷ cs) [] = tt
statuses_said (c ∷ cs) (d ∷ ds) = (status_said c d, statuses_said cs ds)

few_said : (ss : List Status) → AllByRecursion IsSaidStatus ss → (length (if_few ss) ≤ MOST_DESCRIPTORS) × AllByRecursion IsSaidStatus (if_few ss)
few_said ss all = by (nat_lt MOST_DESCRIPTORS (length ss)) refl
  where
    by : (b : Bool) → nat_lt MOST_DESCRIPTORS (length ss) ≡ b
        → (length (cond b [] ss) ≤ MOST_DESCRIPTORS) × AllByRecursion IsSaidStatus (cond b [] ss)
    by true e = (omega arith, tt)
    by false e = (ltb-false MOST_DESCRIPTORS (length ss) e, all)

refused_said : (live claims : Option Data) (why : Data) → IsSaidOutcome (refused_by live claims why)
refused_said (Some live) claims why = (u32_bound (Some live), u32_bound (get (codes "held") why), u32_bound (get (codes "wanted") why))
refused_said None (Some claims) why = (whole_bound (Some claims), u32_bound (get (codes "wanted") why))
refused_said None None why = u32_bound (get (codes "versions") why)

came_said : (counts ticked refused : Option Data) (d : Data) → IsSaidOutcome (outcome_by counts ticked refused d)
unfolding answer_in
came_said (Some counts) ticked refused d =
    let ds = items_in (at (codes "statuses") (get (codes "reply") d)) in
    few_said (statuses_in (items_in (Some counts)) ds) (statuses_said (items_in (Some counts)) ds)
came_said None (Some ticked) refused d = moment_bound (Some ticked)
came_said None None (Some why) d = refused_said (get (codes "live") why) (get (codes "claims") why) why
came_said None None None d = tt

outcome_said : (place : Option Data) (d : Data) → is_placed place ≡ true → IsSaidOutcome (outcome_of place d)
unfolding outcome_in
outcome_said (Some place) d placed = (placed, u32_bound (at (codes "number") (get (codes "refused") d)))
outcome_said None d placed = came_said (get (codes "counts") d) (get (codes "ticked") d) (get (codes "refused") d) d

pub record_said : (d : Data) → is_placed (place_in d) ≡ true → IsSaid (record_in d)
unfolding record_in
record_said d placed = record {
  line = u32_bound (get (codes "line") d);
  worker = u32_bound (get (codes "worker") d);
  version = u32_bound (get (codes "version") d);
  moment = moment_bound (get (codes "moment") d);
  outcome = outcome_said (place_in d) d placed;
}
