-- The entries that a list is are the list.
use Rattle.std.proofs.Common.{◌≡◌, ℕ, List, Bool, true, false, nat_lt, ◌==◌, length, Option, Some, None, Ok, Err, cond}
use Rattle.std.specs.Prelude.{position}
use Rattle.rate_types.specs.declared.limits.TheConstants.{MOST_ENTRIES}
use Rattle.rate_types.specs.declared.entries.Entry.{Entry}
use Rattle.rate_types.specs.declared.entries.EntriesFault.TheVariants.{NoEntries, TooMany}
use Rattle.rate_types.specs.Entries.{unless_empty_key, entries_of}

by : (a b : Bool) (n : ℕ) (o : Option ℕ) (xs ys : List Entry)
    → cond a (Err NoEntries) (cond b (Err (TooMany n)) (unless_empty_key o xs)) ≡ Ok ys → ys ≡ xs
by true b n o xs ys e = cc
by false true n o xs ys e = cc
by false false n (Some index) xs ys e = cc
by false false n None xs ys e = cc

pub same_built : (xs ys : List Entry) → entries_of xs ≡ Ok ys → ys ≡ xs
unfolding entries_of
same_built xs ys e =
    by (length xs == 0) (nat_lt MOST_ENTRIES (length xs)) (length xs) (position (λ e. length e.key == 0) xs) xs ys e
