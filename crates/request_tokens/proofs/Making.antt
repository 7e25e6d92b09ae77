-- What was read within its bounds is made.
use Rattle.std.proofs.Common.{◌≡◌, ℕ, ◌≤◌, ◌==◌, List, [], ◌∷◌, length, Ok, false, nat_lt, arith, refl}
use Rattle.std.proofs.lemmas.Bool.Decides.{nat_tests}
use Rattle.std.specs.List.{AllByRecursion, position_or_len}
use Rattle.rate_types.specs.Entries.{entries_of}
use Rattle.rate_types.specs.Requests.{request_of}
use Rattle.rate_types.specs.declared.entries.Entry.{Entry}
use Rattle.rate_types.specs.declared.request.Descriptor.{Descriptor}
use Rattle.rate_types.specs.declared.limits.TheConstants.{MOST_ENTRIES, MOST_DESCRIPTORS}
use Rattle.request_tokens.specs.Usual.{IsShort}

not_empty : {X : Type 0} (xs : List X) → 1 ≤ length xs → (length xs == 0) ≡ false
not_empty xs some = grind (arith, nat_tests)

not_many : (most n : ℕ) → n ≤ most → nat_lt most n ≡ false
not_many most n few = grind (arith, nat_tests)

none_keyless : (es : List Entry) → AllByRecursion IsShort es → position_or_len (λ e. length e.key == 0) es ≡ length es
none_keyless [] short = refl
none_keyless (e ∷ es) short = rw (not_empty e.key short.0.some, none_keyless es short.1) (omega arith)

pub entries_made : (es : List Entry) → 1 ≤ length es → length es ≤ MOST_ENTRIES → AllByRecursion IsShort es → entries_of es ≡ Ok es
unfolding entries_of
entries_made es some few short =
    rw (not_empty es some, not_many MOST_ENTRIES (length es) few, none_keyless es short, not_many (length es) (length es) (omega arith)) refl

pub request_made : (domain : List ℕ) (ds : List Descriptor) → 1 ≤ length domain → 1 ≤ length ds → length ds ≤ MOST_DESCRIPTORS
    → request_of domain ds 1 ≡ Ok (record { domain = domain; descriptors = ds; hits = 1 })
unfolding request_of
request_made domain ds some more few =
    rw (not_empty domain some, not_empty ds more, not_many MOST_DESCRIPTORS (length ds) few) refl
