-- Entries and requests within their bounds are made.
use Rattle.std.proofs.Common.{◌≡◌, ◌≢◌, ℕ, ◌<◌, ◌≤◌, ◌==◌, List, [], ◌∷◌, length, Result, Ok, Err, Option, Some, None, false, nat_lt, arith, refl}
use Rattle.std.proofs.lemmas.Bool.Decides.{nat_tests}
use Rattle.std.proofs.lemmas.List.Elements.{recursion_from_All}
use Rattle.std.specs.List.{All, AllByRecursion, position_or_len}
use Rattle.rate_types.specs.Entries.{entries_of}
use Rattle.rate_types.specs.Requests.{RequestParts, request_of}
use Rattle.rate_types.specs.declared.entries.Entry.{Entry}
use Rattle.rate_types.specs.declared.refused.Refused.{Refused}
use Rattle.rate_types.specs.declared.request.Descriptor.{Descriptor}
use Rattle.rate_types.specs.declared.request.RequestFault.{RequestFault}
use Rattle.rate_types.specs.declared.request.RequestFault.TheVariants.{EmptyDomain, NoDescriptors, TooMany}
use Rattle.rate_types.specs.declared.limits.TheConstants.{MOST_ENTRIES, MOST_DESCRIPTORS}
use Rattle.rate_types.specs.declared.refusals.TheConstants.{REQUEST_EMPTY_DOMAIN, NO_DESCRIPTORS}
use Rattle.proto_json.specs.Said.{reading_of}
use Rattle.reply_text.specs.ReadRequest.{request_rules}

full : (key : List ℕ) → key ≢ [] → (length key == 0) ≡ false
full [] some = absurd (some refl)
full (b ∷ bs) some = grind (arith, nat_tests)

none_keyless : (es : List Entry) → AllByRecursion (λ e. e.key ≢ []) es → position_or_len (λ e. length e.key == 0) es ≡ length es
none_keyless [] keyed = refl
none_keyless (e ∷ es) keyed = rw (full e.key keyed.0, none_keyless es keyed.1) (omega arith)

pub entries_lawful : (es : List Entry) → 0 < length es → length es ≤ MOST_ENTRIES → All (λ e. e.key ≢ []) es → entries_of es ≡ Ok es
unfolding entries_of
entries_lawful es some few keyed =
    let all : position_or_len (λ e. length e.key == 0) es ≡ length es = none_keyless es (recursion_from_All (λ e. e.key ≢ []) es keyed) in
    let there : (length es == 0) ≡ false = grind (arith, nat_tests) in
    let fits : nat_lt MOST_ENTRIES (length es) ≡ false = grind (arith, nat_tests) in
    let same : nat_lt (length es) (length es) ≡ false = grind (arith, nat_tests) in
    rw (there, fits, all, same) refl

-- ---- a request

-- what the answer of `Request::build` reads as
abbrev pub as_built : List ℕ → Result RequestParts RequestFault → Result (Option RequestParts) Refused
as_built place (Ok request) = Ok (Some request)
as_built place (Err EmptyDomain) = Err (record { at = place; number = REQUEST_EMPTY_DOMAIN })
as_built place (Err NoDescriptors) = Err (record { at = place; number = NO_DESCRIPTORS })
as_built place (Err (TooMany count)) = Ok None

some_bytes : (b : ℕ) (bs : List ℕ) → (length (b ∷ bs) == 0) ≡ false
some_bytes b bs = grind (arith, nat_tests)

some_descriptors : (d : Descriptor) (ds : List Descriptor) → (length (d ∷ ds) == 0) ≡ false
some_descriptors d ds = grind (arith, nat_tests)

few_descriptors : (ds : List Descriptor) → length ds ≤ MOST_DESCRIPTORS → nat_lt MOST_DESCRIPTORS (length ds) ≡ false
few_descriptors ds few = grind (arith, nat_tests)

pub request_reads : (place domain : List ℕ) (ds : List Descriptor) (hits : ℕ) → length ds ≤ MOST_DESCRIPTORS
    → reading_of (request_rules place domain ds hits) ≡ as_built place (request_of domain ds hits)
unfolding request_rules request_of
request_reads place [] [] hits few = refl
request_reads place [] (d ∷ ds) hits few = refl
request_reads place (b ∷ bs) [] hits few = rw (some_bytes b bs) refl
request_reads place (b ∷ bs) (d ∷ ds) hits few = rw (some_bytes b bs, some_descriptors d ds, few_descriptors (d ∷ ds) few) refl

pub never_too_many : (domain : List ℕ) (ds : List Descriptor) (hits count : ℕ) → length ds ≤ MOST_DESCRIPTORS
    → request_of domain ds hits ≢ Err (TooMany count)
unfolding request_of
never_too_many [] ds hits count few = λ is. cc
never_too_many (b ∷ bs) [] hits count few = rw (some_bytes b bs) (λ is. cc)
never_too_many (b ∷ bs) (d ∷ ds) hits count few =
    rw (some_bytes b bs, some_descriptors d ds, few_descriptors (d ∷ ds) few) (λ is. cc)
