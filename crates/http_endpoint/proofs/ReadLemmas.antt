-- What reads do to a link, one after the other.
use Rattle.std.specs.Prelude.{Result, Ok, Err}
use Rattle.std.proofs.Common.{◌≡◌, ℕ, ◌<◌, ◌≤◌, ◌==◌, ◌||◌, Bool, true, false, List, [], ◌∷◌, ◌++◌, length, take, ◌+◌, length-append, Option, Some, None, nat_lt, refl, sym, ap, ◌∙◌, append-nil}
use Rattle.std.proofs.Common.{append_assoc, arith, le_trans, subst}
use Rattle.std.proofs.lemmas.Bool.Decides.{nat_tests}
use Rattle.std.proofs.lemmas.Grind.{flat_map-append}
use Rattle.std.proofs.lemmas.List.Folds.{list_any-append}
use Rattle.std.specs.Io.KnownBytes.{Consumes, Keeps}
use Rattle.rate_io.specs.Causes.{Rose}
use Rattle.rate_io.specs.Events.{Event, gave, ended, read_failed, bytes_given, is_ended, is_read_failed, is_write_failed, piece_written, given, has_ended, has_failed}
use Rattle.rate_io.specs.Events.{has_write_failed, pieces_written, read_event}
use Rattle.rate_io.specs.Links.{LinkState, StaysLink, IsLinkRead}
use Rattle.http_endpoint.specs.Order.{Waits, ReadsOn, is_read}
use Rattle.http_endpoint.specs.Steps.{Drew, FoundEnd, FailedToRead}

-- ---- histories

pub given-append : (a b : List Event) → given (a ++ b) ≡ given a ++ given b
given-append a b = flat_map-append bytes_given a b

pub pieces-append : (a b : List Event) → pieces_written (a ++ b) ≡ pieces_written a ++ pieces_written b
pieces-append a b = flat_map-append piece_written a b

or_right : (t u : Bool) → u ≡ true → t || u ≡ true
or_right true u is = refl
or_right false u is = is

both_false : (t u : Bool) → t ≡ false → u ≡ false → t || u ≡ false
both_false true u is other = absurd (cc)
both_false false u is other = other

pub ended-append : (a b : List Event) → has_ended b ≡ true → has_ended (a ++ b) ≡ true
ended-append a b is = list_any-append is_ended a b ∙ or_right (has_ended a) (has_ended b) is

pub failed-append : (a b : List Event) → has_failed b ≡ true → has_failed (a ++ b) ≡ true
failed-append a b is = list_any-append is_read_failed a b ∙ or_right (has_failed a) (has_failed b) is

pub write_failed-append : (a b : List Event) → has_write_failed b ≡ true → has_write_failed (a ++ b) ≡ true
write_failed-append a b is = list_any-append is_write_failed a b ∙ or_right (has_write_failed a) (has_write_failed b) is

pub unfailed-append : (a b : List Event) → has_write_failed a ≡ false → has_write_failed b ≡ false → has_write_failed (a ++ b) ≡ false
unfailed-append a b is other = list_any-append is_write_failed a b ∙ both_false (has_write_failed a) (has_write_failed b) is other

-- ---- known bytes

pub consumes_more : (a b c : Option (List ℕ)) (xs ys : List ℕ) → Consumes a b xs → Consumes b c ys → Consumes a c (xs ++ ys)
consumes_more None b c xs ys h k = tt
consumes_more (Some us) None c xs ys h k = absurd h
consumes_more (Some us) (Some vs) None xs ys h k = absurd k
consumes_more (Some us) (Some vs) (Some ws) xs ys h k = h ∙ (ap (λ zs. xs ++ zs) k ∙ sym (append_assoc xs ys ws))

pub consumes_none : (a b : Option (List ℕ)) → Keeps a b → Consumes a b []
consumes_none None b h = tt
consumes_none (Some xs) None h = absurd h
consumes_none (Some xs) (Some ys) h = sym h

pub consumes_same : (a : Option (List ℕ)) → Consumes a a []
consumes_same None = tt
consumes_same (Some xs) = refl

pub rose_earlier : (a b n : ℕ) → a ≤ b → Rose b n → Rose a n
rose_earlier a b n h r = omega arith

-- ---- links

pub stays_same : (a : LinkState) → StaysLink a a
stays_same a = record { can_fail = refl; is_shut = refl; bounds = refl; sure = λ sure. refl }

pub stays_more : (a b c : LinkState) → StaysLink a b → StaysLink b c → StaysLink a c
stays_more a b c x y = record {
  can_fail = y.can_fail ∙ x.can_fail;
  is_shut = y.is_shut ∙ x.is_shut;
  bounds = y.bounds ∙ x.bounds;
  sure = λ sure. y.sure (x.can_fail ∙ sure) ∙ x.sure sure;
}

-- reads, and then more
pub reads_more : (bytes : List ℕ) (xs ys : List Event) → ReadsOn bytes xs → ReadsOn (bytes ++ given xs) ys → ReadsOn bytes (xs ++ ys)
reads_more bytes [] ys x y = subst (λ (bs : List ℕ). ReadsOn bs ys) (append-nil bytes) y
reads_more bytes (e ∷ xs) ys x y =
    (x.0, x.1, reads_more (bytes ++ bytes_given e) xs ys x.2 (subst (λ (bs : List ℕ). ReadsOn bs ys) (sym (append_assoc bytes (bytes_given e) (given xs))) y))

-- no read
pub drew_none : (bytes : List ℕ) (a : LinkState) → Drew bytes a a []
drew_none bytes a = record {
  history = sym (append-nil a.history);
  on = tt;
  quiet = refl;
  unfailed = refl;
  left = consumes_same a.left;
  written = refl;
  later = omega arith;
  stays = stays_same a;
}

-- reads, and then more
pub drew_more : (bytes mid : List ℕ) (a b c : LinkState) (xs ys : List Event) → mid ≡ bytes ++ given xs → Drew bytes a b xs → Drew mid b c ys
    → Drew bytes a c (xs ++ ys)
drew_more bytes mid a b c xs ys at x y = record {
  history = y.history ∙ (ap (λ h. h ++ ys) x.history ∙ append_assoc a.history xs ys);
  on = reads_more bytes xs ys x.on (subst (λ (bs : List ℕ). ReadsOn bs ys) at y.on);
  quiet = pieces-append xs ys ∙ (ap (λ p. p ++ pieces_written ys) x.quiet ∙ y.quiet);
  unfailed = unfailed-append xs ys x.unfailed y.unfailed;
  left = subst (λ (bytes : List ℕ). Consumes a.left c.left bytes) (sym (given-append xs ys)) (consumes_more a.left b.left c.left (given xs) (given ys) x.left y.left);
  written = y.written ∙ x.written;
  later = le_trans x.later y.later;
  stays = stays_more a b c x.stays y.stays;
}

pub end_later : (c : LinkState) (xs ys : List Event) → FoundEnd c ys → FoundEnd c (xs ++ ys)
end_later c xs ys y = record { ended = ended-append xs ys y.ended; empty = y.empty }

pub failed_later : (bytes : List ℕ) (a b c : LinkState) (xs ys : List Event) → Drew bytes a b xs → FailedToRead b c ys → FailedToRead a c (xs ++ ys)
failed_later bytes a b c xs ys x y = record {
  failed = failed-append xs ys y.failed;
  rose = rose_earlier a.faults b.faults c.faults x.later y.rose;
}

-- ---- one read

-- a read that answered so
read_drew : {E : Type 0} (bytes : List ℕ) (a b : LinkState) (waits : Waits bytes) (result : Result ℕ E) (room : List ℕ) (event : Event) → IsLinkRead a b result room
    → read_event result room ≡ event → is_read event ≡ true → pieces_written (event ∷ []) ≡ [] → has_write_failed (event ∷ []) ≡ false
    → Consumes a.left b.left (given (event ∷ [])) → Drew bytes a b (event ∷ [])
read_drew bytes a b waits result room event r is of_read quiet unfailed left = record {
  history = r.history ∙ ap (λ e. a.history ++ e ∷ []) is;
  on = (waits, of_read, tt);
  quiet = quiet;
  unfailed = unfailed;
  left = left;
  written = r.written;
  later = r.cause.later;
  stays = r.stays;
}

-- a read that handed out bytes
pub drew_bytes : {E : Type 0} (bytes : List ℕ) (a b : LinkState) (waits : Waits bytes) (count : ℕ) (room : List ℕ) → IsLinkRead {E = E} a b (Ok count) room → (count == 0) ≡ false
    → Drew bytes a b (gave (take count room) ∷ [])
drew_bytes {E = E} bytes a b waits count room r some =
    read_drew {E = E} bytes a b waits (Ok count) room (gave (take count room)) r (rw some refl) refl refl refl
    (subst (λ (bytes : List ℕ). Consumes a.left b.left bytes) (sym (append-nil (take count room))) r.left.0)

-- a read that answered the end
pub drew_end : {E : Type 0} (bytes : List ℕ) (a b : LinkState) (waits : Waits bytes) (count : ℕ) (room : List ℕ) → IsLinkRead {E = E} a b (Ok count) room → (count == 0) ≡ true → 0 < length room
    → Drew bytes a b (ended ∷ []) × FoundEnd b (ended ∷ [])
drew_end {E = E} bytes a b waits count room r none space =
    let zero : count ≡ 0 = grind (arith, nat_tests) in
    let has : nat_lt 0 (length room) ≡ true = grind (arith, nat_tests) in
    let empty : take count room ≡ [] = ap (λ n. take n room) zero in (
      read_drew {E = E} bytes a b waits (Ok count) room ended r (rw (none, has) refl) refl refl refl
          (subst (λ (bytes : List ℕ). Consumes a.left b.left bytes) empty r.left.0),
      record { ended = refl; empty = r.left.1 zero space },
    )

-- a read that failed
pub drew_failed : {E : Type 0} (bytes : List ℕ) (a b : LinkState) (waits : Waits bytes) (e : E) (room : List ℕ) → IsLinkRead {E = E} a b (Err e) room
    → Drew bytes a b (read_failed ∷ []) × FailedToRead a b (read_failed ∷ [])
drew_failed {E = E} bytes a b waits e room r = (
  read_drew {E = E} bytes a b waits (Err e) room read_failed r refl refl refl refl (consumes_none a.left b.left r.left),
  record { failed = refl; rose = r.cause.failed },
)

-- the bytes of one read
pub given_one : (bytes : List ℕ) → given (gave bytes ∷ []) ≡ bytes
given_one bytes = append-nil bytes

-- bytes that grew by those of reads, twice
pub grown_by : (now bytes mid : List ℕ) (xs ys : List Event) → mid ≡ bytes ++ given xs → now ≡ mid ++ given ys → now ≡ bytes ++ given (xs ++ ys)
grown_by now bytes mid xs ys is then =
    then ∙ (ap (λ zs. zs ++ given ys) is ∙ (append_assoc bytes (given xs) (given ys) ∙ ap (λ zs. bytes ++ zs) (sym (given-append xs ys))))

-- so many bytes that were read, and then more
pub counted_by : (n : ℕ) (xs ys : List Event) → n + length (given xs) + length (given ys) ≡ n + length (given (xs ++ ys))
counted_by n xs ys = let a = ap length (given-append xs ys) ∙ length-append (given xs) (given ys) in omega arith
