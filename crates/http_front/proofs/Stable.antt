-- A front that waits for no byte stays as it is when more bytes come, and there is one front.
use Rattle.std.specs.Prelude.{MatchOption, MatchBool}
use Rattle.std.proofs.lemmas.List.{take-append-le, drop-append-le}
use Rattle.httparse.specs.Grammar.{RequestHead}
use Rattle.http_front.specs.Asks.{asks_of}
use Rattle.http_front.specs.declared.asks.Asks.{Asks}
use Rattle.http_front.specs.declared.asks.BodyLength.{BodyLength}
use Rattle.http_front.specs.declared.asks.BodyLength.TheVariants.{Absent, Unclear, Given}
use Rattle.http_front.specs.declared.front.Front.TheVariants.{Fixed, Ended, CutShort}
use Rattle.std.proofs.Common.{length-append, length-take, zero, if◌then◌else◌, ◌≡◌, ℕ, suc, ◌+◌, ◌<◌, ◌≤◌, ◌==◌, ◌&&◌, Bool, true, false, List, [], ◌∷◌, ◌++◌, length, take, drop}
use Rattle.std.proofs.Common.{Option, Some, None, option_map, nat_lt, nat_le, refl, sym, ap, ◌∙◌, arith}
use Rattle.std.proofs.lemmas.Bool.Decides.{nat_tests}
use Rattle.http_front.specs.declared.front.Front.{Front}
use Rattle.httparse.proofs.GrammarLemmas.{request_unique}
use Rattle.http_front.proofs.Fronts.{found_front}
use Rattle.http_front.specs.Head.{starts_line_feed, is_line_end, line_end_length, after_blank, empty_line_end, head_max, head_length, has_too_many_lines, HeadReads}
use Rattle.http_front.specs.Front.{IsFront, IsFrontAfter, is_waiting, is_post, body_max, plain, with_body, by_length, after_head, headless}

-- the bytes begin with a line end, and so with these bytes more
lf-append : (bytes more : List ℕ) → starts_line_feed bytes ≡ true → starts_line_feed (bytes ++ more) ≡ true
lf-append [] more is = absurd (cc)
lf-append (b ∷ bytes) more is = is

-- whether a byte is of a line end is settled where another byte follows
end-append : (b : ℕ) (bytes more : List ℕ) → 0 < length bytes → is_line_end b (bytes ++ more) ≡ is_line_end b bytes
end-append b [] more some = absurd (omega arith)
end-append b (c ∷ bytes) more some = refl

-- a line end that stands stays
line_end-append : (bytes more : List ℕ) → 0 < line_end_length bytes → line_end_length (bytes ++ more) ≡ line_end_length bytes
line_end-append [] more some = absurd (omega arith)
line_end-append (b ∷ c ∷ bytes) more some = refl
line_end-append (b ∷ []) more some = by (b == 10) (b == 13) refl refl
  where
    by : (t u : Bool) → (b == 10) ≡ t → (b == 13) ≡ u → line_end_length (b ∷ more) ≡ line_end_length (b ∷ [])
    by true u is cr = rw is refl
    by false false is cr = rw is (rw cr refl)
    by false true is cr = absurd (omega (arith, rw (is, cr) at some))

-- where no line end stood, one comes only behind bytes that are no head yet
none-append : (bytes more : List ℕ) (n : ℕ) → line_end_length bytes ≡ 0 → empty_line_end bytes ≡ Some n → line_end_length (bytes ++ more) ≡ 0
none-append [] more n none is = absurd (cc)
none-append (b ∷ c ∷ bytes) more n none is = none
none-append (b ∷ []) more n none is = by (b == 10) refl
  where
    by : (t : Bool) → (b == 10) ≡ t → line_end_length (b ∷ more) ≡ 0
    by true at = absurd (omega (arith, rw at at none))
    by false at = absurd (let gone = rw at at is in cc)

line_end-le : (bytes : List ℕ) → line_end_length bytes ≤ length bytes
line_end-le [] = omega arith
line_end-le (b ∷ []) = by (b == 10) (b == 13) refl refl
  where
    by : (t u : Bool) → (b == 10) ≡ t → (b == 13) ≡ u → line_end_length (b ∷ []) ≤ length (b ∷ [])
    by true u lf cr = rw lf (omega arith)
    by false true lf cr = rw (lf, cr) (omega arith)
    by false false lf cr = rw (lf, cr) (omega arith)
line_end-le (b ∷ c ∷ bytes) = by (b == 10) (b == 13 && starts_line_feed (c ∷ bytes)) refl refl
  where
    by : (t u : Bool) → (b == 10) ≡ t → (b == 13 && starts_line_feed (c ∷ bytes)) ≡ u → line_end_length (b ∷ c ∷ bytes) ≤ length (b ∷ c ∷ bytes)
    by true u lf cr = rw lf (omega arith)
    by false true lf cr = rw (lf, cr) (omega arith)
    by false false lf cr = rw (lf, cr) (omega arith)

-- an empty line that was found stays the first
pub empty_line_end-append : (bytes more : List ℕ) (n : ℕ) → empty_line_end bytes ≡ Some n → empty_line_end (bytes ++ more) ≡ Some n
empty_line_end-append [] more n is = absurd (cc)
empty_line_end-append (b ∷ bytes) more n is = by (b == 10) (nat_lt 0 (line_end_length bytes)) (empty_line_end bytes) refl refl refl (λ k. empty_line_end-append bytes more k)
  where
    by : (t u : Bool) (o : Option ℕ) → (b == 10) ≡ t → nat_lt 0 (line_end_length bytes) ≡ u → empty_line_end bytes ≡ o
        → ((k : ℕ) → empty_line_end bytes ≡ Some k → empty_line_end (bytes ++ more) ≡ Some k)
        → empty_line_end (b ∷ (bytes ++ more)) ≡ Some n
    by true true o lf end found later =
        let some : 0 < line_end_length bytes = grind (arith, nat_tests) in
        let same = line_end-append bytes more some in
        rw (lf, same, end) (rw (lf, end) at is)
    by true false (Some k) lf end found later =
        let none : line_end_length bytes ≡ 0 = grind (arith, nat_tests) in
        let same = none-append bytes more k none found in
        rw (lf, same, later k found) (rw (lf, end, found) at is)
    by true false None lf end found later = absurd (let gone = rw (lf, end, found) at is in cc)
    by false u (Some k) lf end found later = rw (lf, later k found) (rw (lf, found) at is)
    by false u None lf end found later = absurd (let gone = rw (lf, found) at is in cc)

-- one byte is no head
one_byte : (b n : ℕ) → head_length (b ∷ []) ≡ Some n → ⊥
one_byte b n is = by (b == 10) (b == 13) refl refl
  where
    by : (t u : Bool) → (b == 10) ≡ t → (b == 13) ≡ u → ⊥
    by true u lf cr = let gone = rw lf at is in cc
    by false true lf cr = let gone = rw (lf, cr) at is in cc
    by false false lf cr = let gone = rw (lf, cr) at is in cc

-- one byte before bytes whose head stays
step : (b n : ℕ) (rest longer : List ℕ) → is_line_end b longer ≡ is_line_end b rest
    → ((k : ℕ) → head_length rest ≡ Some k → head_length longer ≡ Some k)
    → (empty_line_end (b ∷ rest) ≡ Some n → empty_line_end (b ∷ longer) ≡ Some n)
    → head_length (b ∷ rest) ≡ Some n → head_length (b ∷ longer) ≡ Some n
step b n rest longer same later lines is = by (is_line_end b rest) (head_length rest) refl refl
  where
    by : (t : Bool) (o : Option ℕ) → is_line_end b rest ≡ t → head_length rest ≡ o → head_length (b ∷ longer) ≡ Some n
    by true (Some k) end found = rw (same, end, later k found) (rw (end, found) at is)
    by true None end found = absurd (let gone = rw (end, found) at is in cc)
    by false o end found = rw (same, end) (lines (rw end at is))

pub head_length-append : (bytes more : List ℕ) (n : ℕ) → head_length bytes ≡ Some n → head_length (bytes ++ more) ≡ Some n
head_length-append [] more n is = absurd (cc)
head_length-append (b ∷ []) more n is = absurd (one_byte b n is)
head_length-append (b ∷ c ∷ bytes) more n is =
    step b n (c ∷ bytes) (c ∷ (bytes ++ more)) refl (λ k. head_length-append (c ∷ bytes) more k) (empty_line_end-append (b ∷ c ∷ bytes) more n) is

-- a head lies within the bytes
empty_line_end-le : (bytes : List ℕ) (n : ℕ) → empty_line_end bytes ≡ Some n → n ≤ length bytes
empty_line_end-le [] n is = absurd (cc)
empty_line_end-le (b ∷ bytes) n is = by (b == 10 && nat_lt 0 (line_end_length bytes)) (empty_line_end bytes) refl refl (λ k. empty_line_end-le bytes k)
  where
    by : (t : Bool) (o : Option ℕ) → (b == 10 && nat_lt 0 (line_end_length bytes)) ≡ t → empty_line_end bytes ≡ o
        → ((k : ℕ) → empty_line_end bytes ≡ Some k → k ≤ length bytes) → n ≤ length (b ∷ bytes)
    by true o end found less =
        let at : Some (1 + line_end_length bytes) ≡ Some n = rw end at is in
        let long : 1 + line_end_length bytes ≡ n = cc in
        omega (arith, line_end-le bytes)
    by false (Some k) end found less =
        let at : Some (k + 1) ≡ Some n = rw (end, found) at is in
        let long : k + 1 ≡ n = cc in
        omega (arith, less k found)
    by false None end found less = absurd (let gone = rw (end, found) at is in cc)

pub head_length-le : (bytes : List ℕ) (n : ℕ) → head_length bytes ≡ Some n → n ≤ length bytes
head_length-le [] n is = absurd (cc)
head_length-le (b ∷ bytes) n is = by (is_line_end b bytes) (head_length bytes) refl refl (λ k. head_length-le bytes k)
  where
    by : (t : Bool) (o : Option ℕ) → is_line_end b bytes ≡ t → head_length bytes ≡ o
        → ((k : ℕ) → head_length bytes ≡ Some k → k ≤ length bytes) → n ≤ length (b ∷ bytes)
    by true (Some k) end found less =
        let at : Some (k + 1) ≡ Some n = rw (end, found) at is in
        let long : k + 1 ≡ n = cc in
        omega (arith, less k found)
    by true None end found less = absurd (let gone = rw (end, found) at is in cc)
    by false o end found less = empty_line_end-le (b ∷ bytes) n (rw end at is)

-- ---- fronts

-- by the length of the body
with_body-append : (asks : Asks) (count used : ℕ) (after more : List ℕ)
    → is_waiting (with_body asks count used after) ≡ false → with_body asks count used (after ++ more) ≡ with_body asks count used after
with_body-append asks count used after more settled = by (nat_lt (length after) count) refl
  where
    by : (t : Bool) → nat_lt (length after) count ≡ t → with_body asks count used (after ++ more) ≡ with_body asks count used after
    by true short = absurd (let gone = rw short at settled in cc)
    by false short =
        let room : count ≤ length after = grind (arith, nat_tests) in
        let longer : nat_lt (length (after ++ more)) count ≡ false = rw length-append (grind (arith, nat_tests)) in
        rw (short, longer, take-append-le count after more room) refl

by_length-append : (asks : Asks) (given : BodyLength) (used : ℕ) (after more : List ℕ)
    → is_waiting (by_length asks given used after) ≡ false → by_length asks given used (after ++ more) ≡ by_length asks given used after
by_length-append asks Unclear used after more settled = refl
by_length-append asks Absent used after more settled = by (is_post asks.method) refl
  where
    by : (t : Bool) → is_post asks.method ≡ t → by_length asks Absent used (after ++ more) ≡ by_length asks Absent used after
    by true post = rw post refl
    by false post = rw post (with_body-append asks 0 used after more (rw post at settled))
by_length-append asks (Given count) used after more settled = by (nat_lt body_max count) refl
  where
    by : (t : Bool) → nat_lt body_max count ≡ t → by_length asks (Given count) used (after ++ more) ≡ by_length asks (Given count) used after
    by true big = rw big refl
    by false big = rw big (with_body-append asks count used after more (rw big at settled))

after_head-append : (read : Option Asks) (used : ℕ) (after more : List ℕ)
    → is_waiting (after_head read used after) ≡ false → after_head read used (after ++ more) ≡ after_head read used after
after_head-append None used after more settled = refl
after_head-append (Some asks) used after more settled = by asks.has_coding refl
  where
    by : (t : Bool) → asks.has_coding ≡ t → after_head (Some asks) used (after ++ more) ≡ after_head (Some asks) used after
    by true coded = rw coded refl
    by false coded = rw coded (by_length-append asks asks.length used after more (rw coded at settled))

after-append : (head after more : List ℕ) (front : Front)
    → IsFrontAfter head after front → is_waiting front ≡ false → IsFrontAfter head (after ++ more) front
after-append head after more front = by (has_too_many_lines head)
  where
    by : (t : Bool) → MatchBool t (front ≡ Fixed (plain 431 None true true) (length head))
        ((read : Option RequestHead) × HeadReads head read × (front ≡ after_head (option_map asks_of read) (length head) after))
        → is_waiting front ≡ false
        → MatchBool t (front ≡ Fixed (plain 431 None true true) (length head))
        ((read : Option RequestHead) × HeadReads head read × (front ≡ after_head (option_map asks_of read) (length head) (after ++ more)))
    by true is settled = is
    by false is settled = (is.0, is.1, is.2 ∙ sym (after_head-append (option_map asks_of is.0) (length head) after more (ap is_waiting (sym is.2) ∙ settled)))

-- the first bytes stay the first
pub first-append : (n : ℕ) (bytes more : List ℕ) → (rest : List ℕ) × (take n (bytes ++ more) ≡ take n bytes ++ rest)
first-append zero bytes more = ([], refl)
first-append (suc n) [] more = (take (suc n) more, refl)
first-append (suc n) (b ∷ bytes) more = let x = first-append n bytes more in (x.0, ap (λ xs. b ∷ xs) x.1)

-- A front that waits for no byte stays when more bytes come.
pub front_stable : (bytes more : List ℕ) (front : Front)
    → IsFront bytes front → is_waiting front ≡ false → IsFront (bytes ++ more) front
front_stable bytes more front is settled = by (head_length (take head_max bytes)) refl is
  where
    waiting : (t : Bool) → front ≡ (if t then Ended else CutShort) → ⊥
    waiting true at = let gone = ap is_waiting (sym at) ∙ settled in cc
    waiting false at = let gone = ap is_waiting (sym at) ∙ settled in cc

    full : (t : Bool) → nat_le head_max (length bytes) ≡ t → head_length (take head_max bytes) ≡ None → front ≡ headless bytes → IsFront (bytes ++ more) front
    full true big none at =
        let room : head_max ≤ length bytes = grind (arith, nat_tests) in
        let bigger : nat_le head_max (length (bytes ++ more)) ≡ true = rw length-append (grind (arith, nat_tests)) in
        let same : headless (bytes ++ more) ≡ headless bytes = rw (big, bigger) refl in
        rw (take-append-le head_max bytes more room, none) (at ∙ sym same)
    full false big none at = absurd (waiting (length (after_blank bytes) == 0) (rw big at at))

    by : (o : Option ℕ) → head_length (take head_max bytes) ≡ o
        → MatchOption o (front ≡ headless bytes) (λ n. IsFrontAfter (take n bytes) (drop n bytes) front) → IsFront (bytes ++ more) front
    by None none at = full (nat_le head_max (length bytes)) refl none at
    by (Some n) found at =
        let first = first-append head_max bytes more in
        let longer : head_length (take head_max (bytes ++ more)) ≡ Some n = rw first.1 (head_length-append (take head_max bytes) first.0 n found) in
        let room : n ≤ length bytes = omega (arith, head_length-le (take head_max bytes) n found, length-take head_max bytes) in
        found_front (bytes ++ more) (take n bytes) (drop n bytes ++ more) n front longer (sym (take-append-le n bytes more room)) (sym (drop-append-le n bytes more room))
        (after-append (take n bytes) (drop n bytes) more front at settled)

-- ---- one front

head_unique : (bytes : List ℕ) (r q : Option RequestHead) → HeadReads bytes r → HeadReads bytes q → r ≡ q
head_unique bytes (Some h) (Some k) x y = ap Some (request_unique bytes h k [] [] x.0 y.0).0
head_unique bytes (Some h) None x y = absurd (omega (arith, x.1, y h x.0))
head_unique bytes None (Some k) x y = absurd (omega (arith, y.1, x k y.0))
head_unique bytes None None x y = refl

-- There is one front.
pub front_unique : (bytes : List ℕ) (f g : Front) → IsFront bytes f → IsFront bytes g → f ≡ g
front_unique bytes f g = by (head_length (take head_max bytes))
  where
    after : (t : Bool) (head rest : List ℕ) (fixed : Front)
        → MatchBool t (f ≡ fixed) ((read : Option RequestHead) × HeadReads head read × (f ≡ after_head (option_map asks_of read) (length head) rest))
        → MatchBool t (g ≡ fixed) ((read : Option RequestHead) × HeadReads head read × (g ≡ after_head (option_map asks_of read) (length head) rest))
        → f ≡ g
    after true head rest fixed x y = x ∙ sym y
    after false head rest fixed x y =
        x.2 ∙ (ap (λ read. after_head (option_map asks_of read) (length head) rest) (head_unique head x.0 y.0 x.1 y.1) ∙ sym y.2)

    by : (o : Option ℕ)
        → MatchOption o (f ≡ headless bytes) (λ n. IsFrontAfter (take n bytes) (drop n bytes) f)
        → MatchOption o (g ≡ headless bytes) (λ n. IsFrontAfter (take n bytes) (drop n bytes) g) → f ≡ g
    by None x y = x ∙ sym y
    by (Some n) x y = after (has_too_many_lines (take n bytes)) (take n bytes) (drop n bytes) (Fixed (plain 431 None true true) (length (take n bytes))) x y
