-- What comes of a request whose rest is still to come.
use Rattle.std.proofs.Common.{◌≡◌, ℕ, ◌+◌, ◌<◌, ◌≤◌, Bool, true, false, List, [], ◌++◌, length, refl, sym, ap, ◌∙◌, subst, append-nil, length-append, arith, if◌then◌else◌, Option, None, inl, inr}
use Rattle.std.proofs.lemmas.List.{drop_all}
use Rattle.rate_io.specs.Events.{Event, given}
use Rattle.rate_io.specs.Links.{LinkState}
use Rattle.http_front.specs.Head.{head_max}
use Rattle.http_front.specs.Front.{IsFront, is_waiting, has_json, used_of}
use Rattle.http_front.specs.Part.{Stands, EndsAt, NeedsMemory}
use Rattle.http_front.specs.declared.front.Front.{Front}
use Rattle.http_front.specs.declared.front.Front.TheVariants.{Ended, CutShort, Fixed, Check, Stats}
use Rattle.http_endpoint.specs.Answers.{WantsMemory}
use Rattle.http_endpoint.specs.Order.{Waits}
use Rattle.http_endpoint.specs.Steps.{WaitsUntil, Drew, Awaits, IsWhole, Comes, ComesTo, Finds, FoundEnd, HeadFinds}
use Rattle.http_endpoint.specs.declared.next.Next.{Next}
use Rattle.http_endpoint.specs.declared.next.Next.TheVariants as next
use Rattle.http_endpoint.specs.declared.next.HeadRead.TheVariants as head
use Rattle.http_endpoint.proofs.ReadLemmas.{failed_later, end_later}

-- ---- the head

-- the input ends where no head stands
pub head_end : (bytes : List ℕ) (old new : LinkState) (events : List Event) (is_blank : Bool)
    → IsFront bytes (if is_blank then Ended else CutShort) → FoundEnd new events
    → HeadFinds bytes old new events (if is_blank then head.Ended else head.CutShort)
head_end bytes old new events true p e = (p, e)
head_end bytes old new events false p e = (p, e)

-- a JSON body takes memory
json_wants : (front : Front) → has_json front ≡ true → WantsMemory front None
json_wants (Fixed fixed used) x = inl x
json_wants (Check request closes used) x = tt
json_wants (Stats method closes used) x = absurd (cc)
json_wants Ended x = absurd (cc)
json_wants CutShort x = absurd (cc)

-- so does a request of more bytes than a head may have
pub long_wants : (front : Front) → is_waiting front ≡ false → head_max < used_of front → WantsMemory front None
long_wants (Fixed fixed used) settled x = inr x
long_wants (Check request closes used) settled x = tt
long_wants (Stats method closes used) settled x = tt
long_wants Ended settled x = absurd (cc)
long_wants CutShort settled x = absurd (cc)

-- want of memory over a JSON body
pub memory_awaits : (bytes : List ℕ) → NeedsMemory bytes → Awaits bytes true
memory_awaits bytes x = (x.0, x.1, sym x.3, json_wants x.0 x.2)

-- a request that isn't whole is cut short where the input ends
pub short_body : (bytes : List ℕ) (total : ℕ) (sent : Bool) → EndsAt bytes total sent → total ≤ 16384 → IsFront bytes CutShort × (length bytes < head_max)
short_body bytes total sent e few = (
  subst (λ (ys : List ℕ). IsFront ys CutShort) (append-nil bytes) (e.until [] (omega (arith, e.short, length-append bytes []))),
  omega (arith, e.short, few),
)

-- ---- a request that is whole

the_same : (bytes : List ℕ) (front other : Front) → Stands bytes front → IsFront bytes other → other ≡ front
the_same bytes front other s at = s.only [] other (subst (λ (ys : List ℕ). IsFront ys other) (sym (append-nil bytes)) at)

-- the front that is found is that which was awaited
pub whole_comes : (bytes unread : List ℕ) (front : Front) → IsWhole bytes → Stands bytes front → unread ≡ [] → Comes bytes unread (next.Front front)
whole_comes bytes unread front w s none = (s, ap used_of (the_same bytes w.0 front w.1 s.front_is) ∙ w.2, none)

-- a head is there
pub not_headless : (bytes : List ℕ) (is_blank : Bool) → IsWhole bytes → IsFront bytes (if is_blank then Ended else CutShort) → ⊥
not_headless bytes true w at = let same = ap is_waiting (the_same bytes w.0 Ended w.1 at) ∙ w.1.settled in cc
not_headless bytes false w at = let same = ap is_waiting (the_same bytes w.0 CutShort w.1 at) ∙ w.1.settled in cc

-- and so is the body
pub not_cut : (bytes : List ℕ) (total : ℕ) (sent : Bool) → IsWhole bytes → EndsAt bytes total sent → ⊥
not_cut bytes total sent w e =
    let short : length (bytes ++ []) < total = omega (arith, e.short, length-append bytes []) in
    let same = ap is_waiting (w.1.only [] CutShort (e.until [] short)) ∙ w.1.settled in cc

-- it is whole once so many bytes are there
pub whole_now : (old read : List ℕ) (total : ℕ) (sent : Bool) → EndsAt old total sent → length old + length read ≡ total → IsWhole (old ++ read)
whole_now old read total sent e whole =
    let f = e.later read (omega (arith, length-append old read)) in (f.0, f.1, f.2 ∙ (sym whole ∙ sym (length-append old read)))

-- ---- the rest

-- until it is there, no request is whole
pub waits_until : (bytes : List ℕ) (total : ℕ) (sent : Bool) → EndsAt bytes total sent → WaitsUntil bytes total
waits_until bytes total sent e more less = (CutShort, e.until more less, refl)

-- nor where no head stands
pub waits_head : (bytes : List ℕ) (is_blank : Bool) → IsFront bytes (if is_blank then Ended else CutShort) → Waits bytes
waits_head bytes true p = (Ended, p, refl)
waits_head bytes false p = (CutShort, p, refl)

-- it came
pub rest_comes : (bytes unread : List ℕ) (old new : LinkState) (events : List Event) (found : Next) → Comes bytes unread found → Finds bytes unread old new events found
rest_comes bytes unread old new events (next.Front front) p = (p.0, p.2 ∙ sym (drop_all (used_of front) bytes (omega (arith, p.1))))
rest_comes bytes unread old new events (next.NoMemory sent) p = p
rest_comes bytes unread old new events next.Ended p = absurd p
rest_comes bytes unread old new events next.CutShort p = absurd p
rest_comes bytes unread old new events next.ReadFault p = absurd p

-- it came and was not kept
pub rest_dropped : (old unread : List ℕ) (total : ℕ) (sent : Bool) (a b : LinkState) (events : List Event) (found : Next)
    → EndsAt old total sent → head_max < total → ComesTo total (length old + length (given events)) sent a b events found → Finds (old ++ given events) unread a b events found
rest_dropped old unread total sent a b events (next.NoMemory said) e long p =
    let f = e.later (given events) (omega (arith, p.0, length-append old (given events))) in
    (f.0, f.1, p.1 ∙ f.3, long_wants f.0 f.1.settled (omega (arith, f.2, long)))
rest_dropped old unread total sent a b events next.CutShort e long p = (e.until (given events) (omega (arith, p.1, length-append old (given events))), p.0)
rest_dropped old unread total sent a b events next.ReadFault e long p = p
rest_dropped old unread total sent a b events next.Ended e long p = absurd p
rest_dropped old unread total sent a b events (next.Front front) e long p = absurd p

-- it ended before
pub rest_cut : (old read : List ℕ) (total : ℕ) (sent : Bool) → EndsAt old total sent → length old + length read < total → IsFront (old ++ read) CutShort
rest_cut old read total sent e less = e.until read (omega (arith, length-append old read))

-- reads came before
pub finds_later : (bytes unread first : List ℕ) (a b c : LinkState) (xs ys : List Event) (found : Next) → Drew first a b xs
    → Finds bytes unread b c ys found → Finds bytes unread a c (xs ++ ys) found
finds_later bytes unread first a b c xs ys (next.Front front) d p = p
finds_later bytes unread first a b c xs ys (next.NoMemory sent) d p = p
finds_later bytes unread first a b c xs ys next.Ended d p = (p.0, end_later c xs ys p.1)
finds_later bytes unread first a b c xs ys next.CutShort d p = (p.0, end_later c xs ys p.1)
finds_later bytes unread first a b c xs ys next.ReadFault d p = failed_later first a b c xs ys d p
