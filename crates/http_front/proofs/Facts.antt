-- A front that waits for no byte stands, whatever follows.
use Rattle.std.specs.Prelude.{MatchOption, MatchBool, Result, Ok, Err}
use Rattle.std.proofs.Common.{◌≡◌, ℕ, ◌+◌, ◌≤◌, ◌==◌, Bool, true, false, List, ◌++◌, length, take, drop, Option, Some, None, option_map, nat_lt, nat_le, refl, arith, if◌then◌else◌}
use Rattle.std.proofs.Common.{length-take, length-drop}
use Rattle.std.proofs.lemmas.Bool.Decides.{nat_tests}
use Rattle.httparse.specs.Grammar.{RequestHead}
use Rattle.rate_types.specs.Requests.{RequestParts}
use Rattle.rate_types.specs.declared.refused.Refused.{Refused}
use Rattle.http_front.specs.declared.asks.Asks.{Asks}
use Rattle.http_front.specs.declared.asks.Target.{Target}
use Rattle.http_front.specs.declared.asks.Target.TheVariants.{Json, Healthcheck, Stats, Unknown}
use Rattle.http_front.specs.declared.asks.BodyLength.{BodyLength}
use Rattle.http_front.specs.declared.asks.BodyLength.TheVariants.{Absent, Unclear, Given}
use Rattle.http_front.specs.declared.front.Front.{Front}
use Rattle.http_front.specs.declared.front.Front.TheVariants.{Ended, CutShort, Fixed}
use Rattle.http_front.specs.Asks.{asks_of}
use Rattle.http_front.specs.Head.{head_max, head_length, after_blank, has_too_many_lines, HeadReads}
use Rattle.http_front.specs.Requests.{body_reading}
use Rattle.http_front.specs.Front.{IsFront, IsFrontAfter, used_of, is_waiting, is_post, is_get, body_max, plain, json_front, routed, with_body, by_length, after_head, headless}
use Rattle.http_front.specs.Part.{Stands}
use Rattle.http_front.proofs.Stable.{head_length-le, front_stable, front_unique}

either : (P : Front → Type 0) (t : Bool) (x y : Front) → P x → P y → P (if t then x else y)
either P true x y p q = p
either P false x y p q = q

json-within : (most : ℕ) (asks : Asks) (used : ℕ) (read : Result (Option RequestParts) Refused) → used ≤ most → used_of (json_front asks used read) ≤ most
json-within most asks used (Ok (Some request)) h = h
json-within most asks used (Ok None) h = h
json-within most asks used (Err refused) h = h

routed-within : (most : ℕ) (asks : Asks) (target : Target) (used : ℕ) (body : List ℕ) → used ≤ most → used_of (routed asks target used body) ≤ most
routed-within most asks Json used body h = either (λ f. used_of f ≤ most) (is_post asks.method) _ _ (json-within most asks used (body_reading body) h) h
routed-within most asks Healthcheck used body h = either (λ f. used_of f ≤ most) (is_get asks.method) _ _ h h
routed-within most asks Stats used body h = h
routed-within most asks Unknown used body h = h

with_body-within : (asks : Asks) (count used : ℕ) (after : List ℕ) → used_of (with_body asks count used after) ≤ used + length after
with_body-within asks count used after = by (nat_lt (length after) count) refl
  where
    by : (t : Bool) → nat_lt (length after) count ≡ t → used_of (with_body asks count used after) ≤ used + length after
    by true short = rw short (omega arith)
    by false short =
        let room : count ≤ length after = grind (arith, nat_tests) in
        rw short (routed-within (used + length after) asks asks.target (used + count) (take count after) (omega arith))

by_length-within : (asks : Asks) (given : BodyLength) (used : ℕ) (after : List ℕ) → used_of (by_length asks given used after) ≤ used + length after
by_length-within asks Unclear used after = omega arith
by_length-within asks Absent used after =
    either (λ f. used_of f ≤ used + length after) (is_post asks.method) _ _ (omega arith) (with_body-within asks 0 used after)
by_length-within asks (Given count) used after =
    either (λ f. used_of f ≤ used + length after) (nat_lt body_max count) _ _ (omega arith) (with_body-within asks count used after)

after_head-within : (read : Option Asks) (used : ℕ) (after : List ℕ) → used_of (after_head read used after) ≤ used + length after
after_head-within None used after = omega arith
after_head-within (Some asks) used after =
    either (λ f. used_of f ≤ used + length after) asks.has_coding _ _ (omega arith) (by_length-within asks asks.length used after)

front_within : (bytes : List ℕ) (front : Front) → IsFront bytes front → used_of front ≤ length bytes
front_within bytes front is = by (head_length (take head_max bytes)) refl is
  where
    full : (t : Bool) → nat_le head_max (length bytes) ≡ t → used_of (headless bytes) ≤ length bytes
    full true big = let room : head_max ≤ length bytes = grind (arith, nat_tests) in rw big room
    full false big = rw big (either (λ f. used_of f ≤ length bytes) (length (after_blank bytes) == 0) Ended CutShort (omega arith) (omega arith))

    after : (t : Bool) (head rest : List ℕ) → length head + length rest ≤ length bytes
        → MatchBool t (front ≡ Fixed (plain 431 None true true) (length head)) ((read : Option RequestHead) × HeadReads head read × (front ≡ after_head
        (option_map asks_of read) (length head) rest))
        → used_of front ≤ length bytes
    after true head rest room x = rw x (omega arith)
    after false head rest room x = rw x.2 (omega (arith, after_head-within (option_map asks_of x.0) (length head) rest))

    by : (o : Option ℕ) → head_length (take head_max bytes) ≡ o
        → MatchOption o (front ≡ headless bytes) (λ n. IsFrontAfter (take n bytes) (drop n bytes) front) → used_of front ≤ length bytes
    by None none x = rw x (full (nat_le head_max (length bytes)) refl)
    by (Some n) found x =
        let room : n ≤ length bytes = omega (arith, head_length-le (take head_max bytes) n found, length-take head_max bytes) in
        after (has_too_many_lines (take n bytes)) (take n bytes) (drop n bytes) (omega (arith, length-take n bytes, length-drop n bytes)) x

pub standing : (bytes : List ℕ) (front : Front) → IsFront bytes front → is_waiting front ≡ false → Stands bytes front
standing bytes front is settled = record {
  front_is = is;
  settled = settled;
  within = front_within bytes front is;
  stays = λ more. front_stable bytes more front is settled;
  only = λ more other at. front_unique (bytes ++ more) other front at (front_stable bytes more front is settled);
}
