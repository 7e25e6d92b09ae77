-- A request whose body is not all there.
use Rattle.std.proofs.Common.{◌≡◌, ℕ, ◌+◌, ◌<◌, ◌≤◌, Bool, true, false, List, length, take, Option, Some, None, nat_lt, refl, ap, ◌∙◌, arith, if◌then◌else◌}
use Rattle.std.proofs.lemmas.Bool.Decides.{nat_tests}
use Rattle.http_front.specs.declared.asks.Asks.{Asks}
use Rattle.http_front.specs.declared.asks.Method.{Method}
use Rattle.http_front.specs.declared.asks.Method.TheVariants.{Get, Head, Post, Other}
use Rattle.http_front.specs.declared.asks.Target.{Target}
use Rattle.http_front.specs.declared.asks.Target.TheVariants.{Json, Healthcheck, Stats, Unknown}
use Rattle.http_front.specs.declared.asks.BodyLength.{BodyLength}
use Rattle.http_front.specs.declared.asks.BodyLength.TheVariants.{Absent, Unclear, Given}
use Rattle.std.specs.Prelude.{Result, Ok, Err}
use Rattle.rate_types.specs.Requests.{RequestParts}
use Rattle.rate_types.specs.declared.refused.Refused.{Refused}
use Rattle.http_front.specs.declared.front.Front.{Front}
use Rattle.http_front.specs.declared.front.Front.TheVariants.{CutShort}
use Rattle.http_front.specs.Requests.{body_reading}
use Rattle.http_front.specs.Front.{used_of, is_waiting, sends, has_json, sends_body, is_post, is_get, body_max, json_front, routed, with_body, by_length, after_head}
use Rattle.http_front.specs.Steps.{body_count}

either : (P : Front → Type 0) (t : Bool) (x y : Front) → P x → P y → P (if t then x else y)
either P true x y p q = p
either P false x y p q = q

json_settled : (asks : Asks) (used : ℕ) (read : Result (Option RequestParts) Refused) → is_waiting (json_front asks used read) ≡ false
json_settled asks used (Ok (Some request)) = refl
json_settled asks used (Ok None) = refl
json_settled asks used (Err refused) = refl

routed-settled : (asks : Asks) (target : Target) (used : ℕ) (body : List ℕ) → is_waiting (routed asks target used body) ≡ false
routed-settled asks Json used body = either (λ f. is_waiting f ≡ false) (is_post asks.method) _ _ (json_settled asks used (body_reading body)) refl
routed-settled asks Healthcheck used body = either (λ f. is_waiting f ≡ false) (is_get asks.method) _ _ refl refl
routed-settled asks Stats used body = refl
routed-settled asks Unknown used body = refl

pub json_sends : (asks : Asks) (used : ℕ) (read : Result (Option RequestParts) Refused) → sends (json_front asks used read) ≡ true
json_sends asks used (Ok (Some request)) = refl
json_sends asks used (Ok None) = refl
json_sends asks used (Err refused) = refl

pub json_has : (asks : Asks) (used : ℕ) (read : Result (Option RequestParts) Refused) → has_json (json_front asks used read) ≡ true
json_has asks used (Ok (Some request)) = refl
json_has asks used (Ok None) = refl
json_has asks used (Err refused) = refl

routed-sends : (asks : Asks) (target : Target) (used : ℕ) (body : List ℕ) → sends (routed asks target used body) ≡ sends_body asks.method
routed-sends asks Json used body = by asks.method refl
  where
    by : (m : Method) → asks.method ≡ m → sends (routed asks Json used body) ≡ sends_body asks.method
    by Post at = rw at (json_sends asks used (body_reading body))
    by Get at = rw at refl
    by Head at = rw at refl
    by Other at = rw at refl
routed-sends asks Healthcheck used body = by asks.method refl
  where
    by : (m : Method) → asks.method ≡ m → sends (routed asks Healthcheck used body) ≡ sends_body asks.method
    by Post at = rw at refl
    by Get at = rw at refl
    by Head at = rw at refl
    by Other at = rw at refl
routed-sends asks Stats used body = refl
routed-sends asks Unknown used body = refl

json_used : (asks : Asks) (used : ℕ) (read : Result (Option RequestParts) Refused) → used_of (json_front asks used read) ≡ used
json_used asks used (Ok (Some request)) = refl
json_used asks used (Ok None) = refl
json_used asks used (Err refused) = refl

routed-used : (asks : Asks) (target : Target) (used : ℕ) (body : List ℕ) → used_of (routed asks target used body) ≡ used
routed-used asks Json used body = either (λ f. used_of f ≡ used) (is_post asks.method) _ _ (json_used asks used (body_reading body)) refl
routed-used asks Healthcheck used body = either (λ f. used_of f ≡ used) (is_get asks.method) _ _ refl refl
routed-used asks Stats used body = refl
routed-used asks Unknown used body = refl

-- what is so of a front that waits for a body of so many bytes
pub record Waits (front : List ℕ → Front) (method : Method) (count used : ℕ) (after : List ℕ) : Type 0 where
  pub cut : (shorter : List ℕ) → length shorter < count → front shorter ≡ CutShort
  pub short : length after < count
  pub most : count ≤ body_max
  pub settled : (longer : List ℕ) → count ≤ length longer → is_waiting (front longer) ≡ false
  pub uses : (longer : List ℕ) → count ≤ length longer → used_of (front longer) ≡ used + count
  pub sent : (longer : List ℕ) → count ≤ length longer → sends (front longer) ≡ sends_body method

with_body-waits : (asks : Asks) (count used : ℕ) (after : List ℕ) → count ≤ body_max
    → is_waiting (with_body asks count used after) ≡ true → Waits (λ xs. with_body asks count used xs) asks.method count used after
with_body-waits asks count used after few waiting = by (nat_lt (length after) count) refl
  where
    whole : (longer : List ℕ) → count ≤ length longer → with_body asks count used longer ≡ routed asks asks.target (used + count) (take count longer)
    whole longer room = let no : nat_lt (length longer) count ≡ false = grind (arith, nat_tests) in rw no refl

    by : (t : Bool) → nat_lt (length after) count ≡ t → Waits (λ xs. with_body asks count used xs) asks.method count used after
    by true short = record {
      cut = λ shorter less. let yes : nat_lt (length shorter) count ≡ true = grind (arith, nat_tests) in rw yes refl;
      short = grind (arith, nat_tests);
      most = few;
      settled = λ longer room. ap is_waiting (whole longer room) ∙ routed-settled asks asks.target (used + count) (take count longer);
      uses = λ longer room. ap used_of (whole longer room) ∙ routed-used asks asks.target (used + count) (take count longer);
      sent = λ longer room. ap sends (whole longer room) ∙ routed-sends asks asks.target (used + count) (take count longer);
    }
    by false short = absurd (let no = rw short at waiting in let yes = routed-settled asks asks.target (used + count) (take count after) in cc)

by_length-waits : (asks : Asks) (given : BodyLength) (used : ℕ) (after : List ℕ)
    → is_waiting (by_length asks given used after) ≡ true → Waits (λ xs. by_length asks given used xs) asks.method (body_count given) used after
by_length-waits asks Unclear used after waiting = absurd (cc)
by_length-waits asks Absent used after waiting = by (is_post asks.method) refl
  where
    by : (t : Bool) → is_post asks.method ≡ t → Waits (λ xs. by_length asks Absent used xs) asks.method 0 used after
    by true post = absurd (let no = rw post at waiting in cc)
    by false post = let w = with_body-waits asks 0 used after (omega arith) (rw post at waiting) in absurd (omega (arith, w.short))
by_length-waits asks (Given count) used after waiting = by (nat_lt body_max count) refl
  where
    by : (t : Bool) → nat_lt body_max count ≡ t → Waits (λ xs. by_length asks (Given count) used xs) asks.method count used after
    by true big = absurd (let no = rw big at waiting in cc)
    by false big =
        let few : count ≤ body_max = grind (arith, nat_tests) in
        rw big (with_body-waits asks count used after few (rw big at waiting))

pub after_head-waits : (asks : Asks) (used : ℕ) (after : List ℕ)
    → is_waiting (after_head (Some asks) used after) ≡ true → Waits (λ xs. after_head (Some asks) used xs) asks.method (body_count asks.length) used after
after_head-waits asks used after waiting = by asks.has_coding refl
  where
    by : (t : Bool) → asks.has_coding ≡ t → Waits (λ xs. after_head (Some asks) used xs) asks.method (body_count asks.length) used after
    by true coded = absurd (let no = rw coded at waiting in cc)
    by false coded = rw coded (by_length-waits asks asks.length used after (rw coded at waiting))
