-- How long the printed parts of an answer are, and what they are one behind the other.
use Rattle.std.specs.Prelude.{Result, Ok, Err, OnErr}
use Rattle.std.proofs.Common.{◌≡◌, ℕ, ◌+◌, ◌<◌, ◌≤◌, ◌==◌, Bool, true, false, List, [], ◌++◌, length, Option, Some, None, unwrap_or, nat_le, refl, arith, append-nil, append_assoc, if◌then◌else◌, codes, decimal}
use Rattle.std.proofs.lemmas.Bool.Decides.{nat_tests}
use Rattle.http.specs.StatusCode.{reason_phrase}
use Rattle.http_front.specs.Front.{is_json}
use Rattle.http_front.specs.Printed.{phrase, body_bytes, content_type, allow_line, close_line, next_line, head_lines}
use Rattle.http_front.specs.declared.answer.Allow.{Allow}
use Rattle.http_front.specs.declared.answer.Allow.TheVariants.{Post, Get}
use Rattle.http_front.specs.declared.answer.Body.{Body}
use Rattle.http_front.specs.declared.answer.Body.TheVariants.{Phrase, Json}

-- a phrase of at most 31 bytes
record IsShort (text : Option (List ℕ)) : Type 0 where
  fits : nat_le (length (unwrap_or text [])) 31 ≡ true

by : (n code : ℕ) (x : List ℕ) (rest : Option (List ℕ)) → nat_le (length x) 31 ≡ true → IsShort rest → IsShort (if n == code then Some x else rest)
by n code x rest p q = each (n == code)
  where
    each : (t : Bool) → IsShort (if t then Some x else rest)
    each true = record { fits = p }
    each false = q

short : (n : ℕ) → IsShort (reason_phrase n)
short n =
    by n 100 _ _ refl (by n 101 _ _ refl (by n 102 _ _ refl (by n 103 _ _ refl (by n 200 _ _ refl (by n 201 _ _ refl (by n 202 _ _ refl (
    by n 203 _ _ refl (by n 204 _ _ refl (by n 205 _ _ refl (by n 206 _ _ refl (by n 207 _ _ refl (by n 208 _ _ refl (by n 226 _ _ refl (
    by n 300 _ _ refl (by n 301 _ _ refl (by n 302 _ _ refl (by n 303 _ _ refl (by n 304 _ _ refl (by n 305 _ _ refl (by n 307 _ _ refl (
    by n 308 _ _ refl (by n 400 _ _ refl (by n 401 _ _ refl (by n 402 _ _ refl (by n 403 _ _ refl (by n 404 _ _ refl (by n 405 _ _ refl (
    by n 406 _ _ refl (by n 407 _ _ refl (by n 408 _ _ refl (by n 409 _ _ refl (by n 410 _ _ refl (by n 411 _ _ refl (by n 412 _ _ refl (
    by n 413 _ _ refl (by n 414 _ _ refl (by n 415 _ _ refl (by n 416 _ _ refl (by n 417 _ _ refl (by n 418 _ _ refl (by n 421 _ _ refl (
    by n 422 _ _ refl (by n 423 _ _ refl (by n 424 _ _ refl (by n 425 _ _ refl (by n 426 _ _ refl (by n 428 _ _ refl (by n 429 _ _ refl (
    by n 431 _ _ refl (by n 451 _ _ refl (by n 500 _ _ refl (by n 501 _ _ refl (by n 502 _ _ refl (by n 503 _ _ refl (by n 504 _ _ refl (
    by n 505 _ _ refl (by n 506 _ _ refl (by n 507 _ _ refl (by n 508 _ _ refl (by n 510 _ _ refl (by n 511 _ _ refl (
    record { fits = refl }))))))))))))))))))))))))))))))))))))))))))))))))))))))))))))))

at_most : (n m : ℕ) → nat_le n m ≡ true → n ≤ m
at_most n m x = grind (arith, nat_tests)

-- each phrase is one
phrase_short : (status : ℕ) → length (phrase status) ≤ 31
phrase_short status = at_most (length (phrase status)) 31 (short status).fits

allow_short : (allow : Option Allow) → length (allow_line allow) ≤ 13
allow_short None = omega arith
allow_short (Some Post) = omega arith
allow_short (Some Get) = omega arith

close_short : (closes : Bool) → length (close_line closes) ≤ 19
close_short true = omega arith
close_short false = omega arith

sent_short : (sends : Bool) (text : List ℕ) (most : ℕ) → length text ≤ most → length (if sends then text else []) ≤ most
sent_short true text most x = x
sent_short false text most x = omega arith

-- 256 bytes are enough for an answer without a JSON body
pub plain_fits : (status : ℕ) (allow : Option Allow) (body : Body) (sends closes : Bool) (count room : ℕ) → count ≤ 40
    → room < 57 + (3 + (length (phrase status) + (length (content_type body) + (count + (length (allow_line allow)
    + (length (close_line closes) + length (if sends then body_bytes status body else [])))))))
    → 256 ≤ room → is_json body ≡ true
plain_fits status allow (Json text) sends closes count room few full most = refl
plain_fits status allow Phrase sends closes count room few full most = absurd (omega (
  arith,
  few,
  full,
  most,
  phrase_short status,
  allow_short allow,
  close_short closes,
  sent_short sends (phrase status) 31 (phrase_short status),
))

-- the pieces of an answer are its bytes
pub joined : (status text kind allow close body : List ℕ) (count : ℕ)
    → codes "HTTP/1.1 " ++ (status ++ (codes " " ++ (text ++ (next_line (codes "Content-Type: ") ++ (kind ++ (next_line (codes "Content-Length: ")
    ++ (decimal count ++ (next_line [] ++ (allow ++ (close ++ (next_line [] ++ (body ++ []))))))))))))
    ≡ head_lines status text kind count allow close ++ body
unfolding head_lines
joined status text kind allow close body count = simp (append_assoc, append-nil)

pub on_err : {T E : Type 0} (result : Result T E) (P : Type 0) → P → OnErr result P
on_err (Ok x) P p = tt
on_err (Err e) P p = p
