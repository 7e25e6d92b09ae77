-- The bytes of the answer to want of memory.
use Rattle.std.proofs.Common.{◌≡◌, [], ◌∷◌, ◌++◌, true, false, None, refl}
use Rattle.std.specs.Prelude.{codes}
use Rattle.std.specs.Fmt.{digits}
use Rattle.http_front.specs.Front.{plain}
use Rattle.http_front.specs.Printed.{answer_bytes, head_lines}

pub with_body : answer_bytes (plain 500 None true true) ≡ codes "HTTP/1.1 500 Internal Server Error" ++ (13 ∷ 10 ∷ codes "Content-Type: text/plain") ++
    (13 ∷ 10 ∷ codes "Content-Length: 21") ++ (13 ∷ 10 ∷ codes "Connection: close") ++ (13 ∷ 10 ∷ 13 ∷ 10 ∷ codes "Internal Server Error")
unfolding digits head_lines
with_body = refl

pub without_body : answer_bytes (plain 500 None false true) ≡ codes "HTTP/1.1 500 Internal Server Error" ++ (13 ∷ 10 ∷ codes "Content-Type: text/plain") ++
    (13 ∷ 10 ∷ codes "Content-Length: 21") ++ (13 ∷ 10 ∷ codes "Connection: close") ++ (13 ∷ 10 ∷ 13 ∷ 10 ∷ [])
unfolding digits head_lines
without_body = refl
