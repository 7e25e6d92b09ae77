-- The bytes of an answer.
use Rattle.std.specs.Prelude.{ℕ, Bool, List, [], ◌∷◌, ◌++◌, length, Option, Some, None, unwrap_or, decimal, codes, if◌then◌else◌}
use Rattle.http.specs.StatusCode.{reason_phrase, code_digits}
use Rattle.http_front.specs.declared.answer.Allow.{Allow}
use Rattle.http_front.specs.declared.answer.Allow.TheVariants.{Post, Get}
use Rattle.http_front.specs.declared.answer.Body.{Body}
use Rattle.http_front.specs.declared.answer.Body.TheVariants.{Phrase, Json}
use Rattle.http_front.specs.declared.answer.HttpAnswer.{HttpAnswer}

-- the phrase of a status
abbrev pub phrase : ℕ → List ℕ
phrase status = unwrap_or (reason_phrase status) []

-- the bytes of a body
abbrev pub body_bytes : ℕ → Body → List ℕ
body_bytes status Phrase = phrase status
body_bytes status (Json text) = text

-- the kind of a body
abbrev pub content_type : Body → List ℕ
content_type Phrase = codes "text/plain"
content_type (Json text) = codes "application/json"

-- the bytes of a line with its end
abbrev pub line : List ℕ → List ℕ
line text = text ++ 13 ∷ 10 ∷ []

-- the line of an answer 405
abbrev pub allow_line : Option Allow → List ℕ
allow_line None = []
allow_line (Some Post) = line (codes "Allow: POST")
allow_line (Some Get) = line (codes "Allow: GET")

-- the line of an answer after which the connection closes
abbrev pub close_line : Bool → List ℕ
close_line closes = if closes then line (codes "Connection: close") else []

-- the end of a line, and the beginning of the next
abbrev pub next_line : List ℕ → List ℕ
next_line text = 13 ∷ 10 ∷ text

-- the status line, the fields and the empty line
unfoldable pub head_lines : List ℕ → List ℕ → List ℕ → ℕ → List ℕ → List ℕ → List ℕ
head_lines status phrase kind count allow close =
    codes "HTTP/1.1 " ++ (status ++ (codes " " ++ (phrase
    ++ (next_line (codes "Content-Type: ") ++ (kind
    ++ (next_line (codes "Content-Length: ") ++ (decimal count
    ++ (next_line [] ++ (allow ++ (close ++ next_line []))))))))))

-- those of an answer
abbrev pub head_bytes : HttpAnswer → List ℕ
head_bytes answer = head_lines (code_digits answer.status) (phrase answer.status) (content_type answer.body)
    (length (body_bytes answer.status answer.body)) (allow_line answer.allow) (close_line answer.closes)

-- and the body, where it is sent
abbrev pub answer_bytes : HttpAnswer → List ℕ
answer_bytes answer = head_bytes answer ++ (if answer.sends_body then body_bytes answer.status answer.body else [])
