-- What the head of a request asks for.
use Rattle.std.specs.Prelude.{ℕ, Bool, true, false, ◌&&◌, ◌||◌, ◌==◌, nat_le, List, [], ◌∷◌, length, map, filter, codes, bytes_eq}
use Rattle.std.specs.Prelude.{if◌then◌else◌}
use Rattle.std.specs.List.{list_any, list_all, slice_split, before_first}
use Rattle.std.specs.Char.{is_ascii_digit, to_ascii_lowercase}
use Rattle.std.specs.Str.Parse.{digits_value}
use Rattle.httparse.specs.Grammar.{RequestHead, trim_ows}
use Rattle.httparse.specs.Spans.{name_and_value}
use Rattle.http_front.specs.declared.asks.Method.{Method}
use Rattle.http_front.specs.declared.asks.Method.TheVariants.{Get, Head, Post, Other}
use Rattle.http_front.specs.declared.asks.Target.{Target}
use Rattle.http_front.specs.declared.asks.Target.TheVariants.{Json, Healthcheck, Stats, Unknown}
use Rattle.http_front.specs.declared.asks.BodyLength.{BodyLength}
use Rattle.http_front.specs.declared.asks.BodyLength.TheVariants.{Absent, Unclear, Given}
use Rattle.http_front.specs.declared.asks.Asks.{Asks}

-- the same name, in either ASCII case
abbrev pub is_name : List ℕ → List ℕ → Bool
is_name name bytes = bytes_eq (map to_ascii_lowercase bytes) (map to_ascii_lowercase name)

-- the values of the fields with this name, in their order
abbrev pub values_of : List ℕ → List (List ℕ × List ℕ) → List (List ℕ)
values_of name fields = map (λ f. f.1) (filter (λ f. is_name name f.0) fields)

-- there is a value
abbrev pub is_there : List (List ℕ) → Bool
is_there [] = false
is_there (value ∷ values) = true

-- the method's name, byte for byte
abbrev pub method_of : List ℕ → Method
method_of name =
    if bytes_eq name (codes "GET") then Get else (
    if bytes_eq name (codes "HEAD") then Head else (
    if bytes_eq name (codes "POST") then Post else Other))

-- the target up to a first question mark
abbrev pub target_of : List ℕ → Target
target_of target = let path = before_first (λ b. b == 63) target in
    if bytes_eq path (codes "/json") then Json else (
    if bytes_eq path (codes "/healthcheck") then Healthcheck else (
    if bytes_eq path (codes "/stats") then Stats else Unknown))

-- 1 to 10 digits
abbrev pub is_length : List ℕ → Bool
is_length value = nat_le 1 (length value) && nat_le (length value) 10 && list_all is_ascii_digit value

-- the length that a value gives
abbrev pub length_of : List ℕ → BodyLength
length_of value = if is_length value then Given (digits_value 10 value) else Unclear

-- what the values of Content-Length say: nothing, a length, or what is unclear
abbrev pub body_length : List (List ℕ) → BodyLength
body_length [] = Absent
body_length (value ∷ []) = length_of value
body_length (value ∷ other ∷ more) = Unclear

-- a value has the word `close` among its comma-separated words
abbrev pub has_close : List ℕ → Bool
has_close value = list_any (λ word. is_name (codes "close") (trim_ows word)) (slice_split (λ b. b == 44) value)

-- some value has it
abbrev pub says_close : List (List ℕ) → Bool
says_close values = list_any has_close values

-- all that the answer depends on; HTTP/1.0 closes
unfoldable pub asks_of : RequestHead → Asks
asks_of head = let fields = map name_and_value head.fields in record {
  method = method_of head.method;
  target = target_of head.target;
  has_coding = is_there (values_of (codes "transfer-encoding") fields);
  length = body_length (values_of (codes "content-length") fields);
  closes = head.minor == 0 || says_close (values_of (codes "connection") fields);
}
