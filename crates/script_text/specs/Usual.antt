-- Inside: the tokens of a line that checks a request in the usual form, and its text without spaces and escapes.
use Rattle.std.specs.Prelude.{ℕ, List, [], ◌∷◌, ◌++◌, codes}
use Rattle.json.specs.Token.{Token, begin_object, end_object, key}
use Rattle.rate_types.specs.Requests.{RequestParts}
use Rattle.request_tokens.specs.Usual.{request_tokens}
use Rattle.request_tokens.specs.Compact.{request_text}

-- {"check":..}
abbrev pub check_tokens : RequestParts → List Token
check_tokens r = begin_object ∷ key (codes "check") ∷ request_tokens r (end_object ∷ [])

-- the text of these tokens without spaces and escapes
abbrev pub check_text : RequestParts → List ℕ
check_text r = codes "{\"check\":" ++ request_text r (codes "}")
