-- What the tokens of a line that checks a request in the usual form are read as.
use Rattle.std.proofs.Common.{◌≡◌, ℕ, List, [], ◌∷◌, ◌++◌, Some, codes, arith, refl, sym, ap, ◌∙◌}
use Rattle.std.specs.Str.{IsUtf8}
use Rattle.json.specs.Json as json
use Rattle.json.specs.Lex.{tokens}
use Rattle.json.specs.Token.{end_object, begin_object, key}
use Rattle.json.specs.Tree.{json_tokens}
use Rattle.json.specs.Print.{print, ArePrintable}
use Rattle.json.proofs.OnLiterals.{json_on_literals}
use Rattle.json.proofs.Printed.Tokens.{tokens-print}
use Rattle.serde_json.specs.Data.{Data, object, member, no_members}
use Rattle.serde_json.specs.Read.{of_json}
use Rattle.serde_json.proofs.OnLiterals.{serde_json_on_literals}
use Rattle.rate_types.specs.Requests.{RequestParts}
use Rattle.proto_json.specs.Said.{says}
use Rattle.proto_json.specs.Fields.{take, field, standing, after, ends}
use Rattle.proto_json.specs.Kinds.{and_read, message, any}
use Rattle.script_run.specs.ScriptLine.{check}
use Rattle.request_tokens.specs.Usual.{IsUsual}
use Rattle.request_tokens.proofs.Datas.{request_json, request_data, request_is, request_deep, request_read}
use Rattle.request_tokens.proofs.Saying.{request_says}
use Rattle.request_tokens.proofs.Laws.{document_of}
use Rattle.request_tokens.proofs.Printing.{request_printed, request_printable}
use Rattle.script_text.specs.Script.{line, line_at, line_in, check_in, line_of}
use Rattle.script_text.specs.Usual.{check_tokens, check_text}

abbrev line_json : RequestParts → json.Json
line_json r = json.object (json.member (codes "check") (request_json r) json.no_members)

abbrev line_data : RequestParts → Data
line_data r = object (member (codes "check") (request_data r) no_members)

line_is : (r : RequestParts) → check_tokens r ≡ json_tokens (line_json r)
line_is r = ap (λ l. begin_object ∷ key (codes "check") ∷ l) (request_is r (end_object ∷ []))

line_read : (r : RequestParts) → of_json (line_json r) ≡ Some (line_data r)
unfolding serde_json_on_literals
line_read r = rw (request_read r) refl

line_says : (r : RequestParts) → IsUsual r → line_at [] (line_data r) ≡ says (Some (check r))
unfolding serde_json_on_literals and_read message line_in take field standing after any ends check_in
line_says r usual = rw (request_says _ r usual) refl

pub usual_line : (bytes : List ℕ) (r : RequestParts) → IsUtf8 bytes → tokens bytes ≡ check_tokens r → IsUsual r → line_of bytes ≡ check r
unfolding line
usual_line bytes r utf8 same usual =
    rw (document_of bytes (line_json r) (line_data r) utf8 (same ∙ line_is r) (omega (arith, request_deep r)) (line_read r), line_says r usual) refl

-- ---- a line without spaces and escapes

check_printed : (r : RequestParts) → print (check_tokens r) ≡ check_text r
unfolding json_on_literals
check_printed r = ap (λ l. codes "{\"check\":" ++ l) (request_printed r (end_object ∷ []))

check_printable : (r : RequestParts) → ArePrintable (check_tokens r)
unfolding ArePrintable
check_printable r = (tt, (tt, request_printable r (end_object ∷ []) (tt, tt)))

pub compact_tokens : (text : List ℕ) (r : RequestParts) → text ≡ check_text r → tokens text ≡ check_tokens r
compact_tokens text r same = ap tokens (same ∙ sym (check_printed r)) ∙ tokens-print (check_tokens r) (check_printable r)
