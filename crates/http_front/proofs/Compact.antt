-- A text of a request in the usual form that has no space between its tokens and no escape.
use Rattle.std.proofs.Common.{◌≡◌, ℕ, List, [], sym, ap, ◌∙◌}
use Rattle.json.specs.Lex.{tokens}
use Rattle.json.specs.Print.{print, ArePrintable}
use Rattle.json.proofs.OnLiterals.{json_on_literals}
use Rattle.json.proofs.Printed.Tokens.{tokens-print}
use Rattle.rate_types.specs.Requests.{RequestParts}
use Rattle.request_tokens.specs.Compact.{request_text}
use Rattle.request_tokens.specs.Usual.{request_tokens}
use Rattle.request_tokens.proofs.Printing.{request_printed, request_printable}

body_printed : (r : RequestParts) → print (request_tokens r []) ≡ request_text r []
unfolding json_on_literals
body_printed r = request_printed r []

body_printable : (r : RequestParts) → ArePrintable (request_tokens r [])
unfolding ArePrintable
body_printable r = request_printable r [] tt

pub compact_tokens : (text : List ℕ) (r : RequestParts) → text ≡ request_text r [] → tokens text ≡ request_tokens r []
compact_tokens text r same = ap tokens (same ∙ sym (body_printed r)) ∙ tokens-print (request_tokens r []) (body_printable r)
