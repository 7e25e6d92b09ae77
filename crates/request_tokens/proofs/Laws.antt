-- What the tokens of the usual form are read as.
use Rattle.std.proofs.Common.{◌≡◌, ℕ, ◌≤◌, List, [], Some, Ok, arith, refl, ◌∙◌, append-nil}
use Rattle.std.specs.Str.{IsUtf8}
use Rattle.json.specs.Lex.{tokens}
use Rattle.json.specs.Json as json
use Rattle.json.specs.Tree.{json_tokens, depth}
use Rattle.serde_json.specs.Data.{Data}
use Rattle.serde_json.specs.Read.{of_json}
use Rattle.rate_types.specs.Requests.{RequestParts}
use Rattle.proto_json.specs.Said.{says, reading_of, ◌>>=◌}
use Rattle.proto_json.specs.Document.{document}
use Rattle.proto_json.specs.Kinds.{read_some}
use Rattle.proto_json.proofs.Documents.{json_of-read}
use Rattle.reply_text.specs.ReadRequest.{request}
use Rattle.request_tokens.specs.Usual.{IsUsual, request_tokens}
use Rattle.request_tokens.proofs.Datas.{request_json, request_data, request_is, request_deep, request_read, read_of}
use Rattle.request_tokens.proofs.Saying.{request_says}

-- a text of exactly the tokens of a value is read as what that is
pub document_of : (bytes : List ℕ) (j : json.Json) (d : Data) → IsUtf8 bytes → tokens bytes ≡ json_tokens j → depth j ≤ 10 → of_json j ≡ Some d
    → document bytes ≡ says (Some d)
unfolding document
document_of bytes j d utf8 same deep is = rw (json_of-read bytes d utf8 (read_of bytes j d same deep is)) refl

-- a text of exactly the tokens of a request in the usual form says that request
pub usual_reads : (bytes : List ℕ) (r : RequestParts) → IsUtf8 bytes → tokens bytes ≡ request_tokens r [] → IsUsual r
    → reading_of (document bytes >>= read_some (request [])) ≡ Ok (Some r)
usual_reads bytes r utf8 same usual =
    rw (
      document_of bytes (request_json r) (request_data r) utf8 (same ∙ request_is r [] ∙ append-nil (json_tokens (request_json r)))
          (omega (arith, request_deep r)) (request_read r),
      request_says [] r usual,
    ) refl
