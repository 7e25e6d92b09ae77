use Rattle.std.proofs.Common.{rules, ap}
use Rattle.proto_json.specs.Said.{reading_of}
use Rattle.proto_json.specs.Document.{json_said, document}
use Rattle.proto_json.proofs.Documents.{json_of-read, json_of-none}
use Rattle.proto_json.proofs.bytes.parse.Goals as goal

pub returns-in-Ok : goal.returns-in-Ok
unfolding document
returns-in-Ok c = ap (λ o. reading_of (json_said o)) (json_of-read _ _ c.in-Ok.ensures.ok.0 c.in-Ok.ensures.ok.1)

pub returns-else-is_memory : goal.returns-else-is_memory
unfolding document
returns-else-is_memory c = rw (c.empty.ensures) (ap (λ o. reading_of (json_said o)) (json_of-none _ (c.in-Err.ensures.err (search rules))))
