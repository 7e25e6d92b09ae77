use Rattle.std.proofs.Common.{arith, sym}
use Rattle.std.proofs.lemmas.List.{take_all}
use Rattle.http_front.proofs.part.first_bytes.Goals as goal

pub returns-else-bytes-gt-MAX_HEAD : goal.returns-else-bytes-gt-MAX_HEAD
returns-else-bytes-gt-MAX_HEAD c = sym (take_all 16384 c.args.bytes.now (omega arith))
