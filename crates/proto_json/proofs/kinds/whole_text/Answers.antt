use Rattle.std.proofs.Common.{rules, arith, ◌≡◌, true}
use Rattle.rate_types.specs.Durations.{is_numeral}
use Rattle.proto_json.proofs.Numerals.{text_over}
use Rattle.proto_json.proofs.kinds.whole_text.Goals as goal

pub returns-in-Err : goal.returns-in-Err
returns-in-Err c = let is : is_numeral 20 c.args.text.now ≡ true = search rules in text_over c.args.greatest c.args.text.now (omega arith) is c.in-Err.ensures.value.0
