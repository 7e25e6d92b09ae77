use Rattle.std.proofs.Common.{◌≡◌, ◌≤◌, length, take, Some, None, arith, sym, ap, ◌∙◌, length-take}
use Rattle.http_front.specs.Head.{head_length}
use Rattle.http_front.proofs.Parts.{found_result, headless_part}
use Rattle.http_front.proofs.part.read_front.Goals as goal

pub split_at-requires : goal.split_at-requires
split_at-requires c =
    let within : c.in-Some.used ≤ length c.first_bytes.result.now = c.in-Some.ensures.within in
    omega (arith, ap length c.first_bytes.ensures, length-take 16384 c.args.bytes.now)

pub part_after-requires : goal.part_after-requires
part_after-requires c =
    let within : c.in-Some.used ≤ length c.first_bytes.result.now = c.in-Some.ensures.within in
    let long : length c.split_at.result.0.now ≡ c.in-Some.used = c.split_at.ensures.front_len in
    omega (arith, ap length c.first_bytes.ensures, length-take 16384 c.args.bytes.now)

pub returns-in-Some-clause-part : goal.returns-in-Some-clause-part
returns-in-Some-clause-part c =
    let at : head_length (take 16384 c.args.bytes.now) ≡ Some c.in-Some.used = ap head_length (sym c.first_bytes.ensures) ∙ sym c.in-Some.ensures.at in
    (found_result c.args.bytes.now _ _ c.in-Some.used c.part_after.result at c.split_at.ensures.front c.split_at.ensures.back c.part_after.ensures.part
    c.part_after.ensures.memory).0

pub returns-in-Some-clause-memory : goal.returns-in-Some-clause-memory
returns-in-Some-clause-memory c =
    let at : head_length (take 16384 c.args.bytes.now) ≡ Some c.in-Some.used = ap head_length (sym c.first_bytes.ensures) ∙ sym c.in-Some.ensures.at in
    (found_result c.args.bytes.now _ _ c.in-Some.used c.part_after.result at c.split_at.ensures.front c.split_at.ensures.back c.part_after.ensures.part
    c.part_after.ensures.memory).1

pub returns-in-None-clause-part : goal.returns-in-None-clause-part
returns-in-None-clause-part c =
    let none : head_length (take 16384 c.args.bytes.now) ≡ None = ap head_length (sym c.first_bytes.ensures) ∙ sym c.in-None.ensures.at in
    headless_part c.args.bytes.now c.part_headless.result none c.part_headless.ensures
