use Rattle.std.proofs.Common.{◌≤◌, length, inl, arith, rules}
use Rattle.cli_exits.specs.World.{IsTooLong}
use Rattle.cli_exits.proofs.Told.{told_map}
use Rattle.cli_exits.proofs.input.read_input.Goals as goal

pub returns-in-Err-TooLong-clause-fault : goal.returns-in-Err-TooLong-clause-fault
returns-in-Err-TooLong-clause-fault g c =
    let reads = rw c.in-Err-TooLong.field-0-is at c.in-Err-TooLong.ensures.reads in
    record {
      events = reads.events;
      grew = reads.grew;
      are = (
        inl (omega (arith, reads.are.0, reads.are.1)),
        told_map (g.S.Source.left c.args.source.now) (λ bytes. c.in-Err-TooLong.field-0-0 ≤ length bytes) IsTooLong
            (λ bytes h. inl (omega (arith, h, reads.are.1))) (c.in-Err-TooLong.ensures.longer c.in-Err-TooLong.field-0-0 (search rules)),
      );
    }
