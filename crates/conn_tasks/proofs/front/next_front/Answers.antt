use Rattle.std.proofs.Common.{◌++◌, refl, arith, le_trans}
use Rattle.rate_io.specs.Events.{given}
use Rattle.http_endpoint.proofs.ReadLemmas.{rose_earlier}
use Rattle.conn_tasks.proofs.SoFars.{so_read, so_ended, so_failed}
use Rattle.http_endpoint.proofs.RestLemmas.{waits_head}
use Rattle.conn_tasks.proofs.Held.{nexts_end}
use Rattle.conn_tasks.proofs.front.next_front.Goals as goal

pub returns-in-Front-clause-nexts : goal.returns-in-Front-clause-nexts
returns-in-Front-clause-nexts g c = λ first turns rest s h.
    let x = c.reads.invariant.so first turns rest s h in
    let found = c.in-Front.ensures.looks x.0 x.2 in
    (x.0, x.1, found.0, found.1, found.2)

pub returns-in-NoMemory-clause-nexts : goal.returns-in-NoMemory-clause-nexts
returns-in-NoMemory-clause-nexts g c = λ first turns rest s h.
    let x = c.reads.invariant.so first turns rest s h in
    (x.0, x.1, c.in-NoMemory.ensures.looks x.0 x.2)

pub reads-smaller : goal.reads-smaller
reads-smaller g c =
    let more = c.in-More-fill.ensures.more refl in
    let room = c.in-More.ensures.room in
    let few = c.look_on.ensures.few c.reads.invariant.few in
    let same = c.in-More.ensures.have in
    omega (arith, more, room, few, same)

pub reads-preserved : goal.reads-preserved
reads-preserved g c =
    let d = c.in-More-fill.ensures.drew in
    record {
      so = λ first turns rest s h.
          let x = c.reads.invariant.so first turns rest s h in
          let now = so_read first c.reads.link.link c.fill.new.link.link turns x.0 d.0 x.1 (d.1 x.0 (waits_head x.0 c.in-More.is_blank (c.in-More.ensures.looks x.0 x.2).1)) in
          (x.0 ++ given d.0, now.0, d.3 x.0 (c.in-More.ensures.looks x.0 x.2).0);
      few = omega (arith, c.fill.ensures.total, c.look_on.ensures.few c.reads.invariant.few);
      waits = le_trans c.reads.invariant.waits c.fill.ensures.waits;
    }

pub returns-in-End-clause-nexts : goal.returns-in-End-clause-nexts
returns-in-End-clause-nexts g c = λ first turns rest s h.
    let x = c.reads.invariant.so first turns rest s h in
    let d = c.in-End.ensures.drew in
    let e = so_ended first c.reads.link.link c.fill.new.link.link turns x.0 d.0 x.1 (d.1 x.0 (waits_head x.0 c.in-More.is_blank (c.in-More.ensures.looks x.0 x.2).1)) d.2.1 d.2.0 in
    rw c.ended.ensures
    (nexts_end first turns x.0 c.args.link.now c.fill.new.link c.fill.new.awaited c.fill.new.inbox
    c.in-More.is_blank e (c.in-More.ensures.looks x.0 x.2).1)

pub returns-in-Failed-clause-nexts : goal.returns-in-Failed-clause-nexts
returns-in-Failed-clause-nexts g c = λ first turns rest s h.
    let x = c.reads.invariant.so first turns rest s h in
    let d = c.in-Failed.ensures.drew in
    (x.0, so_failed first c.reads.link.link c.fill.new.link.link turns x.0 d.0 x.1 (d.1 x.0 (waits_head x.0 c.in-More.is_blank (c.in-More.ensures.looks x.0 x.2).1)) d.2.1 d.2.0)

pub returns-in-Wait-clause-nexts : goal.returns-in-Wait-clause-nexts
returns-in-Wait-clause-nexts g c = λ first turns rest s h.
    let x = c.reads.invariant.so first turns rest s h in
    let d = c.in-Wait.ensures.drew in
    let now = so_read first c.reads.link.link c.fill.new.link.link turns x.0 d.0 x.1 (d.1 x.0 (waits_head x.0 c.in-More.is_blank (c.in-More.ensures.looks x.0 x.2).1)) in (
      x.0 ++ given d.0,
      now.0,
      d.3 x.0 (c.in-More.ensures.looks x.0 x.2).0,
      rose_earlier c.args.link.now.waits c.reads.link.waits c.fill.new.link.waits
          c.reads.invariant.waits d.2.1,
    )
