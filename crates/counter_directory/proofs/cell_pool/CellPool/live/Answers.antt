use Rattle.std.proofs.Common.{◌≡◌, ◌+◌, ◌<◌, ◌^◌, arith, rules}
use Rattle.std.specs.Prelude.{vec_len}
use Rattle.counter_directory.specs.declared.cell_pool.CellPool.{CellPool}
use Rattle.counter_directory.specs.Claims.{live_below}
use Rattle.counter_directory.specs.Windows.{ExpiredBelow}
use Rattle.counter_directory.proofs.Counting.{counted, live_is, ring_lens}
use Rattle.counter_directory.proofs.cell_pool.CellPool.live.Goals as goal

all_of : (s : CellPool) → ring_lens s.rings.items + vec_len s.expired + vec_len s.held + vec_len s.reserved ≡ s.fresh
all_of s = let c = counted _ _ _ _ _ _ _ _ _ s.cells_lawful in omega (arith, s.expired.ok.0, s.held.ok.0, s.reserved.ok.0)

live_of : (s : CellPool) → ExpiredBelow 4 s.last s.rings.items → live_below s.cells s.last s.claims ≡ ring_lens s.rings.items
live_of s e = live_is _ _ _ _ _ _ _ _ _ s.cells_lawful (omega (arith, s.rings.ok.0, s.four)) e

pub overflow_add-rest-2 : goal.overflow_add-rest-2
overflow_add-rest-2 c = let a = all_of c.args.self.now in let m = c.args.self.now.cells_lawful.most in let z = c.args.self.now.sizes.0 in
    let n : c.len.result + c.len-2.result + c.len-3.result < 2 ^ 64 = omega (arith, c.len.ensures, c.len-2.ensures, c.len-3.ensures) in search rules

pub overflow_cast-result : goal.overflow_cast-result
overflow_cast-result c = let a = all_of c.args.self.now in let m = c.args.self.now.cells_lawful.most in let z = c.args.self.now.sizes.0 in
    let n : c.len.result + c.len-2.result + c.len-3.result < 2 ^ 32 = omega (arith, c.len.ensures, c.len-2.ensures, c.len-3.ensures) in search rules

pub overflow_sub-result : goal.overflow_sub-result
overflow_sub-result c = omega (arith, all_of c.args.self.now, c.len.ensures, c.len-2.ensures, c.len-3.ensures)

pub returns-clause-live : goal.returns-clause-live
returns-clause-live c = omega (arith, all_of c.args.self.now, live_of c.args.self.now c.requires.expired, c.len.ensures, c.len-2.ensures, c.len-3.ensures)

pub returns-clause-all : goal.returns-clause-all
returns-clause-all c = omega (arith, all_of c.args.self.now, c.len.ensures, c.len-2.ensures, c.len-3.ensures)
