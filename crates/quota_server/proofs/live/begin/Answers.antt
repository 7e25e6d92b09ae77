use Rattle.std.proofs.Common.{◌≡◌, ℕ, List, if◌then◌else◌, max, arith, rules}
use Rattle.rate_types.specs.Sums.{one_if}
use Rattle.rate_types.specs.Counters.{same_text}
use Rattle.quota_server.specs.Holds.{is_none_of, first_of, after_begin}
use Rattle.quota_server.specs.Kept.{counts_in}
use Rattle.quota_server.proofs.Living.{begin_kept, own_within, few_kept, one_at_most}
use Rattle.quota_server.proofs.live.begin.Goals as goal

pub overflow_add-live : goal.overflow_add-live
overflow_add-live c =
    let l = c.args.live.now in
    let few = few_kept l.shares.items (counts_in l.holds) l.held l.clients c.requires.live in
    let one = one_at_most c.lacks.result in
    let is : c.one_if.result ≡ one_if c.lacks.result = c.one_if.ensures in
    let small = l.shares.small in
    let ok = l.shares.ok in
    omega (arith, few, one, is, small, ok)

pub overflow_sub-live : goal.overflow_sub-live
overflow_sub-live c =
    let l = c.args.live.now in
    let own : c.greatest-own.result ≡ first_of (counts_in l.holds c.args.share.client) = rw c.client.ensures at c.greatest-own.ensures in
    let within = own_within l.shares.items (counts_in l.holds) l.held l.clients c.args.share.client c.requires.live in
    omega (arith, own, within)

pub returns-clause-live : goal.returns-clause-live
returns-clause-live c =
    let l = c.args.live.now in
    let y = c.args.share in
    let own : c.greatest-own.result ≡ first_of (counts_in l.holds y.client) = rw c.client.ensures at c.greatest-own.ensures in
    let most : c.max.result ≡ max (first_of (counts_in l.holds y.client)) y.count = search rules in
    let none : c.one_if.result ≡ one_if (is_none_of (counts_in l.holds y.client)) = rw (c.lacks.ensures, c.client-2.ensures) at c.one_if.ensures in
    let then_ : (d : List ℕ) → counts_in c.begin.new.self d
    ≡ (if same_text y.client d then after_begin y.count (counts_in l.holds d) else counts_in l.holds d) =
    λ d. rw (c.client-3.ensures, c.count-2.ensures) at c.begin.ensures d in
    rw (c.in-Ok.ensures.items, own, most, none)
    (begin_kept l.shares.items y (counts_in l.holds) (counts_in c.begin.new.self) l.held l.clients c.requires.live c.requires.last then_)
