use Rattle.std.proofs.Common.{◌≡◌, ◌+◌, ◌-◌, arith, refl}
use Rattle.rate_types.specs.Sums.{one_if}
use Rattle.quota_server.specs.Shares.{others_of, sharing_of}
use Rattle.quota_server.specs.Holds.{is_none_of}
use Rattle.quota_server.specs.Kept.{counts_in}
use Rattle.quota_server.proofs.Living.{own_within, few_kept, one_at_most, others_kept, sharing_kept}
use Rattle.quota_server.proofs.live.share_of.Goals as goal

pub overflow_sub-others : goal.overflow_sub-others
overflow_sub-others c =
    let l = c.args.live.now in
    let within = own_within l.shares.items (counts_in l.holds) l.held l.clients c.args.client.now c.requires.live in
    omega (arith, c.greatest.ensures, within)

pub overflow_add-sharing : goal.overflow_add-sharing
overflow_add-sharing c =
    let l = c.args.live.now in
    let few = few_kept l.shares.items (counts_in l.holds) l.held l.clients c.requires.live in
    let one = one_at_most c.lacks.result in
    let small = l.shares.small in
    let ok = l.shares.ok in
    omega (arith, few, one, c.one_if.ensures, small, ok)

pub nonzero_div-count : goal.nonzero_div-count
nonzero_div-count c =
    let l = c.args.live.now in
    let none : c.one_if.result ≡ one_if (is_none_of (counts_in l.holds c.args.client.now)) = rw c.lacks.ensures at c.one_if.ensures in
    let sharing = sharing_kept l.shares.items (counts_in l.holds) l.held l.clients c.args.client.now c.requires.live in
    omega (arith, none, sharing)

pub returns : goal.returns
returns c =
    let l = c.args.live.now in
    let none : c.one_if.result ≡ one_if (is_none_of (counts_in l.holds c.args.client.now)) = rw c.lacks.ensures at c.one_if.ensures in
    let sharing : l.clients + c.one_if.result ≡ sharing_of l.shares.items c.args.client.now =
    rw none (sharing_kept l.shares.items (counts_in l.holds) l.held l.clients c.args.client.now c.requires.live) in
    let others : l.held - c.greatest.result ≡ others_of l.shares.items c.args.client.now =
    rw c.greatest.ensures (others_kept l.shares.items (counts_in l.holds) l.held l.clients c.args.client.now c.requires.live) in
    rw (c.min.ensures, c.max.ensures, sharing, others) refl
