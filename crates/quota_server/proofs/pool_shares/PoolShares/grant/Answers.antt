use Rattle.std.proofs.Common.{◌≡◌, ◌≤◌, ◌<◌, ◌+◌, ◌++◌, ◌∷◌, [], ◌∙◌, filter, sym, ap, subst, arith, rules}
use Rattle.std.proofs.lemmas.List.{map-append}
use Rattle.quota_server.specs.Shares.{lasts_until, live_at, granted, granted_of, SharesFitPool}
use Rattle.quota_server.specs.Written.{IsWritten, shares_in, share_of}
use Rattle.quota_server.proofs.Granting.{swept, held_fits, ends_last, granted_fits, written_more}
use Rattle.quota_server.proofs.pool_shares.PoolShares.grant.Goals as goal

pub share_of-count-requires-clause-fits : goal.share_of-count-requires-clause-fits
share_of-count-requires-clause-fits c =
    let p = c.self.inside in
    let shares = shares_in p.written.items in
    let later : p.swept ≤ c.args.at = rw (← c.self.view_is) at c.requires.later in
    let left : c.sweep.new.live.shares.items ≡ filter (lasts_until c.args.at) p.live.shares.items = search rules in
    let live = swept p.pool.count p.pool.lifetime p.swept c.args.at shares c.sweep.new.live.shares.items p.live c.self.invariant later left in
    rw c.count.ensures (held_fits p.pool.count c.args.at shares c.sweep.new.live c.sweep.ensures.live live c.self.invariant.fits)

pub begin-requires-clause-last : goal.begin-requires-clause-last
begin-requires-clause-last c =
    let p = c.self.inside in
    let shares = shares_in p.written.items in
    let later : p.swept ≤ c.args.at = rw (← c.self.view_is) at c.requires.later in
    let left : c.sweep.new.live.shares.items ≡ filter (lasts_until c.args.at) p.live.shares.items = search rules in
    let live = swept p.pool.count p.pool.lifetime p.swept c.args.at shares c.sweep.new.live.shares.items p.live c.self.invariant later left in
    let until : c.of.result.until ≡ c.args.at + p.pool.lifetime = search rules in
    rw (until, live) (ends_last p.pool.lifetime p.swept c.args.at shares c.self.invariant.timed later)

pub begin-requires-clause-fits : goal.begin-requires-clause-fits
begin-requires-clause-fits c =
    let p = c.self.inside in
    let shares = shares_in p.written.items in
    let later : p.swept ≤ c.args.at = rw (← c.self.view_is) at c.requires.later in
    let left : c.sweep.new.live.shares.items ≡ filter (lasts_until c.args.at) p.live.shares.items = search rules in
    let live = swept p.pool.count p.pool.lifetime p.swept c.args.at shares c.sweep.new.live.shares.items p.live c.self.invariant later left in
    let client : c.of.result.client ≡ c.args.client.now = search rules in
    let count : c.of.result.count ≡ granted_of p.pool.count c.sweep.new.live.shares.items c.of.result.client = rw client (search rules) in
    let most = granted_fits p.pool.count c.args.at c.of.result.count shares c.sweep.new.live c.of.result.client c.sweep.ensures.live live c.self.invariant.fits count in
    let small : p.pool.count < 18446744073709551616 = search rules in
    omega (arith, most, small)

pub invariant_of-self-2 : goal.invariant_of-self-2
invariant_of-self-2 c =
    let p = c.self.inside in
    let shares = shares_in p.written.items in
    let later : p.swept ≤ c.args.at = rw (← c.self.view_is) at c.requires.later in
    let left : c.sweep.new.live.shares.items ≡ filter (lasts_until c.args.at) p.live.shares.items = search rules in
    let live = swept p.pool.count p.pool.lifetime p.swept c.args.at shares c.sweep.new.live.shares.items p.live c.self.invariant later left in
    let client : c.of.result.client ≡ c.args.client.now = search rules in
    let from : c.of.result.from ≡ c.args.at = search rules in
    let until : c.of.result.until ≡ c.of.result.from + p.pool.lifetime = search rules in
    let count : c.of.result.count ≡ granted p.pool.count shares c.of.result.client c.of.result.from = rw (client, from, ← live) (search rules) in
    let begun : c.begin.new.live.shares.items ≡ live_at c.of.result.from shares ++ c.of.result ∷ [] =
    c.begin.ensures.shares ∙ ap (λ xs. xs ++ c.of.result ∷ []) (live ∙ ap (λ at. live_at at shares) (sym from)) in
    let name : c.in_ok-name.name ≡ c.args.client.now = search rules in
    let written : shares_in c.and-self-inside.result.items ≡ shares ++ c.of.result ∷ [] =
    ap shares_in c.and-self-inside.ensures ∙ map-append share_of p.written.items _ ∙ ap (λ y. shares ++ y ∷ []) (sym (rw name at c.of.ensures)) in
    rw written (subst (λ at. IsWritten p.pool.count p.pool.lifetime at (shares ++ c.of.result ∷ []) c.begin.new.live) from
    (written_more p.pool.count p.pool.lifetime p.swept shares c.of.result p.live c.begin.new.live c.self.invariant (rw from later) until count c.begin.ensures.live begun))

pub returns-clause-count : goal.returns-clause-count
returns-clause-count c =
    let p = c.self.inside in
    let shares = shares_in p.written.items in
    let later : p.swept ≤ c.args.at = rw (← c.self.view_is) at c.requires.later in
    let left : c.sweep.new.live.shares.items ≡ filter (lasts_until c.args.at) p.live.shares.items = search rules in
    let live = swept p.pool.count p.pool.lifetime p.swept c.args.at shares c.sweep.new.live.shares.items p.live c.self.invariant later left in
    rw (← c.self.view_is, ← live) (search rules)

pub returns-clause-fits : goal.returns-clause-fits
returns-clause-fits c =
    let p = c.self.inside in
    let shares = shares_in p.written.items in
    let later : p.swept ≤ c.args.at = rw (← c.self.view_is) at c.requires.later in
    let left : c.sweep.new.live.shares.items ≡ filter (lasts_until c.args.at) p.live.shares.items = search rules in
    let live = swept p.pool.count p.pool.lifetime p.swept c.args.at shares c.sweep.new.live.shares.items p.live c.self.invariant later left in
    let client : c.of.result.client ≡ c.args.client.now = search rules in
    let from : c.of.result.from ≡ c.args.at = search rules in
    let until : c.of.result.until ≡ c.of.result.from + p.pool.lifetime = search rules in
    let count : c.of.result.count ≡ granted p.pool.count shares c.of.result.client c.of.result.from = rw (client, from, ← live) (search rules) in
    let begun : c.begin.new.live.shares.items ≡ live_at c.of.result.from shares ++ c.of.result ∷ [] =
    c.begin.ensures.shares ∙ ap (λ xs. xs ++ c.of.result ∷ []) (live ∙ ap (λ at. live_at at shares) (sym from)) in
    let name : c.in_ok-name.name ≡ c.args.client.now = search rules in
    let written : shares_in c.and-self-inside.result.items ≡ shares ++ c.of.result ∷ [] =
    ap shares_in c.and-self-inside.ensures ∙ map-append share_of p.written.items _ ∙ ap (λ y. shares ++ y ∷ []) (sym (rw name at c.of.ensures)) in
    let all = written_more p.pool.count p.pool.lifetime p.swept shares c.of.result p.live c.begin.new.live c.self.invariant (rw from later) until count c.begin.ensures.live begun
    in
    subst (SharesFitPool p.pool.count) (sym written) all.fits
