use Rattle.std.proofs.Common.{rules, sym, ◌≡◌, ◌++◌, ◌∷◌, [], ◌∙◌, append_assoc, length, length-append, arith, Ok, Some}
use Rattle.serde_json.specs.View.{view}
use Rattle.serde_json.specs.declared.value.Value.{Value}
use Rattle.rate_types.specs.Places as places
use Rattle.proto_json.specs.Said.{reading_of}
use Rattle.quota_pools.specs.ReadPools.{pool, each_pool}
use Rattle.quota_pools.proofs.Listing.{pools_more, pools_refused, pools_all, none_left}
use Rattle.quota_pools.proofs.pools_file.read_list.Goals as goal

pub returns-in-Err : goal.returns-in-Err
unfolding each_pool
returns-in-Err c =
    let rest : c.items.value-iterator.rest.items ≡ c.in-Some.value ∷ c.next.new.self.rest.items = search rules in
    pools_refused _ _ _ _ _ _ _ c.in-Err.fault c.items.invariant.4 rest (rw c.in_ok-at.ensures at c.in-Err.ensures.pool)

pub push-requires : goal.push-requires
push-requires c = record { another = c.in-Ok.ensures.another }

pub items-preserved : goal.items-preserved
items-preserved c =
    let rest : c.items.value-iterator.rest.items ≡ c.in-Some.value ∷ c.next.new.self.rest.items = search rules in
    let all : c.items.yielded ++ c.in-Some.value ∷ c.next.new.self.rest.items ≡ c.args.list.items.items = search rules in
    let read : reading_of (pool c.items.pools (places.item c.args.list.place c.items.index) (view c.in-Some.value)) ≡ Ok (Some c.in-Ok.pool) =
    rw c.in_ok-at.ensures at c.in-Ok.ensures.pool in
    let more = pools_more _ _ _ _ _ _ _ _ c.items.invariant.4 rest read in (
      tt,
      tt,
      rw append_assoc all,
      omega (
        arith,
        c.items.invariant.3,
        length-append {A =
            Value} c.items.yielded (c.in-Some.value ∷ []),
      ),
      rw c.in_ok-push.ensures.ok more,
    )

pub returns : goal.returns
unfolding each_pool
returns c = pools_all _ _ _ _ _ c.items.invariant.4 (none_left _ (sym c.items.value-iterator.rest.ok.0 ∙ c.in-None.ensures.steps.0))
