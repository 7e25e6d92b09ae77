use Rattle.std.proofs.Common.{◌≡◌, ◌++◌, ◌∷◌, [], ◌∙◌, refl, arith, length, rules}
use Rattle.std.proofs.lemmas.Grind.{common_steps}
use Rattle.quota_pools.specs.Places.{places_of}
use Rattle.quota_pools.proofs.Placing.{places_more}
use Rattle.quota_pools.proofs.pools.PoolList.push.Goals as goal

pub invariant_of-self-2 : goal.invariant_of-self-2
invariant_of-self-2 c =
    let pools = c.self.inside.pools.items in
    let count : c.len.result ≡ length pools = grind (arith, common_steps) in
    let id : c.in_ok-id.id ≡ c.args.pool.bucket = search rules in
    let pushed : c.push_reserved.new.self.items ≡ pools ++ c.args.pool ∷ [] = c.push_reserved.ensures.items ∙ rw c.reserve.ensures.items refl in
    rw pushed (places_more (places_of c.self.inside.places) (places_of c.add.new.self) pools c.args.pool
    c.self.invariant (rw (← c.self.view_is) at c.requires.another) (λ q. rw (← count, ← id) (c.in_ok-add.ensures.ok q)))
