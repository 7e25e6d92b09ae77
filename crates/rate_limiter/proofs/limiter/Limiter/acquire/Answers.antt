use Rattle.std.proofs.Common.{◌∙◌, ◌≡◌, ◌≤◌, List, length, refl, sym, subst, ap, arith}
use Rattle.counter_directory.specs.Keys.{keys_at}
use Rattle.rate_types.specs.declared.request.Descriptor.{Descriptor}
use Rattle.rate_limiter.specs.Names.{names_under, name_keys}
use Rattle.rate_limiter.proofs.Lists.{prefix_self}
use Rattle.rate_limiter.proofs.Meeting.{never_ticked}
use Rattle.rate_limiter.proofs.NamedSpots.{names_few}
use Rattle.rate_limiter.proofs.Turning.{claimed_none}
use Rattle.rate_limiter.proofs.Using.{uses_none}
use Rattle.rate_limiter.proofs.limiter.Limiter.acquire.Goals as goal

pub returns-in_default-names_of-clause-refused : goal.returns-in_default-names_of-clause-refused
returns-in_default-names_of-clause-refused g c =
    let v = c.args.counters.now.cells in
    let t = c.args.counters.now.claims.claims in
    record {
      waited = record { ticked = never_ticked v; keeps = record { looks = refl; charges = refl } };
      bare = c.requires.bare;
      knew = prefix_self t.known;
      own = claimed_none (keys_at v.moment (names_under c.args.request.now c.args.request.now.descriptors c.args.rules.now)) v.moment t t (prefix_self t.known) refl;
      cause = tt;
    }

pub acquire_names-requires-2-clause-names : goal.acquire_names-requires-2-clause-names
acquire_names-requires-2-clause-names g c =
    let request = c.args.request.now in
    let ds = c.descriptors-descriptors.result.now in
    let rules = c.args.rules.now in
    let all = c.descriptors-descriptors.ensures.all in
    let few = names_few request ds rules in
    let most = c.descriptors-descriptors.ensures.bounds in
    let names : length c.as_slice.result.now ≡ length (names_under request ds rules) = ap length (c.as_slice.ensures.value ∙ c.in-Ok.ensures.names) in
    let some = subst (λ (l : List Descriptor). 1 ≤ length (names_under request l rules)) (sym all) c.requires.some in
    (omega arith, omega arith)

pub returns-in_default-names_of-clause-uses : goal.returns-in_default-names_of-clause-uses
returns-in_default-names_of-clause-uses g c =
    let v = c.args.counters.now in
    uses_none (name_keys v.cells.moment (names_under c.args.request.now c.args.request.now.descriptors c.args.rules.now)) v.known v.known refl
