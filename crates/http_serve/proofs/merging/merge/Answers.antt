use Rattle.std.proofs.Common.{Vec, Global, ◌≡◌, ◌<◌, ◌++◌, ◌∷◌, [], List, ℕ, map, IfOk, Result, Ok, Err, Some, IsSome, None, replicate, length, sym, ap, ◌∙◌, subst}
use Rattle.std.proofs.lemmas.List.{nil_from_length}
use Rattle.std.specs.List.{AllByRecursion}
use Rattle.std.specs.declared.option.Option.{Option}
use Rattle.rate_types.specs.declared.memory.OutOfMemory.{OutOfMemory}
use Rattle.http_serve.specs.Service.{Service}
use Rattle.http_serve.specs.Merged.{joined, all_placed, EachNumberOnce, Merges}
use Rattle.http_serve.proofs.Placing.{put_each, all_filled, merges, placed_append, placed_length, all_left, all_right}
use Rattle.http_serve.proofs.merging.merge.Goals as goal

pub loop-list-preserved : goal.loop-list-preserved
loop-list-preserved g c =
    let inv = c.loop-list.invariant in
    let list = c.in-Some.list in
    let rest = c.next.new.self.rest.items in
    let is : c.loop-list.list-iterator.rest.items ≡ list ∷ rest = c.in-Some.ensures.steps.0 in
    let new : c.put.new.places.items ≡ all_placed c.loop-list.places.items list = c.put.ensures in
    let within : AllByRecursion (λ r. r.number < c.args.count) (list ++ joined rest)
    = subst (λ l. AllByRecursion (λ r. r.number < c.args.count) (joined l)) is inv.within in
    record {
      len = c.put.new.places.ok.0 ∙ ap length new ∙ placed_length c.loop-list.places.items list ∙ sym c.loop-list.places.ok.0 ∙ inv.len;
      left = ap (λ l. all_placed l (joined rest)) new ∙ sym (placed_append c.loop-list.places.items list (joined rest))
          ∙ ap (λ l. all_placed c.loop-list.places.items (joined l)) (sym is) ∙ inv.left;
      within = all_right (λ r. r.number < c.args.count) list (joined rest) within;
    }

pub put-requires : goal.put-requires
put-requires g c =
    let inv = c.loop-list.invariant in
    let list = c.in-Some.list in
    let rest = c.next.new.self.rest.items in
    let is : c.loop-list.list-iterator.rest.items ≡ list ∷ rest = c.in-Some.ensures.steps.0 in
    let within : AllByRecursion (λ r. r.number < c.args.count) (list ++ joined rest)
    = subst (λ l. AllByRecursion (λ r. r.number < c.args.count) (joined l)) is inv.within in
    subst (λ n. AllByRecursion (λ r. r.number < n) list) (sym inv.len)
    (all_left (λ r. r.number < c.args.count) list (joined rest) within)

pub filled-requires : goal.filled-requires
filled-requires g c =
    let inv = c.loop-list.invariant in
    let rest : c.loop-list.list-iterator.rest.items ≡ [] = nil_from_length c.loop-list.list-iterator.rest.items (sym c.loop-list.list-iterator.rest.ok.0
    ∙ c.in-None.ensures.steps.0) in
    let same : c.loop-list.places.items ≡ all_placed (replicate c.args.count None) (joined c.args.lists.items)
    = ap (λ l. all_placed c.loop-list.places.items (joined l)) (sym rest) ∙ inv.left in
    subst (λ l. AllByRecursion (λ p. IsSome p) l) (sym same)
    (all_filled c.args.count (joined c.args.lists.items) _ c.requires.once (put_each c.args.count (joined c.args.lists.items) c.requires.once))

merged_of : (result : Result (Vec Service Global) OutOfMemory) (count : ℕ) (lists : List (List Service)) (places : List (Option Service))
    → EachNumberOnce count (joined lists) → places ≡ all_placed (replicate count None) (joined lists) → IfOk result (λ r. map Some r.items ≡ places)
    → IfOk result (λ r. Merges count lists r.items)
merged_of (Ok services) count lists places once same h = merges count lists services.items once (h ∙ same)
merged_of (Err e) count lists places once same h = tt

pub returns : goal.returns
returns g c =
    let inv = c.loop-list.invariant in
    let rest : c.loop-list.list-iterator.rest.items ≡ [] = nil_from_length c.loop-list.list-iterator.rest.items (sym c.loop-list.list-iterator.rest.ok.0
    ∙ c.in-None.ensures.steps.0) in
    let same : c.loop-list.places.items ≡ all_placed (replicate c.args.count None) (joined c.args.lists.items)
    = ap (λ l. all_placed c.loop-list.places.items (joined l)) (sym rest) ∙ inv.left in
    record { merged = merged_of c.filled.result c.args.count c.args.lists.items c.loop-list.places.items c.requires.once same c.filled.ensures }
