use Rattle.std.proofs.Common.{◌≡◌, get_or, subst, rules}
use Rattle.std.specs.Fork.{ChangesAt}
use Rattle.http_serve.proofs.serving.accept_beside.Goals as goal

pub returns-clause-each : goal.returns-clause-each
returns-clause-each g c = λ i d lt.
    let r = c.join_mut-is_all.ensures.0.met.1.1 i d lt in
    let eq : c.join_mut-is_all.new.f.2.now ≡ c.workers-1.given.0 = search rules in
    subst (λ l. ChangesAt g.F.Fn c.args.serve.now i (get_or c.args.workers.now i d) (get_or l i d)) eq r
