use Rattle.http_serve.proofs.serving.serve_each.Goals as goal

pub returns-clause-each : goal.returns-clause-each
returns-clause-each g c = λ i d lt. (c.for_each_mut.ensures i d lt).1
