use Rattle.serve_tasks.proofs.accepting.accept_on.Goals as goal

pub returns-in-More-clause-accepts : goal.returns-in-More-clause-accepts
returns-in-More-clause-accepts g c = rw c.in-More.is c.accept_some.ensures.accepts
