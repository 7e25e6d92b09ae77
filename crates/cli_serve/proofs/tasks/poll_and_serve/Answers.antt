use Rattle.std.proofs.Common.{inl, sym, ◌∙◌, subst}
use Rattle.http_serve.specs.Links.{IsUnused}
use Rattle.descriptor_tree.specs.Views.{config_view}
use Rattle.cli_exits.specs.World.{exit_of}
use Rattle.cli_exits.proofs.Histories.{since_is}
use Rattle.cli_serve.proofs.Serving.{unused_bound, port_unwritten, port_served}
use Rattle.cli_serve.proofs.tasks.poll_and_serve.Goals as goal

pub serve_tasks_and_end-requires-clause-unused : goal.serve_tasks_and_end-requires-clause-unused
serve_tasks_and_end-requires-clause-unused g c =
    subst IsUnused (sym c.in-Ok.ensures.event) (unused_bound (g.Q.PollListen.history c.args.polls.now) c.args.job.now.port c.in-Ok.port c.requires.unused)

pub returns-in-Written-clause-exit : goal.returns-in-Written-clause-exit
returns-in-Written-clause-exit g c = λ f begun.
    let K = g.K.Sink in
    let L = g.Q.PollListen in
    port_served f c.args.job.now (config_view c.args.config) c.in-Ok.port (K.history c.args.sink.now) (K.history c.write_port.new.sink)
    (K.written c.args.sink.now) (K.written c.write_port.new.sink) (K.faults c.args.sink.now) (K.faults c.write_port.new.sink)
    (L.history c.args.polls.now) (L.history c.bind.new.self) (L.faults c.args.polls.now) (L.faults c.bind.new.self)
    c.in-Ok.ensures.event c.in-Ok.ensures.asked (K.history c.serve_tasks_and_end.new.sink) (K.written c.serve_tasks_and_end.new.sink)
    (K.faults c.serve_tasks_and_end.new.sink) (L.history c.serve_tasks_and_end.new.polls) (L.faults c.serve_tasks_and_end.new.polls)
    (exit_of c.serve_tasks_and_end.result) c.in-Written.ensures c.in-Ok.ensures.cause.later c.serve_tasks_and_end.ensures begun

pub returns-in-Unwritten-clause-exit : goal.returns-in-Unwritten-clause-exit
returns-in-Unwritten-clause-exit g c = λ f begun.
    let K = g.K.Sink in
    let L = g.Q.PollListen in
    port_unwritten f c.args.job.now (config_view c.args.config) c.in-Ok.port (K.history c.args.sink.now) (K.history c.write_port.new.sink)
    (K.written c.args.sink.now) (K.written c.write_port.new.sink) (K.faults c.args.sink.now) (K.faults c.write_port.new.sink)
    (L.history c.args.polls.now) (L.history c.bind.new.self) (L.faults c.args.polls.now) (L.faults c.bind.new.self)
    c.in-Ok.ensures.event c.in-Ok.ensures.asked c.in-Unwritten.ensures begun

pub returns-in-NoMemory-clause-exit : goal.returns-in-NoMemory-clause-exit
returns-in-NoMemory-clause-exit g c = λ f begun.
    let e = c.in-NoMemory.ensures in
    (begun.unread, inl (since_is (g.K.Sink.history c.args.sink.now) (g.K.Sink.history c.write_port.new.sink) e.events e.grew ∙ e.are.0, e.are.1))
