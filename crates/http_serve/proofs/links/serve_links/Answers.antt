use Rattle.std.proofs.Common.{◌++◌, ap, ◌∙◌, length, append_assoc}
use Rattle.std.specs.List.{filter_map}
use Rattle.rate_io.specs.Listeners.{number_back}
use Rattle.http_serve.specs.Links.{accepts, given_back}
use Rattle.http_serve.proofs.Events.{accepts_back}
use Rattle.http_serve.proofs.links.serve_links.Goals as goal

pub give_back-requires-clause-none_back : goal.give_back-requires-clause-none_back
give_back-requires-clause-none_back g c =
    let a = c.in_ok-accepted.ensures.accepted in
    ap (filter_map number_back) a.events
    ∙ accepts_back (g.L.Listen.history c.args.listen.now) (length c.in_ok-accepted.accepted.served.items) c.in_ok-accepted.accepted.is_all c.requires.unused.none_back

pub returns-clause-served : goal.returns-clause-served
returns-clause-served g c =
    let a = c.in_ok-accepted.ensures.accepted in
    let old = g.L.Listen.history c.args.listen.now in
    let ss = c.in_ok-accepted.accepted.served.items in
    let front = accepts (length ss) c.in_ok-accepted.accepted.is_all in
    record {
      services = ss;
      each = record {
        numbered = a.numbered;
        asked = a.asked;
        served = a.served;
        handled = c.in_ok-ends.ensures.events ∙ (ap (λ h. h ++ given_back ss) a.events ∙ append_assoc old front (given_back ss));
      };
      ends_are = c.in_ok-ends.ensures.ends;
      all = a.all;
      failed = λ no. let f = a.failed no in (f.0, rw c.in_ok-ends.ensures.faults f.1);
    }
