use Rattle.std.proofs.Common.{◌++◌, rules, refl}
use Rattle.std.specs.Prelude.{option_to_list}
use Rattle.http_endpoint.specs.Answers.{asked_in}
use Rattle.http_serve.proofs.served.serve_one.Goals as goal

pub returns-clause-served : goal.returns-clause-served
returns-clause-served g c =
    let h = c.serve_link-link_end.ensures.serves in (
      asked_in (h.turns ++ option_to_list h.last),
      record {
        old = g.N.Link.state c.args.fresh.link;
        new = g.N.Link.state c.serve_link-link_end.new.link;
        unused = c.args.fresh.unused;
        serves = h;
        calls = search rules;
        checks = refl;
      },
    )
