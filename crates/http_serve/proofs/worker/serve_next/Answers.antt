use Rattle.std.proofs.Common.{◌≡◌, ◌+◌, ◌++◌, ◌∷◌, [], refl, sym, ap, ◌∙◌}
use Rattle.rate_types.specs.Sums.{total}
use Rattle.link_handover.specs.Handover.{numbers_in}
use Rattle.link_handover.specs.Passes.{taken_by, is_end}
use Rattle.link_handover.specs.declared.taken.Taken.TheVariants.{Link, End}
use Rattle.link_handover.proofs.Lists.{numbers_push, numbers_end}
use Rattle.http_serve.proofs.Taking.{ends_link, ends_end}
use Rattle.http_serve.proofs.worker.serve_next.Goals as goal

pub returns-in-End-clause-stops : goal.returns-in-End-clause-stops
returns-in-End-clause-stops g c = λ _.
    let old = taken_by c.args.worker.now.take in
    let t : taken_by c.take.new.pass ≡ old ++ End ∷ [] = c.take.ensures.taken ∙ ap (λ m. old ++ m ∷ []) c.in-End.is in
    record { ends = ap (total is_end) t ∙ ends_end old; taken = λ _. ap numbers_in t ∙ numbers_end old; served = refl; checks = refl }

pub returns-then-is_err-clause-stops : goal.returns-then-is_err-clause-stops
returns-then-is_err-clause-stops g c = λ _.
    let old = taken_by c.args.worker.now.take in
    let t : taken_by c.take.new.pass ≡ old ++ Link c.in-Link.number c.in-Link.link ∷ [] = c.take.ensures.taken ∙ ap (λ m. old ++ m ∷ []) c.in-Link.is in
    record {
      ends = c.give_up.ensures.ended ∙ ap (λ n. n + 1) (ap (total is_end) t ∙ ends_link old c.in-Link.number c.in-Link.link);
      taken = λ e. cc;
      served = c.reserve.ensures.items;
      checks = refl;
    }

pub returns-else-is_err-clause-goes : goal.returns-else-is_err-clause-goes
returns-else-is_err-clause-goes g c = λ _.
    let old = taken_by c.args.worker.now.take in
    let one = c.serve_one-one.result in
    let t : taken_by c.take.new.pass ≡ old ++ Link c.in-Link.number c.in-Link.link ∷ [] = c.take.ensures.taken ∙ ap (λ m. old ++ m ∷ []) c.in-Link.is in
    record {
      service = one;
      taken = ap numbers_in t ∙ numbers_push old c.in-Link.number c.in-Link.link ∙ ap (λ n. numbers_in old ++ n ∷ []) (sym c.serve_one-one.ensures.number);
      ends = ap (total is_end) t ∙ ends_link old c.in-Link.number c.in-Link.link;
      served = c.push_reserved.ensures.items ∙ ap (λ l. l ++ one ∷ []) c.reserve.ensures.items;
      asked = c.serve_one-one.ensures.served.0;
      one = c.serve_one-one.ensures.served.1;
    }
