use Rattle.std.proofs.Common.{◌≡◌, ◌++◌, List, ℕ, OnOk, subst, string_bytes}
use Rattle.http_front.proofs.Sizes.{joined}
use Rattle.http_front.proofs.print.print_pieces.Goals as goal

pub returns-clause-text : goal.returns-clause-text
returns-clause-text c = λ count is.
    subst (λ (bs : List ℕ). OnOk c.push_all.result (string_bytes c.push_all.new.out ≡ string_bytes c.args.out.now ++ bs))
    (joined c.args.status.now c.args.phrase.now c.args.kind.now c.args.allow.now c.args.close.now c.args.body.now count)
    (rw is at c.push_all.ensures.text)
