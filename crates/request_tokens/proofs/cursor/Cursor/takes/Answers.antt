use Rattle.std.proofs.Common.{◌++◌, sym, ap, ◌∙◌}
use Rattle.request_tokens.proofs.cursor.Cursor.takes.Goals as goal

pub returns-in-Some : goal.returns-in-Some
returns-in-Some c = let h = c.in-Some.ensures.cases in sym c.self.view_is ∙ h.1.1 ∙ ap (λ l. c.args.literal.now ++ l) (sym h.2)
