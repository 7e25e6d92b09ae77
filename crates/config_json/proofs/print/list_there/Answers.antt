use Rattle.std.proofs.Common.{Some, ap, sym, ◌∙◌}
use Rattle.serde_json.proofs.Views.{view-Array}
use Rattle.config_json.proofs.Printing.{some_array}
use Rattle.config_json.proofs.print.list_there.Goals as goal

pub returns-else-is_empty : goal.returns-else-is_empty
returns-else-is_empty c = ap (λ d. Some d) (view-Array c.args.items) ∙ some_array c.args.items.items _ c.args.items.ok.0 (sym c.is_empty.ensures ∙ c.if-is_empty.false)
