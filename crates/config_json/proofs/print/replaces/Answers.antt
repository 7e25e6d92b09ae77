use Rattle.std.proofs.Common.{List, ℕ, [], ◌∷◌, Some, codes, ap, ◌∙◌}
use Rattle.serde_json.specs.Data.{object, string}
use Rattle.serde_json.specs.View.{items_view}
use Rattle.config_json.specs.Printed.{members_there}
use Rattle.config_json.proofs.Printing.{names_push, short_push}
use Rattle.config_json.proofs.print.replaces.Goals as goal

pub names-preserved : goal.names-preserved
names-preserved c = (
  ap items_view c.in_ok-push.ensures.items
      ∙ names_push c.names.items.items c.in_ok-item.item c.items-names.result.now c.names.index c.index-names-index.result c.names.invariant.0
      (c.in_ok-item.ensures ∙ ap (λ (s : List ℕ). object (members_there ((codes "name", Some (string s)) ∷ []))) c.as_str.ensures.bytes) c.names-test.true c.index-names-index.is,
  short_push c.items-names.result.now c.names.index c.index-names-index.result c.names.invariant.1 c.as_str.ensures.bound c.names-test.true c.index-names-index.is,
)
