use Rattle.std.proofs.Common.{sym, ◌∙◌}
use Rattle.config_json.proofs.Replaces.{replaces_others}
use Rattle.config_json.proofs.policy.rule_named.Goals as goal

pub invariant_of-result : goal.invariant_of-result
invariant_of-result c = record {
  name_not_empty = c.requires;
  replaces_others = replaces_others c.args.name c.args.replaces (sym c.replaces_itself.ensures
      ∙ c.if-replaces_itself.false);
}
