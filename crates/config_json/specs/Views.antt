-- What a policy that was read stands for.
use Rattle.config_json.specs.declared.rule.Rule as declared
use Rattle.config_json.specs.Rules.{Rule}

abbrev pub rule_view : declared.Rule → Rule
rule_view r = record { policy = r.policy; name = r.name; replaces = r.replaces }
