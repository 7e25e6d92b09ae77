use Rattle.std.proofs.Common.{rules, ◌≡◌, ◌≢◌, [], List, ℕ, Ok, Some, filter, ap, sym, subst, ◌∙◌}
use Rattle.std.proofs.lemmas.Fn.{filter_same}
use Rattle.std.specs.List.{All}
use Rattle.proto_json.specs.Held.{list_of}
use Rattle.proto_json.specs.Said.{says}
use Rattle.proto_json.specs.Laws.{then_read, reading_then}
use Rattle.proto_json.specs.Lists.{each_item}
use Rattle.config_json.specs.Rules.{is_there, replaced, names_in, those_there}
use Rattle.config_json.proofs.Replaces.{filter_there}
use Rattle.config_json.proofs.read_replaced.read_names.Goals as goal

pub returns-clause-names : goal.returns-clause-names
unfolding names_in
returns-clause-names c =
    let kept : c.retain.new.self.items ≡ filter is_there c.in_ok-names.names.items = filter_same _ _ _ (λ x b f' k. search rules) _ _ c.retain.ensures.filtered in
    reading_then (each_item replaced (list_of c.args.list)) (λ ns. says (those_there ns))
    ∙ ap (λ r. then_read r (λ ns. Ok (those_there ns))) c.in_ok-names.ensures.said
    ∙ ap (λ ns. Ok (Some ns)) (sym kept)

pub returns-clause-there : goal.returns-clause-there
returns-clause-there c =
    let kept : c.retain.new.self.items ≡ filter is_there c.in_ok-names.names.items = filter_same _ _ _ (λ x b f' k. search rules) _ _ c.retain.ensures.filtered in
    subst (λ (ns : List (List ℕ)). All (λ n. n ≢ []) ns) (sym kept) (filter_there c.in_ok-names.names.items)
