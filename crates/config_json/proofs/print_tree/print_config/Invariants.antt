use Rattle.std.proofs.Common.{◌≡◌, map, take, string_bytes}
use Rattle.serde_json.specs.Written.{compact_text}
use Rattle.descriptor_tree.specs.Trees.{tree_view}
use Rattle.config_json.specs.Printed.{tree_json}
use Rattle.config_json.proofs.BackConfig.{AllRead}
use Rattle.config_json.proofs.print_tree.print_config.Given as goal

abbrev pub invariant-trees : goal.invariant-trees
invariant-trees l =
    (map string_bytes l.texts.items ≡ map (λ t. compact_text (tree_json t)) (map tree_view (take l.index l.trees))) ×
    AllRead (map string_bytes l.texts.items) (map tree_view (take l.index l.trees))
