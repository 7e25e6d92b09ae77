use Rattle.std.proofs.Common.{◌≡◌, List, [], Ok, map, take, string_bytes, sym, ap, subst, ◌∙◌}
use Rattle.std.proofs.lemmas.List.{take_all}
use Rattle.descriptor_tree.specs.Trees.{DomainTree, tree_view}
use Rattle.descriptor_tree.specs.Faults.{config_faults}
use Rattle.config_json.specs.Reading.{reading_of}
use Rattle.descriptor_tree.specs.Views.{config_view}
use Rattle.config_json.proofs.BackConfig.{tree_formed, texts_more, reading_back, all_of}
use Rattle.config_json.proofs.print_tree.print_config.Goals as goal

pub print_tree-requires-clause-formed : goal.print_tree-requires-clause-formed
print_tree-requires-clause-formed c =
    (tree_formed c.trees-trees.result.now c.trees.index c.index-trees-index.result
    (all_of _ _ c.trees-trees.ensures.trees c.trees-trees.ensures.lawful) c.trees-test.true c.index-trees-index.is).0

pub print_tree-requires-clause-shallow : goal.print_tree-requires-clause-shallow
print_tree-requires-clause-shallow c =
    (tree_formed c.trees-trees.result.now c.trees.index c.index-trees-index.result
    (all_of _ _ c.trees-trees.ensures.trees c.trees-trees.ensures.lawful) c.trees-test.true c.index-trees-index.is).1

pub trees-preserved : goal.trees-preserved
trees-preserved c =
    texts_more c.trees.texts.items c.push.new.self.items c.in_ok-text.text c.trees-trees.result.now c.trees.index
    c.index-trees-index.result c.trees.invariant.0 c.trees.invariant.1 c.in_ok-text.ensures.text
    c.in_ok-text.ensures.reads_back c.in_ok-push.ensures.items c.trees-test.true c.index-trees-index.is

pub returns-clause-reads_back : goal.returns-clause-reads_back
returns-clause-reads_back c =
    let all : map tree_view (take c.trees.index c.trees-trees.result.now) ≡ config_view c.args.config.now =
    ap (map tree_view) (take_all c.trees.index c.trees-trees.result.now c.trees-test.false) ∙ c.trees-trees.ensures.trees in
    subst (λ (ts : List DomainTree). reading_of (map string_bytes c.trees.texts.items) ≡ Ok ts) all
    (reading_back (map string_bytes c.trees.texts.items) (map tree_view (take c.trees.index c.trees-trees.result.now)) c.trees.invariant.1
    (subst (λ (ts : List DomainTree). config_faults ts ≡ []) (sym all) c.trees-trees.ensures.faultless))
