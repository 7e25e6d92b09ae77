use Rattle.std.proofs.Common.{◌≡◌, ◌≤◌, List, ℕ, [], ◌∷◌, Option, Some, false, codes, sym, ap, subst, ◌∙◌}
use Rattle.std.proofs.lemmas.Str.{IsUtf8-string_bytes}
use Rattle.serde_json.specs.Data.{Data, object, depth}
use Rattle.serde_json.specs.View.{view}
use Rattle.serde_json.specs.Written.{compact_text, has_float}
use Rattle.descriptor_tree.specs.Trees.{tree_view, forest_view}
use Rattle.config_json.specs.Printed.{members_there, text_there, list_there, branches_json, tree_json}
use Rattle.config_json.proofs.BackConfig.{json_back}
use Rattle.config_json.proofs.BackTrees.{tree_back, file_back}
use Rattle.config_json.proofs.Plain.{no_float}
use Rattle.config_json.proofs.print_tree.print_tree.Goals as goal

pub returns-clause-text : goal.returns-clause-text
unfolding tree_json
returns-clause-text c =
    let same : view c.in_ok-value.value ≡ tree_json (tree_view c.args.tree.now) = c.in_ok-value.ensures
    ∙ ap (λ (o : Option Data). object (members_there ((codes "descriptors", o) ∷ (codes "domain", text_there c.as_str.result.now) ∷ []))) c.in_ok-below.ensures.value
    ∙ ap (λ (s : List ℕ). object (members_there ((codes "descriptors", list_there (branches_json (forest_view c.args.tree.now.forest))) ∷
    (codes "domain", text_there s) ∷ []))) c.as_str.ensures.bytes in
    c.in_ok-text.ensures.text (subst (λ (d : Data). has_float d ≡ false) (sym same) (no_float (tree_view c.args.tree.now))) ∙ ap compact_text same

pub returns-clause-reads_back : goal.returns-clause-reads_back
unfolding tree_json
returns-clause-reads_back c =
    let same : view c.in_ok-value.value ≡ tree_json (tree_view c.args.tree.now) = c.in_ok-value.ensures
    ∙ ap (λ (o : Option Data). object (members_there ((codes "descriptors", o) ∷ (codes "domain", text_there c.as_str.result.now) ∷ []))) c.in_ok-below.ensures.value
    ∙ ap (λ (s : List ℕ). object (members_there ((codes "descriptors", list_there (branches_json (forest_view c.args.tree.now.forest))) ∷
    (codes "domain", text_there s) ∷ []))) c.as_str.ensures.bytes in
    file_back _ (tree_view c.args.tree.now)
    (json_back _ (tree_json (tree_view c.args.tree.now)) (IsUtf8-string_bytes c.in_ok-text.text) (c.in_ok-text.ensures.reads_back (subst
    (λ (d : Data). depth d ≤ 127) (sym same) c.requires.shallow) ∙ ap (λ (d : Data). Some d) same))
    (tree_back (tree_view c.args.tree.now) c.as_str.ensures.bound c.requires.formed c.in_ok-below.ensures.bounded)
