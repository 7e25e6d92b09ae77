use Rattle.std.proofs.Common.{◌≡◌, ℕ, List, Err, map, subst}
use Rattle.descriptor_tree.specs.declared.tree.Tree.{Tree}
use Rattle.std.specs.Prelude.{Vec}
use Rattle.std.specs.declared.alloc.Global.{Global}
use Rattle.rate_types.specs.Reading.{AnswersReading, first_or}
use Rattle.descriptor_tree.specs.Faults.{config_faults}
use Rattle.descriptor_tree.specs.Trees.{tree_view}
use Rattle.descriptor_tree.specs.Views.{config_view}
use Rattle.config_json.specs.Reading.{reading_of}
use Rattle.config_json.proofs.Files.{reading_of_trees, reading_fails}
use Rattle.config_json.proofs.read.read_config.Goals as goal

pub returns-in-Ok : goal.returns-in-Ok
returns-in-Ok c =
    let trees = map tree_view c.in-Ok.trees.items in
    let same : reading_of c.args.files.now ≡ first_or (config_faults trees) trees =
    subst (λ (files : List (List ℕ)). reading_of files ≡ first_or (config_faults trees) trees) c.items.ensures
    (reading_of_trees c.items.result.now trees c.in-Ok.ensures.trees) in
    rw same c.build.ensures.first

pub returns-in-Err : goal.returns-in-Err
returns-in-Err c =
    subst (λ (files : List (List ℕ)). AnswersReading config_view (Err c.in-Err.fault) (reading_of files)) c.items.ensures
    (reading_fails config_view (λ (v : Vec Tree Global). map tree_view v.items) c.items.result.now c.in-Err.fault c.in-Err.ensures.trees)
