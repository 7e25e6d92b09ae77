use Rattle.std.proofs.Common.{◌≡◌, map, subst, Err}
use Rattle.rate_types.specs.Reading.{IsRefusal, first_or}
use Rattle.descriptor_tree.specs.Trees.{tree_view}
use Rattle.descriptor_tree.specs.Faults.{config_faults}
use Rattle.script_text.proofs.Plain.{first_plain}
use Rattle.script_text.proofs.Reloads.{config_refused, config_kept, only_refused}
use Rattle.script_text.proofs.reload.config_of.Goals as goal

pub fault_in-requires : goal.fault_in-requires
fault_in-requires c =
    let ts = map tree_view c.args.trees.items in
    let refused : first_or (config_faults ts) ts ≡ Err c.in-Err-Refused.at =
    subst (λ e. IsRefusal e (first_or (config_faults ts) ts)) c.in-Err-Refused.field-0-is c.in-Err-Refused.ensures.first in
    first_plain ts ts c.in-Err-Refused.at refused

pub returns-in-Ok : goal.returns-in-Ok
returns-in-Ok c = config_kept c.args.place.now (map tree_view c.args.trees.items) _ c.in-Ok.ensures.first

pub returns-in-Err-Refused : goal.returns-in-Err-Refused
returns-in-Err-Refused c =
    let ts = map tree_view c.args.trees.items in
    let refused : first_or (config_faults ts) ts ≡ Err c.in-Err-Refused.at =
    subst (λ e. IsRefusal e (first_or (config_faults ts) ts)) c.in-Err-Refused.field-0-is c.in-Err-Refused.ensures.first in
    only_refused c.fault_in.result _ _ c.fault_in.ensures (config_refused c.args.place.now ts c.in-Err-Refused.at refused)
