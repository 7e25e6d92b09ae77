use Rattle.std.proofs.Common.{◌≡◌, Ok, Some, sym, ap, ◌∙◌}
use Rattle.std.specs.Prelude.{string_bytes, Err}
use Rattle.serde_json.specs.View.{view}
use Rattle.rate_types.specs.Reading.{IsRefusal}
use Rattle.rate_types.specs.declared.fault.Fault.TheVariants as fault
use Rattle.rate_types.specs.declared.refused.Refused.{Refused}
use Rattle.rate_types.specs.declared.refusals.TheConstants.{TEXT_TOO_LONG}
use Rattle.proto_json.specs.Said.{reading_of}
use Rattle.proto_json.specs.NamedMembers.{named}
use Rattle.proto_json.proofs.NamedMembers.{so_far_more, so_far_refused, so_far_all, named_long, members_rise}
use Rattle.proto_json.proofs.named_members.read_each.Goals as goal

pub returns-in_default-clause-said : goal.returns-in_default-clause-said
returns-in_default-clause-said g c =
    let refused : Refused = record { at = c.args.place; number = TEXT_TOO_LONG } in
    let long = named_long g.M.Kind.Kind.says g.M.NamedMember.made _ _ _ c.in_default.ensures.too_long in
    so_far_refused (named g.M.Kind.Kind.says g.M.NamedMember.made) _ _ _ _ _ c.in-Some.name c.in-Some.value (fault.Refused refused)
    c.members.invariant.0 c.in-Some.ensures.steps long
    ∙ ap (λ place. Err (record { at = place; number = TEXT_TOO_LONG })) (sym c.members.invariant.1)

pub returns-in-Err-clause-said : goal.returns-in-Err-clause-said
returns-in-Err-clause-said g c =
    let read = named g.M.Kind.Kind.says g.M.NamedMember.made in
    let refused : IsRefusal c.in-Err.fault (reading_of (read c.args.place (string_bytes c.in-Some.name) (view c.in-Some.value)))
    = rw (sym c.members.invariant.1, sym c.in-Some-of.ensures.same.0) c.in-Err.ensures in
    so_far_refused read _ _ _ _ _ c.in-Some.name c.in-Some.value c.in-Err.fault c.members.invariant.0 c.in-Some.ensures.steps refused

pub members-preserved : goal.members-preserved
members-preserved g c =
    let read = named g.M.Kind.Kind.says g.M.NamedMember.made in
    let one : reading_of (read c.args.place (string_bytes c.in-Some.name) (view c.in-Some.value)) ≡ Ok (Some c.in-Ok.member)
    = rw (sym c.members.invariant.1, sym c.in-Some-of.ensures.same.0) c.in-Ok.ensures in
    let more = so_far_more read _ _ _ _ _ c.in-Some.name c.in-Some.value c.in-Ok.member c.members.invariant.0 c.in-Some.ensures.steps one in
    (rw c.in_ok-push.ensures.items more, c.members.invariant.1)

pub returns-clause-said : goal.returns-clause-said
returns-clause-said g c =
    so_far_all (named g.M.Kind.Kind.says g.M.NamedMember.made) _ _ _ _ c.members.invariant.0 c.in-None.ensures.steps.0

pub returns-clause-sorted : goal.returns-clause-sorted
returns-clause-sorted g c =
    members_rise g.M.Kind.Kind.says g.M.NamedMember.made g.M.NamedMember.label g.met.M.NamedMember.keeps_name _ _ _
    c.into_iter-name-iterator.ensures.into_iter_gives.5
    (so_far_all (named g.M.Kind.Kind.says g.M.NamedMember.made) _ _ _ _ c.members.invariant.0 c.in-None.ensures.steps.0)
