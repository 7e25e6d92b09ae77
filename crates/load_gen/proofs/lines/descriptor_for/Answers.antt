use Rattle.std.proofs.Common.{◌≡◌, [], ◌∷◌, Ok, None, ap, ◌∙◌}
use Rattle.rate_types.specs.Entries.{entries_of}
use Rattle.rate_types.specs.declared.entries.Entry.{Entry}
use Rattle.load_gen.specs.Load.{entry_for}
use Rattle.load_gen.proofs.Values.{one_entry}
use Rattle.load_gen.proofs.lines.descriptor_for.Goals as goal

pub unreachable-requires : goal.unreachable-requires
unreachable-requires c =
    let made : c.one.result ≡ Ok (entry_for c.args.value ∷ []) =
    c.one.ensures ∙ ap (λ (e : Entry). entries_of (e ∷ [])) c.in_ok-entry.ensures ∙ one_entry c.args.value in
    cc

pub returns : goal.returns
returns c =
    let made : c.one.result ≡ Ok (entry_for c.args.value ∷ []) =
    c.one.ensures ∙ ap (λ (e : Entry). entries_of (e ∷ [])) c.in_ok-entry.ensures ∙ one_entry c.args.value in
    let same : c.in-Ok.entries ≡ entry_for c.args.value ∷ [] = cc in
    λ i. record { entries = same i; own = None; hits = None }
