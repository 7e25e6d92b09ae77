use Rattle.std.proofs.Common.{◌≡◌, ℕ, List, [], ◌∷◌, Ok, ap, ◌∙◌, codes}
use Rattle.rate_types.specs.Requests.{request_of}
use Rattle.rate_types.specs.declared.request.Descriptor.{Descriptor}
use Rattle.load_gen.specs.Load.{descriptor_for, request_for}
use Rattle.load_gen.proofs.Values.{one_request}
use Rattle.load_gen.proofs.lines.request_for.Goals as goal

pub unreachable-requires : goal.unreachable-requires
unreachable-requires c =
    let domain : c.in_ok-domain.domain ≡ codes "gen" = c.in_ok-domain.ensures in
    let made : c.one.result ≡ Ok (request_for c.args.value) =
    c.one.ensures ∙ ap (λ (d : Descriptor). request_of c.in_ok-domain.domain (d ∷ []) 1) c.in_ok-descriptor.ensures
    ∙ ap (λ (d : List ℕ). request_of d (descriptor_for c.args.value ∷ []) 1) domain ∙ one_request c.args.value in
    cc

pub returns : goal.returns
returns c =
    let domain : c.in_ok-domain.domain ≡ codes "gen" = c.in_ok-domain.ensures in
    let made : c.one.result ≡ Ok (request_for c.args.value) =
    c.one.ensures ∙ ap (λ (d : Descriptor). request_of c.in_ok-domain.domain (d ∷ []) 1) c.in_ok-descriptor.ensures
    ∙ ap (λ (d : List ℕ). request_of d (descriptor_for c.args.value ∷ []) 1) domain ∙ one_request c.args.value in
    cc
