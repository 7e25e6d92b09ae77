use Rattle.std.proofs.Common.{◌≡◌, ◌∷◌, [], ◌++◌, codes, IfSome, List, ℕ, Some, None, refl, sym, ap, ◌∙◌, subst}
use Rattle.std.specs.Prelude.{Vec}
use Rattle.std.specs.declared.alloc.Global.{Global}
use Rattle.std.specs.declared.option.Option.{Option}
use Rattle.json.specs.Print.{quoted}
use Rattle.rate_types.specs.Requests.{RequestParts}
use Rattle.rate_types.specs.declared.request.Descriptor.{Descriptor}
use Rattle.request_tokens.specs.Compact.{list_text, descriptor_text, request_text}
use Rattle.request_tokens.proofs.compact.read_compact.Goals as goal

-- the texts of the parts, one behind the other, are that of the request
whole : (old mid last new domain : List ℕ) (descriptors : List Descriptor) (o : Option RequestParts)
    → old ≡ codes "{\"domain\":" ++ (quoted domain ++ (codes ",\"descriptors\":[" ++ mid)) → mid ≡ list_text descriptor_text descriptors last → last ≡ codes "}" ++ new
    → IfSome o (λ r. r ≡ record { domain = domain; descriptors = descriptors; hits = 1 }) → IfSome o (λ r. old ≡ request_text r new)
whole old mid last new domain descriptors None opens lists closes same = tt
whole old mid last new domain descriptors (Some r) opens lists closes same =
    subst (λ (p : RequestParts). old ≡ request_text p new) (sym same)
    (opens ∙ ap (λ l. codes "{\"domain\":" ++ (quoted domain ++ (codes ",\"descriptors\":[" ++ l))) (lists ∙ ap (list_text descriptor_text descriptors) closes))

pub returns-then-takes-clause-text : goal.returns-then-takes-clause-text
returns-then-takes-clause-text c =
    whole c.args.cursor.now c.take_domain.new.cursor (codes "}" ++ c.takes.new.self) c.takes.new.self c.in-Some.domain (c.in-Some-2.first ∷ [])
    c.request_of_one.result
    (subst (λ (o : Option (List ℕ)). IfSome o (λ d. c.args.cursor.now ≡ codes "{\"domain\":" ++ (quoted d ++ (codes ",\"descriptors\":[" ++ c.take_domain.new.cursor))))
    c.in-Some.is c.in_ok-domain.ensures.text)
    (subst (λ (o : Option Descriptor). IfSome o (λ d. c.take_domain.new.cursor ≡ descriptor_text d c.read_descriptor.new.cursor))
    c.in-Some-2.is c.in_ok-first.ensures.text
    ∙ ap (descriptor_text c.in-Some-2.first) c.if-takes.ensures)
    refl c.request_of_one.ensures

pub returns-clause-text : goal.returns-clause-text
returns-clause-text c =
    whole c.args.cursor.now c.take_domain.new.cursor c.read_more_descriptors.new.cursor c.takes-3.new.self c.in-Some.domain c.in-Some-3.descriptors.items
    c.request_of.result
    (subst (λ (o : Option (List ℕ)). IfSome o (λ d. c.args.cursor.now ≡ codes "{\"domain\":" ++ (quoted d ++ (codes ",\"descriptors\":[" ++ c.take_domain.new.cursor))))
    c.in-Some.is c.in_ok-domain.ensures.text)
    (subst (λ (o : Option Descriptor). IfSome o (λ d. c.take_domain.new.cursor ≡ descriptor_text d c.read_descriptor.new.cursor))
    c.in-Some-2.is c.in_ok-first.ensures.text
    ∙ ap (descriptor_text c.in-Some-2.first) (sym c.if-takes.ensures.0 ∙ c.if-not-takes.ensures)
    ∙ subst (λ (o : Option (Vec Descriptor Global)). IfSome o (λ v. descriptor_text c.in-Some-2.first (44 ∷ c.takes-2.new.self) ≡ list_text descriptor_text v.items c.read_more_descriptors.new.cursor))
    c.in-Some-3.is c.in_ok-descriptors.ensures.text)
    c.if-not-takes-2.ensures c.request_of.ensures
