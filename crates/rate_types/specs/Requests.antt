-- What a request is made of, and when it is refused.
use Rattle.std.specs.Prelude.{ℕ, max, ◌==◌, List, [], ◌∷◌, length, nat_lt, if◌then◌else◌, Result, Ok, Err}
use Rattle.rate_types.specs.declared.limits.TheConstants.{MOST_DESCRIPTORS}
use Rattle.rate_types.specs.declared.request.Descriptor.{Descriptor}
use Rattle.rate_types.specs.declared.request.HeldDescriptors.{HeldDescriptors}
use Rattle.rate_types.specs.declared.request.HeldDescriptors.TheVariants.{One, Several}
use Rattle.rate_types.specs.declared.request.RequestFault.{RequestFault}
use Rattle.rate_types.specs.declared.request.RequestFault.TheVariants.{EmptyDomain, NoDescriptors, TooMany}

-- Inside: the descriptors of a request, wherever they lie
abbrev pub held_descriptors : HeldDescriptors → List Descriptor
held_descriptors (One descriptor) = descriptor ∷ []
held_descriptors (Several descriptors) = descriptors.items

-- a domain, the descriptors in order, and the hits of those that have none of their own
pub record RequestParts : Type 0 where
  pub domain : List ℕ
  pub descriptors : List Descriptor
  pub hits : ℕ

-- a domain that isn't empty and 1 to 32 descriptors, hits of 0 counting as 1, or the first reason against it
unfoldable pub request_of : List ℕ → List Descriptor → ℕ → Result RequestParts RequestFault
request_of domain descriptors hits = if length domain == 0 then Err EmptyDomain
    else (if length descriptors == 0 then Err NoDescriptors
    else (if nat_lt MOST_DESCRIPTORS (length descriptors) then Err (TooMany (length descriptors))
    else Ok (record { domain = domain; descriptors = descriptors; hits = max hits 1 })))
