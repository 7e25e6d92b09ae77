-- Inside: the names of the counters that a check asks for.
use Rattle.std.specs.Prelude.{ℕ, List, [], ◌∷◌, ◌++◌, map}
use Rattle.rate_types.specs.Requests.{RequestParts}
use Rattle.rate_types.specs.declared.counter_name.CounterName.{CounterName}
use Rattle.rate_types.specs.declared.request.Descriptor.{Descriptor}
use Rattle.counter_directory.specs.Keys.{keys_at}
use Rattle.rule_lookup.specs.declared.found.Found.{Found}
use Rattle.rule_lookup.specs.declared.found.Found.TheVariants.{Limited}
use Rattle.rate_limiter.specs.Known.{key_of}

-- the name of a descriptor's counter, where it has a limit
abbrev pub name_under : RequestParts → Descriptor → Found → List CounterName
name_under request d (Limited limit unit shadow rule) = record { domain = request.domain; entries = d.entries; unit = unit } ∷ []
name_under request d found = []

-- those of the descriptors, in order
abbrev pub names_under : RequestParts → List Descriptor → List Found → List CounterName
names_under request (d ∷ ds) (f ∷ fs) = name_under request d f ++ names_under request ds fs
names_under request ds fs = []

-- the keys of the counters of the names, in the windows of a moment
abbrev pub name_keys : ℕ → List CounterName → List (List ℕ)
name_keys moment names = map key_of (keys_at moment names)
