-- What `quota` makes of a settings file and of recorded streams.
use Rattle.std.specs.Prelude.{ℕ, ◌+◌, List, [], ◌∷◌, Option, Result}
use Rattle.std.specs.List.{flat_map}
use Rattle.rate_types.specs.declared.refused.Refused.{Refused}
use Rattle.proto_json.specs.Said.{reading_of}
use Rattle.quota_settings.specs.Covering.{AllSettings}
use Rattle.quota_settings_json.specs.ReadSettings as reading
use Rattle.quota_stream.specs.Output.{quota_output}

-- what the bytes of a settings file spell: settings, or their first refusal
abbrev pub settings_of : List ℕ → Result (Option AllSettings) Refused
settings_of bytes = reading_of (reading.settings bytes)

-- the output of each of these streams by these settings, line by line; the first stream has this index
abbrev pub each_output : AllSettings → ℕ → List (List ℕ) → List (List (List ℕ))
each_output settings index [] = []
each_output settings index (bytes ∷ more) = quota_output settings index bytes ∷ each_output settings (index + 1) more

-- lines of several texts, one after the other
abbrev pub in_order : List (List (List ℕ)) → List (List ℕ)
in_order = flat_map (λ lines. lines)

-- The outputs of streams by these settings, one after the other, line by line.
abbrev pub streams_output : AllSettings → List (List ℕ) → List (List ℕ)
streams_output settings streams = in_order (each_output settings 0 streams)
