-- What the behaviours of a bucket without an assignment say, and after an assignment expired.
use Rattle.std.specs.Prelude.{ℕ, List, nat_eq, Bool, false, if◌then◌else◌, Option, Some, None, option_map, unwrap_or}
use Rattle.serde_json.specs.Data.{Data}
use Rattle.rate_types.specs.declared.refusals.TheConstants.{TWO_OF_ONE, TIMEOUT_ZERO}
use Rattle.proto_json.specs.Said.{Said, says, refuses, ◌>>=◌}
use Rattle.proto_json.specs.Fields.{Object, take, ends}
use Rattle.proto_json.specs.Kinds as kinds
use Rattle.quota_bucket.specs.declared.strategy.Strategy.{Strategy}
use Rattle.quota_bucket.specs.declared.strategy.Strategy.TheVariants.{AllowAll}
use Rattle.quota_bucket.specs.declared.rules.AtExpiry.{AtExpiry}
use Rattle.quota_bucket.specs.declared.rules.AtExpiry.TheVariants.{Abandon, Fallback, Reuse}
use Rattle.quota_settings_json.specs.FieldNames as names
use Rattle.quota_settings_json.specs.ReadStrategy.{strategy}
use Rattle.quota_settings_json.specs.declared.expiry.Expiry.{Expiry}

-- ---- without an assignment

-- the strategy before the first assignment; without a fallback all is allowed
unfoldable pub unassigned_in : Object → Said (Option Strategy)
unassigned_in o = do
  s ← take strategy names.fallback_rate_limit o
  place ← ends s.1
  says (Some (unwrap_or s.0 AllowAll))

-- that behaviour as a kind of field
abbrev pub unassigned : List ℕ → Data → Said (Option Strategy)
unassigned = kinds.and_read kinds.message unassigned_in

-- ---- after an assignment expired

-- an object without fields, at its place
unfoldable pub empty_in : Object → Said (Option (List ℕ))
empty_in o = do
  place ← ends o
  says (Some place)

-- that object as a kind of field
abbrev pub empty : List ℕ → Data → Said (Option (List ℕ))
empty = kinds.and_read kinds.message empty_in

-- what happens at expiry: a fallback or reuse, and with neither of them the bucket is abandoned; none where both are there
abbrev pub at_expiry : Option Strategy → Option (List ℕ) → Option AtExpiry
at_expiry None None = Some Abandon
at_expiry (Some fallback) None = Some (Fallback fallback)
at_expiry None (Some reuse) = Some Reuse
at_expiry (Some fallback) (Some reuse) = None

-- whether a timeout is there and 0
abbrev pub is_zero : Option ℕ → Bool
is_zero None = false
is_zero (Some millis) = nat_eq millis 0

-- a timeout that isn't 0, else 47 TimeoutZero; without one the behaviour doesn't end by itself
unfoldable pub timeout_rule : List ℕ → Option ℕ → Said (Option ℕ)
timeout_rule place timeout = if is_zero timeout then refuses TIMEOUT_ZERO place else says timeout

-- the own rules: 34 TwoOfOne where a fallback and reuse are there, then 47 TimeoutZero
unfoldable pub expiry_rules : List ℕ → Option ℕ → Option Strategy → Option (List ℕ) → Said (Option Expiry)
expiry_rules place timeout fallback reuse = do
  behavior ← kinds.wanted TWO_OF_ONE place (at_expiry fallback reuse)
  ends_after ← timeout_rule place timeout
  says (option_map (λ b. record { behavior = b; timeout = ends_after }) behavior)

-- the fields in order, then the own rules
unfoldable pub expiry_in : Object → Said (Option Expiry)
expiry_in o = do
  t ← take kinds.duration names.expired_timeout o
  f ← take strategy names.fallback_rate_limit t.1
  r ← take empty names.reuse_last_assignment f.1
  place ← ends r.1
  expiry_rules place t.0 f.0 r.0

-- that behaviour as a kind of field
abbrev pub expiry : List ℕ → Data → Said (Option Expiry)
expiry = kinds.and_read kinds.message expiry_in
