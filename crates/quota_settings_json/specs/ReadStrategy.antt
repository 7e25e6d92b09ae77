-- What a strategy says.
use Rattle.std.specs.Prelude.{ℕ, List, nat_eq, if◌then◌else◌, Option, Some, None, unwrap_or, codes}
use Rattle.std.specs.Str.{bytes_eq}
use Rattle.rate_types.specs.declared.unit.Unit.{Unit}
use Rattle.serde_json.specs.Data.{Data}
use Rattle.serde_json.specs.Find.{as_str}
use Rattle.rate_types.specs.declared.refusals.TheConstants.{WRONG_KIND, UNKNOWN_NAME, UNIT_MISSING, TWO_OF_ONE}
use Rattle.rate_types.specs.declared.refusals.TheConstants.{NO_TOKENS, NO_FILL, FILL_ZERO}
use Rattle.proto_json.specs.Said.{Said, says, refuses, ◌>>=◌}
use Rattle.proto_json.specs.Fields.{Object, Placed, take, ends}
use Rattle.proto_json.specs.Kinds as kinds
use Rattle.quota_bucket.specs.declared.strategy.Strategy.{Strategy}
use Rattle.quota_bucket.specs.declared.strategy.Strategy.TheVariants.{AllowAll, DenyAll, PerUnit, TokenBucket}
use Rattle.quota_settings_json.specs.FieldNames as names

-- a number that isn't 0, else this refusal
unfoldable pub unless_zero : ℕ → List ℕ → ℕ → Said (Option ℕ)
unless_zero refusal place n = if nat_eq n 0 then refuses refusal place else says (Some n)

-- ---- a blanket rule

-- the blanket rule of this name; another name is 8 UnknownName, no name 5 WrongKind
unfoldable pub blanket_named : List ℕ → Option (List ℕ) → Said (Option Strategy)
blanket_named place None = refuses WRONG_KIND place
blanket_named place (Some name) = if bytes_eq name (codes "ALLOW_ALL") then says (Some AllowAll)
    else (if bytes_eq name (codes "DENY_ALL") then says (Some DenyAll) else refuses UNKNOWN_NAME place)

-- the blanket rule that a value names
abbrev pub blanket_in : Placed → Said (Option Strategy)
blanket_in v = blanket_named v.place (as_str v.value)

-- a blanket rule as a kind of field
abbrev pub blanket_rule : List ℕ → Data → Said (Option Strategy)
blanket_rule = kinds.and_read kinds.any blanket_in

-- ---- so many requests per unit

-- the own rule: 14 UnitMissing
abbrev pub per_unit_rules : List ℕ → ℕ → Option Unit → Said (Option Strategy)
per_unit_rules place count None = refuses UNIT_MISSING place
per_unit_rules place count (Some unit) = says (Some (PerUnit count unit))

-- its fields in order, then the own rule; an absent number is 0
unfoldable pub per_unit : Object → Said (Option Strategy)
per_unit o = do
  n ← take kinds.uint64 names.requests_per_time_unit o
  u ← take kinds.unit names.time_unit n.1
  place ← ends u.1
  per_unit_rules place (unwrap_or n.0 0) u.0

-- such a limit as a kind of field
abbrev pub per_unit_kind : List ℕ → Data → Said (Option Strategy)
per_unit_kind = kinds.and_read kinds.message per_unit

-- ---- a token bucket

-- the own rules: 44 NoTokens where it never has a token, 45 NoFill where a fill brings none, 46 FillZero where its
-- interval is absent or 0
unfoldable pub token_rules : List ℕ → ℕ → ℕ → ℕ → Said (Option Strategy)
token_rules place max per_fill interval = do
  tokens ← unless_zero NO_TOKENS place max
  fill ← unless_zero NO_FILL place per_fill
  every ← unless_zero FILL_ZERO place interval
  says (Some (TokenBucket max per_fill interval))

-- a token bucket's fields in order; a fill brings 1 token where `tokensPerFill` is absent
unfoldable pub token_bucket : Object → Said (Option Strategy)
token_bucket o = do
  m ← take kinds.uint32 names.max_tokens o
  p ← take kinds.uint32 names.tokens_per_fill m.1
  i ← take kinds.duration names.fill_interval p.1
  place ← ends i.1
  token_rules place (unwrap_or m.0 0) (unwrap_or p.0 1) (unwrap_or i.0 0)

-- a token bucket as a kind of field
abbrev pub token_kind : List ℕ → Data → Said (Option Strategy)
token_kind = kinds.and_read kinds.message token_bucket

-- ---- a strategy

-- the own rule: 34 TwoOfOne where more than one of the three is there; where none is, all is allowed
abbrev pub one_of : List ℕ → Option Strategy → Option Strategy → Option Strategy → Said (Option Strategy)
one_of place None None None = says (Some AllowAll)
one_of place (Some s) None None = says (Some s)
one_of place None (Some s) None = says (Some s)
one_of place None None (Some s) = says (Some s)
one_of place blanket limit bucket = refuses TWO_OF_ONE place

-- a strategy's fields in order, then its own rule
unfoldable pub strategy_in : Object → Said (Option Strategy)
strategy_in o = do
  b ← take blanket_rule names.blanket_rule o
  n ← take per_unit_kind names.requests_per_time_unit b.1
  t ← take token_kind names.token_bucket n.1
  place ← ends t.1
  one_of place b.0 n.0 t.0

-- a strategy as a kind of field
abbrev pub strategy : List ℕ → Data → Said (Option Strategy)
strategy = kinds.and_read kinds.message strategy_in
