-- The lines that a quota server writes, as JSON: compact, with the names of each object in byte order, each with its line feed.
use Rattle.std.specs.Prelude.{ℕ, ◌==◌, List, [], ◌∷◌, ◌++◌, if◌then◌else◌, codes, decimal}
use Rattle.std.specs.List.{flat_map}
use Rattle.json.specs.Print.{quoted}
use Rattle.rate_types.specs.Durations.{duration_text}
use Rattle.rate_types.specs.UnitNames.{unit_name}
use Rattle.rate_types.specs.declared.refused.Refused.{Refused}
use Rattle.rate_types.specs.declared.unit.Unit.{Unit}
use Rattle.quota_settings.specs.declared.pair.Pair.{Pair}
use Rattle.quota_stream.specs.Texts.{bucket_text, at_start, number_start, refused_part}
use Rattle.quota_server.specs.declared.grant.Grant.{Grant}
use Rattle.quota_server.specs.declared.grant.Grant.TheVariants.{Share, NoPool}

-- ---- an action

-- the number of a limit, left out where it is 0
unfoldable pub count_member : ℕ → List ℕ
count_member count = if count == 0 then [] else codes "\"requestsPerTimeUnit\":\"" ++ decimal count ++ codes "\","

-- the unit of a limit, its last member
unfoldable pub unit_end : Unit → List ℕ
unit_end unit = codes "\"timeUnit\":\"" ++ unit_name unit ++ codes "\"}"

-- the members of a limit
unfoldable pub limit_members : ℕ → Unit → List ℕ
limit_members count unit = count_member count ++ unit_end unit

-- so many requests in each unit, as a strategy
unfoldable pub strategy_text : ℕ → Unit → List ℕ
strategy_text count unit = codes "{\"requestsPerTimeUnit\":{" ++ limit_members count unit ++ codes "}"

-- a lifetime, the first member of an assignment
unfoldable pub lifetime_start : ℕ → List ℕ
lifetime_start lifetime = codes "{\"assignmentTimeToLive\":\"" ++ duration_text lifetime ++ codes "\""

-- an assignment of that strategy for a lifetime
unfoldable pub assignment_text : ℕ → Unit → ℕ → List ℕ
assignment_text count unit lifetime = lifetime_start lifetime ++ codes ",\"rateLimitStrategy\":" ++ strategy_text count unit ++ codes "}"

-- that assignment as the last member of an action
unfoldable pub assignment_end : ℕ → Unit → ℕ → List ℕ
assignment_end count unit lifetime = codes ",\"quotaAssignmentAction\":" ++ assignment_text count unit lifetime ++ codes "}"

-- the bucket of an action, as a member
unfoldable pub bucket_member : List Pair → List ℕ
bucket_member bucket = codes "\"bucketId\":{\"bucket\":" ++ bucket_text bucket ++ codes "}"

-- the action on a bucket by which a grant is told
unfoldable pub action_text : List Pair → Grant → List ℕ
action_text bucket NoPool = codes "{\"abandonAction\":{}," ++ bucket_member bucket ++ codes "}"
action_text bucket (Share count unit lifetime) = codes "{" ++ bucket_member bucket ++ assignment_end count unit lifetime

-- another action
abbrev pub next_action : List ℕ → List ℕ
next_action action = codes "," ++ action

-- actions with commas between them
abbrev pub actions_text : List (List ℕ) → List ℕ
actions_text [] = []
actions_text (action ∷ actions) = action ++ flat_map next_action actions

-- ---- the lines

-- the client of a line, behind its moment
unfoldable pub client_part : List ℕ → List ℕ
client_part client = codes ",\"client\":" ++ quoted client

-- the number of a line, behind its client
unfoldable pub line_part : ℕ → List ℕ
line_part line = codes ",\"line\":" ++ decimal line

-- the actions of a line, at its end
unfoldable pub response_end : List (List ℕ) → List ℕ
response_end actions = codes ",\"response\":{\"bucketAction\":[" ++ actions_text actions ++ codes "]}}\n"

-- the line of a client's reports: the action for each usage
unfoldable pub response_line : ℕ → ℕ → List ℕ → List (List ℕ) → List ℕ
response_line line at client actions = at_start at ++ client_part client ++ line_part line ++ response_end actions

-- the line of a refused line
unfoldable pub refused_line : ℕ → Refused → List ℕ
refused_line line refused = number_start line ++ refused_part refused ++ codes "}\n"
