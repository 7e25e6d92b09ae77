-- What `lookup` writes: for each line of the input which rule each descriptor of its request finds.
use Rattle.std.specs.Prelude.{ℕ, ◌+◌, List, [], ◌∷◌, map, Bool, true, Option, Some, None, Result, Ok, Err, codes}
use Rattle.serde_json.specs.Data.{Data, null, boolean, string, array, object, no_members, member}
use Rattle.serde_json.specs.View.{items_of}
use Rattle.serde_json.specs.Written.{compact_text}
use Rattle.rate_types.specs.Requests.{RequestParts}
use Rattle.rate_types.specs.declared.rule_id.RuleId.{RuleId}
use Rattle.rate_types.specs.declared.refused.Refused.{Refused}
use Rattle.proto_json.specs.Said.{Said, reading_of, ◌>>=◌}
use Rattle.proto_json.specs.Kinds as kinds
use Rattle.proto_json.specs.Document.{document}
use Rattle.descriptor_tree.specs.Trees.{DomainTree}
use Rattle.rule_lookup.specs.declared.found.Found.{Found}
use Rattle.rule_lookup.specs.declared.found.Found.TheVariants.{NoRule, Unlimited, Limited}
use Rattle.rule_lookup.specs.Rule.{rule_of}
use Rattle.rate_types.specs.UnitNames.{unit_name}
use Rattle.reply_text.specs.Texts.{whole, refused_data}
use Rattle.reply_text.specs.ReadRequest.{request}
use Rattle.text_lines.specs.Lines.{cut}
use Rattle.cli_exits.specs.Output.{with_line_feed}

-- the number of a rule, null for a limit of the descriptor's own
abbrev pub rule_data : Option RuleId → Data
rule_data None = null
rule_data (Some rule) = whole rule.0

-- a rule without a limit
unfoldable pub unlimited_data : ℕ → Data
unlimited_data rule = object (member (codes "rule") (whole rule) (member (codes "unlimited") (boolean true) no_members))

-- a rule with a limit: the limit, the rule's number, whether it is a shadow rule, and the unit
unfoldable pub limited_data : ℕ → Data → Bool → List ℕ → Data
limited_data limit rule shadow unit = object (member (codes "limit") (whole limit) (member (codes "rule") rule
    (member (codes "shadow") (boolean shadow) (member (codes "unit") (string unit) no_members))))

-- what a descriptor finds, null where it has no rule
abbrev pub found_data : Found → Data
found_data NoRule = null
found_data (Unlimited rule) = unlimited_data rule.0
found_data (Limited limit unit shadow rule) = limited_data limit (rule_data rule) shadow (unit_name unit)

-- what each descriptor of a request finds, whatever the others find
abbrev pub founds_data : List DomainTree → RequestParts → Data
founds_data config r = array (items_of (map (λ d. found_data (rule_of config r.domain d)) r.descriptors))

-- the line of a request
unfoldable pub found_line_data : ℕ → Data → Data
found_line_data line found = object (member (codes "found") found (member (codes "line") (whole line) no_members))

-- the line of a refused line
unfoldable pub refused_line_data : ℕ → Data → Data
refused_line_data line refused = object (member (codes "line") (whole line) (member (codes "refused") refused no_members))

-- a line of the input: a request
unfoldable pub request_line : List ℕ → Said (Option RequestParts)
request_line bytes = document bytes >>= kinds.read_some (request [])

-- The line of a reading: what the request finds, or its refusal. A reading without a fault has a request.
abbrev pub answer_data : List DomainTree → ℕ → Result (Option RequestParts) Refused → Data
answer_data config line (Ok (Some r)) = found_line_data line (founds_data config r)
answer_data config line (Ok None) = refused_line_data line null
answer_data config line (Err refused) = refused_line_data line (refused_data refused)

-- the output line of a line of the input, without its line feed
abbrev pub lookup_line_of : List DomainTree → ℕ → List ℕ → List ℕ
lookup_line_of config line bytes = compact_text (answer_data config line (reading_of (request_line bytes)))

-- the output lines of these lines of the input, the first of this number
abbrev pub lookup_from : List DomainTree → ℕ → List (List ℕ) → List (List ℕ)
lookup_from config line [] = []
lookup_from config line (bytes ∷ more) = with_line_feed (lookup_line_of config line bytes) ∷ lookup_from config (line + 1) more

-- The output of `lookup`, line by line: one line for each line of the input, in order, each with its line feed.
abbrev pub lookup_output : List DomainTree → List ℕ → List (List ℕ)
lookup_output config bytes = lookup_from config 1 (cut bytes)
