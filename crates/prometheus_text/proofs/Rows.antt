-- Worked rows, computed on the definitions.
use Rattle.std.proofs.Common.{◌≡◌, List, [], ◌∷◌, ◌++◌, Some, None, codes, refl, false}
use Rattle.descriptor_tree.specs.Trees.{NodeFields, branch, no_branches, and_branch, DomainTree}
use Rattle.std.specs.Fmt.{digits}
use Rattle.rule_stats.specs.Statistics.{nothing}
use Rattle.prometheus_text.specs.declared.labels.Labels.{Labels}
use Rattle.prometheus_text.specs.declared.metric.Metric.TheVariants.{NearLimit}
use Rattle.prometheus_text.specs.Escapes.{escaped, read_label}
use Rattle.prometheus_text.specs.Labels.{labels_of}
use Rattle.prometheus_text.specs.Text.{metric}

-- a quote, a backslash and a line feed
quote_backslash_feed : escaped (codes "a\"b\\c\nd") ≡ codes "a\\\"b\\\\c\\nd"
quote_backslash_feed = refl

-- reading stops at the quote that isn't behind a backslash
read_up_to_quote : read_label (codes "a\\\"b\",path") ≡ Some (codes "a\"b", codes ",path")
read_up_to_quote = refl

-- a backslash before any other byte is no label
read_other_escape : read_label (codes "a\\tb\"") ≡ None
read_other_escape = refl

-- nor is one that no quote closes
read_open : read_label (codes "a") ≡ None
read_open = refl

abbrev key_alone : NodeFields
key_alone = record { key = codes "user"; value = None; policy = None; name = None; replaces = []; shadow = false }

abbrev key_value : NodeFields
key_value = record { key = codes "path"; value = Some (codes "/a"); policy = None; name = None; replaces = []; shadow = false }

-- a node with one below it, and a second tree
abbrev trees : List DomainTree
trees = record { domain = codes "one"; forest = and_branch (branch key_value (and_branch (branch key_alone no_branches) no_branches)) no_branches }
    ∷ record { domain = codes "two"; forest = and_branch (branch key_alone no_branches) no_branches } ∷ []

abbrev labels : List Labels
labels = record { domain = codes "one"; path = codes "path_/a" } ∷ record { domain = codes "one"; path = codes "path_/a.user" }
    ∷ record { domain = codes "two"; path = codes "user" } ∷ []

three_nodes : labels_of trees ≡ labels
three_nodes = refl

-- of three rules two counted hits
two_lines : metric NearLimit labels (record nothing { total = 7; near = 3 } ∷ nothing ∷ record nothing { total = 1 } ∷ [])
    ≡ codes "# HELP ratelimit_service_rate_limit_near_limit Hits within the limit with which the counter stood above four fifths of it.\n"
    ++ (codes "# TYPE ratelimit_service_rate_limit_near_limit counter\n"
    ++ (codes "ratelimit_service_rate_limit_near_limit{domain=\"one\",path=\"path_/a\"} 3\n"
    ++ codes "ratelimit_service_rate_limit_near_limit{domain=\"two\",path=\"user\"} 0\n"))
unfolding digits
two_lines = refl
