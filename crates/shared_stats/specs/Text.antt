-- The text of the numbers of all rules: `{"rules":[..]}` with an object for each rule that counted anything, in the order of the rules.
use Rattle.std.specs.Prelude.{ℕ, ◌+◌, ◌==◌, List, [], ◌∷◌, if◌then◌else◌, codes}
use Rattle.serde_json.specs.Data.{Data, Items, number, unsigned, array, no_items, item, object, no_members, member}
use Rattle.serde_json.specs.Written.{compact_text}
use Rattle.rule_stats.specs.declared.numbers.RuleNumbers.{RuleNumbers}

-- the numbers of a rule, with its own number
unfoldable pub rule_data : ℕ → RuleNumbers → Data
rule_data rule n = object (member (codes "near") (number (unsigned n.near)) (member (codes "over") (number (unsigned n.over))
    (member (codes "rule") (number (unsigned rule)) (member (codes "seen") (number (unsigned n.seen))
    (member (codes "shadow") (number (unsigned n.shadow)) (member (codes "total") (number (unsigned n.total))
    (member (codes "within") (number (unsigned n.within)) no_members)))))))

-- a rule before others, if it counted anything
abbrev pub counted_before : ℕ → RuleNumbers → Items → Items
counted_before rule n rest = if n.total == 0 then rest else item (rule_data rule n) rest

-- the rules that counted anything, of which the first has this number
abbrev pub counted_items : ℕ → List RuleNumbers → Items
counted_items rule [] = no_items
counted_items rule (n ∷ ns) = counted_before rule n (counted_items (rule + 1) ns)

-- the numbers of all rules
unfoldable pub stats_data : List RuleNumbers → Data
stats_data numbers = object (member (codes "rules") (array (counted_items 0 numbers)) no_members)

-- their text
abbrev pub stats_text : List RuleNumbers → List ℕ
stats_text numbers = compact_text (stats_data numbers)
