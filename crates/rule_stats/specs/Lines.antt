-- The lines of the statistics: one for each rule that counted anything, by version and then by rule.
use Rattle.std.specs.Prelude.{ℕ, ◌+◌, ◌==◌, List, [], ◌∷◌, ◌++◌, if◌then◌else◌, codes}
use Rattle.serde_json.specs.Data.{Data, number, unsigned, object, no_members, member}
use Rattle.serde_json.specs.Written.{compact_text}
use Rattle.rule_stats.specs.declared.numbers.RuleNumbers.{RuleNumbers}

-- the numbers of a rule of a version, with its number
unfoldable pub numbers_data : ℕ → ℕ → RuleNumbers → Data
numbers_data version rule n = object (member (codes "near") (number (unsigned n.near))
    (member (codes "over") (number (unsigned n.over)) (member (codes "rule") (number (unsigned rule))
    (member (codes "seen") (number (unsigned n.seen)) (member (codes "shadow") (number (unsigned n.shadow))
    (member (codes "total") (number (unsigned n.total)) (member (codes "version") (number (unsigned version))
    (member (codes "within") (number (unsigned n.within)) no_members))))))))

-- the line of a rule
unfoldable pub line_data : ℕ → ℕ → RuleNumbers → Data
line_data version rule n = object (member (codes "stats") (numbers_data version rule n) no_members)

-- its text
abbrev pub line_text : ℕ → ℕ → RuleNumbers → List ℕ
line_text version rule n = compact_text (line_data version rule n)

-- the texts of the rules of a version that counted anything, of which the first has this number
abbrev pub rule_texts : ℕ → ℕ → List RuleNumbers → List (List ℕ)
rule_texts version rule [] = []
rule_texts version rule (n ∷ ns) = if n.total == 0 then rule_texts version (rule + 1) ns
    else line_text version rule n ∷ rule_texts version (rule + 1) ns

-- those of all versions, of which the first has this number
abbrev pub version_texts : ℕ → List (List RuleNumbers) → List (List ℕ)
version_texts version [] = []
version_texts version (rules ∷ more) = rule_texts version 0 rules ++ version_texts (version + 1) more

-- The texts of the statistics.
abbrev pub texts_of : List (List RuleNumbers) → List (List ℕ)
texts_of versions = version_texts 0 versions
