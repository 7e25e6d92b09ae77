-- The text of the statistics of rules, and of single numbers, in Prometheus' text format.
use Rattle.std.specs.Prelude.{◌≡◌, ℕ, ◌==◌, List, [], ◌++◌, if◌then◌else◌, codes, decimal}
use Rattle.std.specs.List.{flat_map, zip}
use Rattle.rule_stats.specs.declared.numbers.RuleNumbers.{RuleNumbers}
use Rattle.prometheus_text.specs.declared.kind.Kind.{Kind}
use Rattle.prometheus_text.specs.declared.kind.Kind.TheVariants.{Counter, Gauge}
use Rattle.prometheus_text.specs.declared.labels.Labels.{Labels}
use Rattle.prometheus_text.specs.declared.metric.Metric.{Metric}
use Rattle.prometheus_text.specs.Escapes.{escaped}
use Rattle.prometheus_text.specs.Metrics.{metrics, name_of, help_of, number_of}

-- the kind of a metric
abbrev pub kind_word : Kind → List ℕ
kind_word Counter = codes "counter"
kind_word Gauge = codes "gauge"

-- the two lines that begin a metric: what it counts, and its kind
abbrev pub head : List ℕ → List ℕ → Kind → List ℕ
head name help kind = codes "# HELP " ++ (name ++ (codes " " ++ (help
    ++ (codes "\n# TYPE " ++ (name ++ (codes " " ++ (kind_word kind ++ codes "\n")))))))

-- the labels of a line
abbrev pub labels_part : Labels → List ℕ
labels_part labels = codes "{domain=\"" ++ (escaped labels.domain ++ (codes "\",path=\"" ++ (escaped labels.path ++ codes "\"}")))

-- the line of a metric with labels
abbrev pub label_line : List ℕ → Labels → ℕ → List ℕ
label_line name labels number = name ++ (labels_part labels ++ (codes " " ++ decimal number ++ codes "\n"))

-- Labels are told apart by their part of a line, whatever stands behind it.
abbrev pub AreToldApart : Type 0
AreToldApart = (one other : Labels) (x y : List ℕ) → labels_part one ++ x ≡ labels_part other ++ y → one ≡ other

-- the line of a metric without labels
abbrev pub plain_line : List ℕ → ℕ → List ℕ
plain_line name number = name ++ (codes " " ++ decimal number ++ codes "\n")

-- the line of a rule, if it counted anything
abbrev pub counted_line : Metric → Labels → RuleNumbers → List ℕ
counted_line m labels numbers = if numbers.total == 0 then [] else label_line (name_of m) labels (number_of m numbers)

-- a metric of rules: its head, and the lines of the rules that counted anything, in the order of rules
abbrev pub metric : Metric → List Labels → List RuleNumbers → List ℕ
metric m labels numbers = head (name_of m) (help_of m) Counter ++ flat_map (λ r. counted_line m r.0 r.1) (zip labels numbers)

-- The text of the statistics of rules.
abbrev pub prometheus_text : List Labels → List RuleNumbers → List ℕ
prometheus_text labels numbers = flat_map (λ m. metric m labels numbers) metrics

-- The text of a metric of one number.
abbrev pub single : List ℕ → List ℕ → Kind → ℕ → List ℕ
single name help kind number = head name help kind ++ plain_line name number
