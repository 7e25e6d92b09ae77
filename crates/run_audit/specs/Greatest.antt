-- Inside: the greatest number that the records of a worker show, kept in a map.
use Rattle.std.specs.Prelude.{ℕ, ◌==◌, List, [], ◌∷◌, max, unwrap_or, if◌then◌else◌}
use Rattle.std.specs.BTreeMap.{is_at}
use Rattle.std.specs.Map.{lookup}
use Rattle.std.specs.Ordering.{nat_cmp}
use Rattle.reply_text.specs.declared.record.Record.{Record}

-- the greatest number of the records of a worker, 0 where there is none
abbrev pub greatest : (Record → ℕ) → ℕ → List Record → ℕ
greatest number worker [] = 0
greatest number worker (e ∷ earlier) = max (if e.worker == worker then number e else 0) (greatest number worker earlier)

-- the number of a key in a map, 0 where it has none
abbrev pub number_in : List (ℕ × ℕ) → ℕ → ℕ
number_in numbers key = unwrap_or (lookup (is_at (nat_cmp key)) numbers) 0
