-- Inside: records put at the places of their lines.
use Rattle.std.specs.Prelude.{◌-◌, List, [], ◌∷◌, slice_set}
use Rattle.std.specs.declared.option.Option.{Option}
use Rattle.std.specs.declared.option.Option.TheVariants.{Some}
use Rattle.reply_text.specs.declared.record.Record.{Record}

-- the places after each of these records was put at that of its line
abbrev pub all_placed : List (Option Record) → List Record → List (Option Record)
all_placed places [] = places
all_placed places (r ∷ rs) = all_placed (slice_set places (r.line - 1) (Some r)) rs
