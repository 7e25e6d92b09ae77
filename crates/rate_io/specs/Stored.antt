-- Inside: how the logic stores events.
use Rattle.std.specs.Prelude.{◌≡◌, ℕ, ◌==◌, List, [], ◌∷◌, cond, refl}
use Rattle.std.specs.Coded.{Coded, code_by, coded×, coded_ℕ, coded_list}
use Rattle.rate_io.specs.Events.{Event, gave, ended, read_failed, wrote, write_failed, flushed, flush_failed, told, FileEvent}

abbrev Parts : Type 0
Parts = ℕ × List ℕ

abbrev first : List ℕ → ℕ
first [] = 0
first (n ∷ ns) = n

abbrev to_parts : Event → Parts
to_parts (gave bytes) = (0, bytes)
to_parts ended = (1, [])
to_parts read_failed = (2, [])
to_parts (wrote piece) = (3, piece)
to_parts (write_failed piece) = (4, piece)
to_parts flushed = (5, [])
to_parts flush_failed = (6, [])
to_parts (told now) = (7, now ∷ [])

abbrev from_parts : Parts → Event
from_parts p =
    cond (p.0 == 0) (gave p.1) (cond (p.0 == 1) ended (cond (p.0 == 2) read_failed (cond (p.0 == 3) (wrote p.1)
    (cond (p.0 == 4) (write_failed p.1) (cond (p.0 == 5) flushed (cond (p.0 == 6) flush_failed (told (first p.1))))))))

pub from_parts-to_parts : (e : Event) → from_parts (to_parts e) ≡ e
from_parts-to_parts (gave bytes) = refl
from_parts-to_parts ended = refl
from_parts-to_parts read_failed = refl
from_parts-to_parts (wrote piece) = refl
from_parts-to_parts (write_failed piece) = refl
from_parts-to_parts flushed = refl
from_parts-to_parts flush_failed = refl
from_parts-to_parts (told now) = refl

abbrev pub events_code : Coded (List Event)
events_code = coded_list (code_by Parts (coded× coded_ℕ (coded_list coded_ℕ)) to_parts from_parts from_parts-to_parts)

abbrev pub files_code : Coded (List FileEvent)
files_code = coded_list (coded× (coded_list coded_ℕ) events_code)
