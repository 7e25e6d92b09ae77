-- Inside: how the logic stores the events of a listener.
use Rattle.std.specs.Prelude.{◌≡◌, ℕ, ◌==◌, List, [], Bool, false, cond, refl}
use Rattle.std.specs.Coded.{Coded, code_by, coded×, coded_ℕ, coded_bool, coded_list}
use Rattle.rate_io.specs.Events.{Event}
use Rattle.rate_io.specs.Stored.{events_code}
use Rattle.rate_io.specs.Listeners.{ListenEvent, bound, bind_failed, accepted, accept_failed, gave_back}

abbrev Parts : Type 0
Parts = (ℕ × ℕ) × ((ℕ × List Event) × Bool)

abbrev to_parts : ListenEvent → Parts
to_parts (bound asked port) = ((0, asked), ((port, []), false))
to_parts (bind_failed asked) = ((1, asked), ((0, []), false))
to_parts accepted = ((2, 0), ((0, []), false))
to_parts accept_failed = ((3, 0), ((0, []), false))
to_parts (gave_back number calls shut) = ((4, number), ((0, calls), shut))

abbrev from_parts : Parts → ListenEvent
from_parts p =
    cond (p.0.0 == 0) (bound p.0.1 p.1.0.0) (cond (p.0.0 == 1) (bind_failed p.0.1) (cond (p.0.0 == 2) accepted
    (cond (p.0.0 == 3) accept_failed (gave_back p.0.1 p.1.0.1 p.1.1))))

pub from_parts-to_parts : (e : ListenEvent) → from_parts (to_parts e) ≡ e
from_parts-to_parts (bound asked port) = refl
from_parts-to_parts (bind_failed asked) = refl
from_parts-to_parts accepted = refl
from_parts-to_parts accept_failed = refl
from_parts-to_parts (gave_back number calls shut) = refl

abbrev pub listens_code : Coded (List ListenEvent)
listens_code
    = coded_list (code_by Parts (coded× (coded× coded_ℕ coded_ℕ) (coded× (coded× coded_ℕ events_code) coded_bool)) to_parts from_parts
    from_parts-to_parts)
