-- The calls of a listener.
use Rattle.std.specs.Prelude.{⊤}
use Rattle.std.proofs.Common.{◌≡◌, List, [], ◌++◌, sym, ap, ◌∙◌, append-nil, append_assoc}
use Rattle.rate_io.specs.Events.{Grew}
use Rattle.rate_io.specs.Listeners.{ListenEvent}

-- a history that grew, or stayed
pub grown : (old new events : List ListenEvent) → new ≡ old ++ events → Grew old new (λ e. ⊤)
grown old new events is = record { events = events; grew = is; are = tt }

pub stayed : (old new : List ListenEvent) → new ≡ old → Grew old new (λ e. ⊤)
stayed old new is = record { events = []; grew = is ∙ sym (append-nil old); are = tt }

-- it grew, and then grew more
pub grew_more : (a b c : List ListenEvent) → Grew a b (λ e. ⊤) → Grew b c (λ e. ⊤) → Grew a c (λ e. ⊤)
grew_more a b c x y = grown a c (x.events ++ y.events) (y.grew ∙ ap (λ (h : List ListenEvent). h ++ y.events) x.grew ∙ append_assoc a x.events y.events)
