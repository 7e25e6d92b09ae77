-- Inside: how the rounds of a thread end.
use Rattle.std.specs.Prelude.{◌≡◌, ℕ, ◌<◌, List, ◌++◌, Bool, true, false, Result, Ok, Err, ⊤}
use Rattle.rate_io.specs.Causes.{Rose}
use Rattle.rate_io.specs.Events.{Grew}
use Rattle.rate_io.specs.Listeners.{ListenEvent}
use Rattle.http_serve.specs.Links.{accepts}
use Rattle.http_serve.specs.declared.links.LinksFault.{LinksFault}
use Rattle.http_serve.specs.declared.links.LinksFault.TheVariants.{Listen, OutOfMemory}

-- With Ok so many links were accepted, all or those before an accept that failed, and none goes on. With Listen a sleep failed. Want of
-- memory is free.
abbrev pub EndsRounds : ℕ → ℕ → ℕ → List ListenEvent → List ListenEvent → ℕ × ℕ → Result Bool LinksFault → Type 0
EndsRounds connections count live old new faults (Ok true) = (count ≡ connections) × (live ≡ 0) × (new ≡ old ++ accepts count true)
EndsRounds connections count live old new faults (Ok false) =
    (count < connections) × (live ≡ 0) × (new ≡ old ++ accepts count false) × Rose faults.0 faults.1
EndsRounds connections count live old new faults (Err Listen) = Grew old new (λ events. ⊤) × Rose faults.0 faults.1
EndsRounds connections count live old new faults (Err OutOfMemory) = Grew old new (λ events. ⊤)
