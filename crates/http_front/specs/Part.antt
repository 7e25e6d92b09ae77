-- What is known of the front while its request may still be coming.
use Rattle.std.specs.Prelude.{◌≡◌, ℕ, ◌+◌, ◌<◌, ◌≤◌, Bool, true, false, List, ◌++◌, length, if◌then◌else◌}
use Rattle.http_front.specs.Head.{head_max}
use Rattle.http_front.specs.Front.{IsFront, is_waiting, sends, has_json, used_of, body_max}
use Rattle.http_front.specs.declared.front.Front.{Front}
use Rattle.http_front.specs.declared.front.Front.TheVariants.{Ended, CutShort}
use Rattle.http_front.specs.declared.part.Part.{Part}
use Rattle.http_front.specs.declared.part.Part.TheVariants.{Whole, NoHead, NoBody}

-- The front that stands at these bytes, whatever follows them: it waits for no byte, lies within them, and is the only one.
pub record Stands (bytes : List ℕ) (front : Front) : Type 0 where
  pub front_is : IsFront bytes front
  pub settled : is_waiting front ≡ false
  pub within : used_of front ≤ length bytes
  pub stays : (more : List ℕ) → IsFront (bytes ++ more) front
  pub only : (more : List ℕ) (other : Front) → IsFront (bytes ++ more) other → other ≡ front

-- a request of so many bytes in all: with fewer it is cut short, with as many it gets an answer, whose body is sent or not
pub record EndsAt (bytes : List ℕ) (total : ℕ) (sends_body : Bool) : Type 0 where
  pub short : length bytes < total
  pub most : total ≤ head_max + body_max
  pub until : (more : List ℕ) → length (bytes ++ more) < total → IsFront (bytes ++ more) CutShort
  pub later : (more : List ℕ) → total ≤ length (bytes ++ more)
      → (front : Front) × Stands (bytes ++ more) front × (used_of front ≡ total) × (sends_body ≡ sends front)

-- what is known of the front: all of it, that no head is there yet, or where the request ends
abbrev pub IsPart : List ℕ → Part → Type 0
IsPart bytes (Whole front) = Stands bytes front
IsPart bytes (NoHead is_blank) = IsFront bytes (if is_blank then Ended else CutShort) × (length bytes < head_max)
IsPart bytes (NoBody total sends_body) = EndsAt bytes total sends_body

-- want of memory comes in the place of this front
abbrev pub NeedsMemory : List ℕ → Type 0
NeedsMemory bytes = (front : Front) × Stands bytes front × (has_json front ≡ true) × (sends front ≡ true)
