-- What may be written to a connection.
use Rattle.std.specs.Prelude.{◌≡◌, ℕ, List, [], ◌∷◌, ◌++◌, length}
use Rattle.std.specs.List.{flat_map}
use Rattle.rate_io.specs.Events.{Event, given}
use Rattle.http_endpoint.specs.Answers.{Asked, Turn, IsNext, AreAnswers, turn_bytes, asked_in}
use Rattle.conn_tasks.specs.Order.{bytes_written}

-- After these calls of a link, with these checks answered, this piece may come next: what was written and the piece are a first part of the
-- answers to the bytes that the reads handed out, those that leave the connection open and one more.
pub record IsLawfulWrite (history : List Event) (asked : List Asked) (piece : List ℕ) : Type 0 where
  pub turns : List Turn
  pub last : Turn
  pub rest : List ℕ
  pub are_answers : AreAnswers 0 (given history) turns rest
  pub is_next : IsNext (length turns) rest last
  pub asked_is : asked ≡ asked_in (turns ++ last ∷ [])
  pub later : List ℕ
  pub is_first : flat_map turn_bytes (turns ++ last ∷ []) ≡ bytes_written history ++ (piece ++ later)

-- it may come next, with some checks answered
abbrev pub MayWrite : List Event → List ℕ → Type 0
MayWrite history piece = (asked : List Asked) × IsLawfulWrite history asked piece
