-- JSON pointers (RFC 6901).
use Rattle.std.specs.Prelude.{ℕ, ◌==◌, ◌&&◌, ◌||◌, not, List, [], ◌∷◌, Bool, true, false}

-- each `~` stands before `0` or `1`, and the first byte too where one stood before it
abbrev pub tildes : Bool → List ℕ → Bool
tildes after [] = not after
tildes after (b ∷ bs) = (not after || (b == 48) || (b == 49)) && tildes (not after && (b == 126)) bs

-- a JSON pointer (RFC 6901): it is empty or begins with `/`, and `~` is written `~0` and `/` in a name `~1`
abbrev pub is_pointer : List ℕ → Bool
is_pointer [] = true
is_pointer (b ∷ bs) = (b == 47) && tildes false bs
