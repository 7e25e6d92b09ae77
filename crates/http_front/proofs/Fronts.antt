-- What the front of the bytes is, by where their head ends.
use Rattle.std.proofs.Common.{◌≡◌, ℕ, List, take, drop, Some, subst}
use Rattle.http_front.specs.declared.front.Front.{Front}
use Rattle.http_front.specs.Head.{head_max, head_length}
use Rattle.http_front.specs.Front.{IsFront, IsFrontAfter}

pub found_front : (bytes head after : List ℕ) (n : ℕ) (front : Front)
    → head_length (take head_max bytes) ≡ Some n → head ≡ take n bytes → after ≡ drop n bytes
    → IsFrontAfter head after front → IsFront bytes front
found_front bytes head after n front at first last is =
    rw at (subst (λ xs. IsFrontAfter xs (drop n bytes) front) first (subst (λ ys. IsFrontAfter head ys front) last is))
