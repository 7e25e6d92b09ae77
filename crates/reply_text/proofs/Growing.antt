-- What is put behind a text piece by piece is all of it in one.
use Rattle.std.proofs.Common.{◌≡◌, ◌++◌, List, ℕ, append_assoc}

pub grown_by_4 : (out a b d e : List ℕ) → (((out ++ a) ++ b) ++ d) ++ e ≡ out ++ (a ++ (b ++ (d ++ e)))
grown_by_4 out a b d e = simp append_assoc

pub grown_by_5 : (out a b d e f : List ℕ) → ((((out ++ a) ++ b) ++ d) ++ e) ++ f ≡ out ++ (a ++ (b ++ (d ++ (e ++ f))))
grown_by_5 out a b d e f = simp append_assoc

pub grown_by_7 : (out a b d e f g h : List ℕ)
    → ((((((out ++ a) ++ b) ++ d) ++ e) ++ f) ++ g) ++ h ≡ out ++ (a ++ (b ++ (d ++ (e ++ (f ++ (g ++ h))))))
grown_by_7 out a b d e f g h = simp append_assoc
