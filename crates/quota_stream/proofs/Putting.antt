-- What is put behind a text piece by piece is all of it in one.
use Rattle.std.proofs.Common.{◌≡◌, ◌++◌, List, ℕ, ap, ◌∙◌, append_assoc}

pub two_put : (old mid new a b : List ℕ) → mid ≡ old ++ a → new ≡ mid ++ b → new ≡ old ++ (a ++ b)
two_put old mid new a b one two = two ∙ ap (λ (l : List ℕ). l ++ b) one ∙ append_assoc old a b

pub three_put : (old mid then new a b d : List ℕ) → mid ≡ old ++ a → then ≡ mid ++ b → new ≡ then ++ d → new ≡ old ++ (a ++ (b ++ d))
three_put old mid then new a b d one two three = two_put mid then new b d two three ∙ ap (λ (l : List ℕ). l ++ (b ++ d)) one ∙ append_assoc old a (b ++ d)
