-- Tests of facts.
use Rattle.std.proofs.Common.{◌≡◌, ◌||◌, ◌&&◌, not, List, [], ◌∷◌, Bool, true, false, refl, sym, ◌∙◌, inl, inr}
use Rattle.std.specs.Prelude.{◌⊎◌}
use Rattle.std.specs.List.{AllByRecursion, list_all}
use Rattle.std.specs.Bool.{Decides}

pub false_true : false ≡ true → ⊥
false_true e = cc

pub both : {P Q : Type 0} (a b : Bool) → Decides a P → Decides b Q → Decides (a && b) (P × Q)
both true true p q = (λ e. (p.0 refl, q.0 refl), λ h. refl)
both true false p q = (λ e. absurd (false_true e), λ h. q.1 h.1)
both false b p q = (λ e. absurd (false_true e), λ h. p.1 h.0)

-- the second where the first holds
pub implied : {P Q : Type 0} (a b : Bool) → Decides a P → Decides b Q → Decides (not a || b) (P → Q)
implied true b p q = (λ e h. q.0 e, λ h. q.1 (h (p.0 refl)))
implied false b p q = (λ e h. absurd (false_true (p.1 h)), λ h. refl)

pub all : {X : Type 0} (p : X → Bool) (P : X → Type 0) → ((x : X) → Decides (p x) (P x)) → (xs : List X)
    → Decides (list_all p xs) (AllByRecursion P xs)
all p P each [] = (λ e. tt, λ h. refl)
all p P each (x ∷ xs) = both (p x) (list_all p xs) (each x) (all p P each xs)

pub either : {P Q : Type 0} (a b : Bool) → Decides a P → Decides b Q → Decides (a || b) (P ⊎ Q)
either true b p q = (λ e. inl (p.0 refl), λ h. refl)
either false b p q = (λ e. inr (q.0 e), λ h. elim h [ inl x ↦ absurd (false_true (p.1 x)) | inr y ↦ q.1 y ])

-- another test of an equal fact
pub renamed : {P : Type 0} (a b : Bool) → a ≡ b → Decides b P → Decides a P
renamed {P = P} a b e d = (λ h. d.0 (sym e ∙ h), λ p. e ∙ d.1 p)
