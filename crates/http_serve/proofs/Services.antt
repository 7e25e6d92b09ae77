-- Links that were served, with one link more.
use Rattle.std.proofs.Common.{List, [], ◌∷◌, ◌++◌, refl, sym, ap, ◌∙◌, subst, append_assoc}
use Rattle.std.proofs.lemmas.List.{append-nil}
use Rattle.http_endpoint.specs.Answers.{CheckStep, Asked, Lead}
use Rattle.http_serve.specs.Service.{Service, IsServed, AreServed}

module _ {S : Type 0} (answers : CheckStep S) where
  pub served_push : (p : S) (ss : List Service) (xs : List Asked) (mid : S) (s : Service) (ys : List Asked) (q : S) → AreServed answers p ss xs mid
      → IsServed answers mid s ys q → AreServed answers p (ss ++ s ∷ []) (xs ++ ys) q
  served_push p [] xs mid s ys q h one =
      (q, ys, [], ap (λ (l : List Asked). l ++ ys) h.0 ∙ sym (append-nil ys), subst (λ (x : S). IsServed answers x s ys q) h.1 one, (refl, refl))
  served_push p (x ∷ xs) asked mid s ys q h one =
      (h.0, h.1, h.2 ++ ys, ap (λ (l : List Asked). l ++ ys) h.3 ∙ append_assoc h.1 h.2 ys, h.4, served_push h.0 xs h.2 mid s ys q h.5 one)

  lead_on : (p : S) (xs : List Asked) (mid : S) (ys : List Asked) (q : S) → Lead answers p xs mid → Lead answers mid ys q → Lead answers p (xs ++ ys) q
  lead_on p [] mid ys q h k = subst (λ (x : S). Lead answers x ys q) h k
  lead_on p (a ∷ more) mid ys q h k = (h.0, h.1, lead_on h.0 more mid ys q h.2 k)

  -- their checks lead from one state to the other
  pub served_leads : (p : S) (ss : List Service) (xs : List Asked) (q : S) → AreServed answers p ss xs q → Lead answers p xs q
  served_leads p [] xs q h = subst (λ (l : List Asked). Lead answers p l q) (sym h.0) h.1
  served_leads p (s ∷ ss) xs q h =
      let one : Lead answers p h.1 h.0 = subst (λ (l : List Asked). Lead answers p l h.0) (sym h.4.checks) h.4.serves.lead in
      subst (λ (l : List Asked). Lead answers p l q) (sym h.3) (lead_on p h.1 h.0 h.2 q one (served_leads h.0 ss h.2 q h.5))
