-- Statuses of a check, behind those before them.
use Rattle.std.proofs.Common.{◌≡◌, ℕ, zero, suc, ◌+◌, ◌<◌, ◌≤◌, ◌⊎◌, inl, inr, List, [], ◌∷◌, ◌++◌, take, length, get_or, refl, ap, sym, ◌∙◌, arith, append_assoc, unwrap_or, Option, Some, None}
use Rattle.std.specs.Option.{option_map}
use Rattle.rate_types.specs.Requests.{RequestParts}
use Rattle.rate_types.specs.declared.request.Descriptor.{Descriptor}
use Rattle.rls_core.specs.Reply.{hits_of}
use Rattle.rls_core.specs.declared.status.Status.{Status}
use Rattle.counted_checks.specs.Counting.{statuses_noted, StatsView, noting}

one_behind : (n : ℕ) → n + 1 ≡ suc n
one_behind n = omega arith

-- notes behind notes
twice : (a b : List (ℕ × Status)) (s : Option StatsView) → option_map (noting b) (option_map (noting a) s) ≡ option_map (noting (a ++ b)) s
twice a b None = refl
twice a b (Some v) = ap (λ (n : List (ℕ × Status)). Some (record v { noted = n })) (append_assoc v.noted a b)

module _ (request : RequestParts) where
  -- the note of a place
  abbrev note_at : List Descriptor → List Status → ℕ → Descriptor → Status → ℕ × Status
  note_at ds ss p d s = (unwrap_or (get_or ds p d).hits request.hits, get_or ss p s)

  next_at : (ds : List Descriptor) (ss : List Status) (p : ℕ) (d : Descriptor) (s : Status) → p < length ds → p < length ss
      → statuses_noted request (take (suc p) ds) (take (suc p) ss) ≡ statuses_noted request (take p ds) (take p ss) ++ note_at ds ss p d s ∷ []
  next_at [] ss p d s h k = absurd (omega (arith, h))
  next_at (e ∷ ds) [] p d s h k = absurd (omega (arith, k))
  next_at (e ∷ ds) (t ∷ ss) zero d s h k = refl
  next_at (e ∷ ds) (t ∷ ss) (suc p) d s h k =
      ap (λ (ns : List (ℕ × Status)). (hits_of request e, t) ∷ ns) (next_at ds ss p d s (omega (arith, h)) (omega (arith, k)))

  -- one status more
  pub next_noted : (ds : List Descriptor) (ss : List Status) (p : ℕ) (d : Descriptor) (s : Status) → p < length ds → p < length ss
      → (hits : ℕ) → hits ≡ unwrap_or (get_or ds p d).hits request.hits → (before now after : Option StatsView)
      → now ≡ option_map (noting (statuses_noted request (take p ds) (take p ss))) before → after ≡ option_map (noting ((hits, get_or ss p s) ∷ [])) now
      → after ≡ option_map (noting (statuses_noted request (take (p + 1) ds) (take (p + 1) ss))) before
  next_noted ds ss p d s h k hits is before now after x y =
      y ∙ (ap (option_map (noting ((hits, get_or ss p s) ∷ []))) x
      ∙ (twice (statuses_noted request (take p ds) (take p ss)) ((hits, get_or ss p s) ∷ []) before
      ∙ ap (λ (ns : List (ℕ × Status)). option_map (noting ns) before)
      (ap (λ (n : ℕ). statuses_noted request (take p ds) (take p ss) ++ (n, get_or ss p s) ∷ []) is
      ∙ (sym (next_at ds ss p d s h k) ∙ ap (λ (n : ℕ). statuses_noted request (take n ds) (take n ss)) (sym (one_behind p))))))

  -- where one of the lists is at its end, these are all
  pub all_noted : (ds : List Descriptor) (ss : List Status) (p : ℕ) → (length ds ≤ p) ⊎ (length ss ≤ p)
      → statuses_noted request (take p ds) (take p ss) ≡ statuses_noted request ds ss
  all_noted [] ss zero h = refl
  all_noted [] ss (suc p) h = refl
  all_noted (d ∷ ds) [] zero h = refl
  all_noted (d ∷ ds) [] (suc p) h = refl
  all_noted (d ∷ ds) (s ∷ ss) zero (inl h) = absurd (omega (arith, h))
  all_noted (d ∷ ds) (s ∷ ss) zero (inr h) = absurd (omega (arith, h))
  all_noted (d ∷ ds) (s ∷ ss) (suc p) (inl h) =
      ap (λ (ns : List (ℕ × Status)). (hits_of request d, s) ∷ ns) (all_noted ds ss p (inl (omega (arith, h))))
  all_noted (d ∷ ds) (s ∷ ss) (suc p) (inr h) =
      ap (λ (ns : List (ℕ × Status)). (hits_of request d, s) ∷ ns) (all_noted ds ss p (inr (omega (arith, h))))
