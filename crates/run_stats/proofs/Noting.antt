-- Statuses of checks and of lines, behind those of the ones before them.
use Rattle.std.proofs.Common.{◌≡◌, ℕ, zero, suc, ◌+◌, ◌<◌, ◌≤◌, ◌⊎◌, inl, inr, List, [], ◌∷◌, ◌++◌, take, length, get_or, refl, ap, sym, ◌∙◌, arith, append_assoc, unwrap_or, subst}
use Rattle.rate_types.specs.Requests.{RequestParts}
use Rattle.rate_types.specs.declared.request.Descriptor.{Descriptor}
use Rattle.rls_core.specs.Reply.{hits_of}
use Rattle.rls_core.specs.declared.status.Status.{Status}
use Rattle.rule_stats.specs.declared.numbers.RuleNumbers.{RuleNumbers}
use Rattle.rule_stats.specs.Statistics.{Note}
use Rattle.rule_stats.specs.Sums.{AreSums}
use Rattle.run_stats.specs.RunStats.{notes_of_check}

one_behind : (n : ℕ) → suc n ≡ n + 1
one_behind n = omega arith

module _ (version : ℕ) (request : RequestParts) where
  -- the note of a place
  abbrev note_at : List Descriptor → List Status → ℕ → Descriptor → Status → Note
  note_at ds ss p d s = record { version = version; hits = unwrap_or (get_or ds p d).hits request.hits; status = get_or ss p s }

  next_at : (ds : List Descriptor) (ss : List Status) (p : ℕ) (d : Descriptor) (s : Status) → p < length ds → p < length ss
      → notes_of_check version request (take (suc p) ds) (take (suc p) ss)
      ≡ notes_of_check version request (take p ds) (take p ss) ++ note_at ds ss p d s ∷ []
  next_at [] ss p d s h k = absurd (omega (arith, h))
  next_at (e ∷ ds) [] p d s h k = absurd (omega (arith, k))
  next_at (e ∷ ds) (t ∷ ss) zero d s h k = refl
  next_at (e ∷ ds) (t ∷ ss) (suc p) d s h k =
      ap (λ (ns : List Note). record { version = version; hits = hits_of request e; status = t } ∷ ns)
      (next_at ds ss p d s (omega (arith, h)) (omega (arith, k)))

  -- One status more: with these it is summed up too.
  pub next_sums : (ds : List Descriptor) (ss : List Status) (p : ℕ) (d : Descriptor) (s : Status) → p < length ds → p < length ss
      → (hits : ℕ) → hits ≡ unwrap_or (get_or ds p d).hits request.hits → (notes : List Note) (versions : List (List RuleNumbers))
      → AreSums ((notes ++ notes_of_check version request (take p ds) (take p ss))
      ++ record { version = version; hits = hits; status = get_or ss p s } ∷ []) versions
      → AreSums (notes ++ notes_of_check version request (take (p + 1) ds) (take (p + 1) ss)) versions
  next_sums ds ss p d s h k hits is notes versions are =
      subst (λ (n : ℕ). AreSums (notes ++ notes_of_check version request (take n ds) (take n ss)) versions) (one_behind p)
      (subst (λ (ns : List Note). AreSums ns versions)
      (append_assoc notes (notes_of_check version request (take p ds) (take p ss)) (note_at ds ss p d s ∷ [])
      ∙ ap (λ (ns : List Note). notes ++ ns) (sym (next_at ds ss p d s h k)))
      (subst (λ (n : ℕ). AreSums ((notes ++ notes_of_check version request (take p ds) (take p ss))
      ++ record { version = version; hits = n; status = get_or ss p s } ∷ []) versions) is are))

  -- where one of the lists is at its end, these are all
  pub all_notes : (ds : List Descriptor) (ss : List Status) (p : ℕ) → (length ds ≤ p) ⊎ (length ss ≤ p)
      → notes_of_check version request (take p ds) (take p ss) ≡ notes_of_check version request ds ss
  all_notes [] ss zero h = refl
  all_notes [] ss (suc p) h = refl
  all_notes (d ∷ ds) [] zero h = refl
  all_notes (d ∷ ds) [] (suc p) h = refl
  all_notes (d ∷ ds) (s ∷ ss) zero (inl h) = absurd (omega (arith, h))
  all_notes (d ∷ ds) (s ∷ ss) zero (inr h) = absurd (omega (arith, h))
  all_notes (d ∷ ds) (s ∷ ss) (suc p) (inl h) =
      ap (λ (ns : List Note). record { version = version; hits = hits_of request d; status = s } ∷ ns) (all_notes ds ss p (inl (omega (arith, h))))
  all_notes (d ∷ ds) (s ∷ ss) (suc p) (inr h) =
      ap (λ (ns : List Note). record { version = version; hits = hits_of request d; status = s } ∷ ns) (all_notes ds ss p (inr (omega (arith, h))))
