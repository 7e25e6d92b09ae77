-- Bytes that are written line by line.
use Rattle.std.proofs.Common.{◌≡◌, ℕ, ◌+◌, ◌<◌, List, [], ◌∷◌, ◌++◌, map, take, drop, length, Option, Some, None, get_or, refl, sym, ap, ◌∙◌, append_assoc, take-append-drop}
use Rattle.std.specs.List.{concat}
use Rattle.std.proofs.lemmas.List.{take_more, append-nil, map-append}
use Rattle.rate_io.specs.Content.{Appends, AppendsPart}
use Rattle.rate_io.specs.Events.{Event, wrote}
use Rattle.cli_exits.specs.Output.{AppendsFront}

pub appends_more : (a b c : Option (List ℕ)) (xs ys : List ℕ) → Appends a b xs → Appends b c ys → Appends a c (xs ++ ys)
appends_more a b None xs ys p q = tt
appends_more a None (Some cs) xs ys p q = absurd q
appends_more None (Some bs) (Some cs) xs ys p q = absurd p
appends_more (Some old) (Some bs) (Some cs) xs ys p q = q ∙ ap (λ l. l ++ ys) p ∙ append_assoc old xs ys

pub appends_none : (a : Option (List ℕ)) → Appends a a []
appends_none None = tt
appends_none (Some old) = sym (append-nil old)

pub concat_push : (ps : List (List ℕ)) (p : List ℕ) → concat (ps ++ p ∷ []) ≡ concat ps ++ p
concat_push [] p = append-nil p
concat_push (q ∷ ps) p = ap (λ l. q ++ l) (concat_push ps p) ∙ sym (append_assoc q (concat ps) p)

concat_append : (ps qs : List (List ℕ)) → concat (ps ++ qs) ≡ concat ps ++ concat qs
concat_append [] qs = refl
concat_append (p ∷ ps) qs = ap (λ l. p ++ l) (concat_append ps qs) ∙ sym (append_assoc p (concat ps) (concat qs))

-- a line that was written in part
pub front_of : (a b c : Option (List ℕ)) (before : List (List ℕ)) (p : List ℕ) (after : List (List ℕ)) → Appends a b (concat before) → AppendsPart b c p
    → AppendsFront a c (concat (before ++ p ∷ after))
front_of a b c before p after so_far part = (
  concat before ++ take part.0 p,
  drop part.0 p ++ concat after,
  concat_append before (p ∷ after) ∙ ap (λ l. concat before ++ (l ++ concat after)) (sym (take-append-drop part.0 p))
      ∙ ap (λ l. concat before ++ l) (append_assoc (take part.0 p) (drop part.0 p) (concat after))
      ∙ sym (append_assoc (concat before) (take part.0 p) (drop part.0 p ++ concat after)),
  appends_more a b c (concat before) (take part.0 p) so_far part.1,
)

-- a list, cut at one of its elements
pub cut_list : {X : Type 0} (xs : List X) (i : ℕ) (d : X) → i < length xs → xs ≡ take i xs ++ get_or xs i d ∷ drop (i + 1) xs
cut_list xs i d h = sym (take-append-drop (i + 1) xs) ∙ ap (λ l. l ++ drop (i + 1) xs) (take_more xs i d h) ∙ append_assoc (take i xs) (get_or xs i d ∷ []) (drop (i + 1) xs)

-- one more piece was written
pub one_more : (old mid new : List Event) (pieces : List (List ℕ)) (piece : List ℕ) → mid ≡ old ++ map wrote pieces → new ≡ mid ++ wrote piece ∷ []
    → new ≡ old ++ map wrote (pieces ++ piece ∷ [])
one_more old mid new pieces piece so_far is =
    is ∙ ap (λ l. l ++ wrote piece ∷ []) so_far ∙ append_assoc old (map wrote pieces) (wrote piece ∷ []) ∙ ap (λ l. old ++ l) (sym (map-append wrote pieces (piece ∷ [])))
