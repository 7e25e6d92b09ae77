-- What a call leaves where there is no bucket of its name.
use Rattle.std.specs.Prelude.{⊤}
use Rattle.std.proofs.Common.{◌≡◌, ℕ, List, [], ◌∷◌, Bool, true, false, Option, Some, None, Result, Ok, Err, OnErr, IfNone, ◌↔◌}
use Rattle.std.proofs.Common.{find, cond, option_map, is_some, refl, sym, ap, ◌∙◌}
use Rattle.quota_settings.specs.declared.pair.Pair.{Pair}
use Rattle.quota_bucket.specs.declared.strategy.Strategy.{Strategy}
use Rattle.quota_buckets.specs.FirstMatch.{at_first, without_first}
use Rattle.quota_buckets.specs.Pasts.{Past, is_named}
use Rattle.quota_buckets.specs.Streams.{Stream, bucket_of, answer, asked_again, assigned_in, assignment_result, or_no_bucket, abandoned_in}
use Rattle.quota_buckets.specs.declared.answers.Assigned.{Assigned}
use Rattle.quota_buckets.specs.declared.answers.NoBucket.{NoBucket}

first_absent : (id : List Pair) (f : Past → Past) (ps : List Past) → find (is_named id) ps ≡ None → at_first (is_named id) f ps ≡ ps
first_absent id f [] none = refl
first_absent id f (p ∷ ps) none = over (is_named id p) none (first_absent id f ps)
  where
    over : (b : Bool) → cond b (Some p) (find (is_named id) ps) ≡ None → (find (is_named id) ps ≡ None → at_first (is_named id) f ps ≡ ps)
        → cond b (f p ∷ ps) (p ∷ at_first (is_named id) f ps) ≡ p ∷ ps
    over true none rest = absurd (cc)
    over false none rest = ap (λ l. p ∷ l) (rest none)

without_absent : (id : List Pair) (ps : List Past) → find (is_named id) ps ≡ None → without_first (is_named id) ps ≡ ps
without_absent id [] none = refl
without_absent id (p ∷ ps) none = over (is_named id p) none (without_absent id ps)
  where
    over : (b : Bool) → cond b (Some p) (find (is_named id) ps) ≡ None → (find (is_named id) ps ≡ None → without_first (is_named id) ps ≡ ps)
        → cond b ps (p ∷ without_first (is_named id) ps) ≡ p ∷ ps
    over true none rest = absurd (cc)
    over false none rest = ap (λ l. p ∷ l) (rest none)

buckets_same : (s : Stream) (later : List Past) → later ≡ s.buckets → record s { buckets = later } ≡ s
buckets_same s later same = ap (λ (l : List Past). let t : Stream = record s { buckets = l } in t) same

mapped_none : {X : Type 0} (f : Past → X) (o : Option Past) → None ≡ option_map f o → o ≡ None
mapped_none f None none = refl
mapped_none f (Some p) none = absurd (cc)

refused_none : {X : Type 0} (f : Past → X) (o : Option Past) (e : NoBucket) → Err e ≡ or_no_bucket (option_map f o) → o ≡ None
refused_none f None e none = refl
refused_none f (Some p) e none = absurd (cc)

-- a request of a bucket that isn't there
pub decide_unchanged : (id : List Pair) (old new : Stream) (r : Option Bool) → new ≡ asked_again id old → r ≡ answer id old → IfNone r (new ≡ old)
decide_unchanged id old new (Some allowed) counted told = tt
decide_unchanged id old new None counted told =
    counted ∙ buckets_same old _ (first_absent id _ old.buckets (mapped_none _ (bucket_of id old) told))

-- an assignment to one
pub assign_unchanged : (id : List Pair) (lifetime : Option ℕ) (strategy : Strategy) (old new : Stream) (r : Result Assigned NoBucket)
    → new ≡ assigned_in id lifetime strategy old → r ≡ assignment_result id strategy old → OnErr r (new ≡ old)
assign_unchanged id lifetime strategy old new (Ok assigned) changed told = tt
assign_unchanged id lifetime strategy old new (Err e) changed told =
    changed ∙ buckets_same old _ (first_absent id _ old.buckets (refused_none _ (bucket_of id old) e told))

absent : (o : Option Past) → is_some o ≡ false → o ≡ None
absent None none = refl
absent (Some p) none = absurd (cc)

-- an abandonment of one
pub abandon_unchanged : (id : List Pair) (old new : Stream) (was_there : Bool) (r : Result ⊤ NoBucket) → new ≡ abandoned_in id old
    → was_there ≡ is_some (bucket_of id old) → (r ≡ Err (record {})) ↔ (was_there ≡ false) → OnErr r (new ≡ old)
abandon_unchanged id old new was_there (Ok done) changed told found = tt
abandon_unchanged id old new was_there (Err e) changed told found =
    changed ∙ buckets_same old _ (without_absent id old.buckets (absent (bucket_of id old) (sym told ∙ found.0 refl)))
