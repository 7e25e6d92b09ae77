-- What a history has beyond an earlier state of it.
use Rattle.std.proofs.Common.{◌≡◌, List, [], ◌∷◌, ◌++◌, length, drop, refl, sym, ap, ◌∙◌, subst}
use Rattle.std.proofs.lemmas.List.{append-nil}
use Rattle.rate_io.specs.Events.{Grew, since, Continues}

dropped : {E : Type 0} (old more : List E) → drop (length old) (old ++ more) ≡ more
dropped [] more = refl
dropped (e ∷ old) more = dropped old more

pub since_is : {E : Type 0} (old new more : List E) → new ≡ old ++ more → since old new ≡ more
since_is old new more is = ap (λ l. drop (length old) l) is ∙ dropped old more

pub continues : {E : Type 0} (old new more : List E) → new ≡ old ++ more → Continues old new
continues old new more is = is ∙ ap (λ l. old ++ l) (sym (since_is old new more is))

pub stays : {E : Type 0} (old : List E) → Continues old old
stays old = continues old old [] (sym (append-nil old))

pub none_since : {E : Type 0} (old : List E) → since old old ≡ []
none_since old = since_is old old [] (sym (append-nil old))

-- a fact about what a history grew by
pub grew_since : {E : Type 0} (old new : List E) (P : List E → Type 0) → Grew old new P → P (since old new)
grew_since old new P g = subst P (sym (since_is old new g.events g.grew)) g.are

pub grew_continues : {E : Type 0} (old new : List E) (P : List E → Type 0) → Grew old new P → Continues old new
grew_continues old new P g = continues old new g.events g.grew
