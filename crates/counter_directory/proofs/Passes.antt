-- Passes of the tokens of a new list.
use Rattle.std.proofs.Common.{◌≡◌, ◌∙◌, List, [], map, All}
use Rattle.std.proofs.lemmas.List.Elements.{All-map, All-same, All-weaker}
use Rattle.atomic_table.specs.Seated.{TableId}
use Rattle.told_list.specs.declared.seen.Seen.{Seen}
use Rattle.told_list.specs.Tokens as token
use Rattle.counter_directory.specs.declared.claim.Claim.{Claim}
use Rattle.counter_directory.specs.Passes.{DirectoryPassView, list_of, knows, IsFresh}
use Rattle.counter_directory.specs.Tokens.{pass_of}

-- passes of fresh tokens of an empty list are fresh
pub all_fresh : {K : Type 0} (id : TableId) (claims : List Claim) (tokens : List (Seen K Claim)) (passes : List DirectoryPassView) → passes ≡ map pass_of tokens
    → All (λ s. (token.list_of s ≡ id) × token.IsFresh claims (token.view s)) tokens → claims ≡ [] → All (λ p. (list_of p ≡ id) × IsFresh (knows p)) passes
all_fresh {K} id claims tokens passes e all none =
    let fresh : (s : Seen K Claim) → (token.list_of s ≡ id) × token.IsFresh claims (token.view s) → (list_of (pass_of s) ≡ id) × IsFresh (knows (pass_of s))
    = λ s h. (h.0, record { known = h.1.known ∙ none; turns = h.1.turns; own = h.1.own }) in
    All-same (λ p. (list_of p ≡ id) × IsFresh (knows p)) passes (map pass_of tokens) e
    (All-map (λ p. (list_of p ≡ id) × IsFresh (knows p)) pass_of tokens
    (All-weaker (λ s. (token.list_of s ≡ id) × token.IsFresh claims (token.view s)) (λ s. (list_of (pass_of s) ≡ id) × IsFresh (knows (pass_of s))) fresh tokens all))
