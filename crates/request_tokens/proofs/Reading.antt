-- Reading a list item by item.
use Rattle.std.proofs.Common.{◌≡◌, ℕ, ◌+◌, List, [], ◌∷◌, ◌++◌, length, Some, arith, sym, ap, ◌∙◌, append_assoc, append-nil, length-append}
use Rattle.std.specs.List.{AllByRecursion}
use Rattle.json.specs.Token.{Token, end_array}
use Rattle.json.specs.Json.{after_end_array}
use Rattle.request_tokens.specs.Usual.{list_tokens}

-- so many items were read since the tokens were these, each of them good
pub record HasRead {X : Type 0} (each : X → List Token → List Token) (P : X → Type 0) (start now : List Token) (xs : List X) (count : ℕ) : Type 0 where
  pub tokens : (more : List X) (rest : List Token) → now ≡ list_tokens each more rest → start ≡ list_tokens each (xs ++ more) rest
  pub many : length xs ≡ count
  pub good : AllByRecursion P xs

pub all_more : {X : Type 0} (P : X → Type 0) (xs : List X) (x : X) → AllByRecursion P xs → P x → AllByRecursion P (xs ++ x ∷ [])
all_more P [] x h p = (p, tt)
all_more P (y ∷ ys) x h p = (h.0, all_more P ys x h.1 p)

pub one_more : {X : Type 0} (each : X → List Token → List Token) (P : X → Type 0) (start now now' : List Token) (xs : List X) (count : ℕ) (x : X)
    → HasRead each P start now xs count → now ≡ each x now' → P x → HasRead each P start now' (xs ++ x ∷ []) (count + 1)
one_more each P start now now' xs count x h is p = record {
  tokens = λ more rest same. h.tokens (x ∷ more) rest (is ∙ ap (each x) same) ∙ ap (λ l. list_tokens each l rest) (sym (append_assoc xs (x ∷ []) more));
  many = omega (arith, h.many, length-append xs (x ∷ []));
  good = all_more P xs x h.good p;
}

ends_so : (now now' : List Token) → after_end_array now ≡ Some now' → now ≡ end_array ∷ now'
ends_so (Token.end_array ∷ ts) now' is = ap (λ l. end_array ∷ l) (cc)
ends_so [] now' is = absurd cc
ends_so (Token.begin_object ∷ ts) now' is = absurd cc
ends_so (Token.end_object ∷ ts) now' is = absurd cc
ends_so (Token.begin_array ∷ ts) now' is = absurd cc
ends_so (Token.key s ∷ ts) now' is = absurd cc
ends_so (Token.string s ∷ ts) now' is = absurd cc
ends_so (Token.number s ∷ ts) now' is = absurd cc
ends_so (Token.boolean b ∷ ts) now' is = absurd cc
ends_so (Token.null ∷ ts) now' is = absurd cc
ends_so (Token.bad ∷ ts) now' is = absurd cc

pub closed : {X : Type 0} (each : X → List Token → List Token) (P : X → Type 0) (start now now' : List Token) (xs : List X) (count : ℕ)
    → HasRead each P start now xs count → after_end_array now ≡ Some now' → start ≡ list_tokens each xs now'
closed each P start now now' xs count h is =
    h.tokens [] now' (ends_so now now' is) ∙ ap (λ l. list_tokens each l now') (append-nil xs)
