-- Compact texts are what is printed of the tokens, which are read back.
use Rattle.std.proofs.Common.{◌≡◌, ℕ, List, [], ◌∷◌, ◌++◌, codes, true, false, refl, ap, ◌∙◌}
use Rattle.json.specs.Token.{Token}
use Rattle.json.specs.Print.{quoted, print_from, ArePrintable}
use Rattle.json.proofs.OnLiterals.{json_on_literals}
use Rattle.rate_types.specs.Requests.{RequestParts}
use Rattle.rate_types.specs.declared.entries.Entry.{Entry}
use Rattle.rate_types.specs.declared.request.Descriptor.{Descriptor}
use Rattle.request_tokens.specs.Usual.{list_tokens, entry_tokens, descriptor_tokens, request_tokens}
use Rattle.request_tokens.specs.Compact.{more_text, list_text, entry_text, descriptor_text, request_text}

module _ {X : Type 0} (tokens : X → List Token → List Token) (text : X → List ℕ → List ℕ)
    (first : (x : X) (rest : List Token) → print_from false (tokens x rest) ≡ text x (print_from true rest))
    (later : (x : X) (rest : List Token) → print_from true (tokens x rest) ≡ 44 ∷ text x (print_from true rest)) where
  more_printed : (xs : List X) (rest : List Token) → print_from true (list_tokens tokens xs rest) ≡ more_text text xs (print_from true rest)
  unfolding print_from
  more_printed [] rest = refl
  more_printed (x ∷ xs) rest = later x (list_tokens tokens xs rest) ∙ ap (λ l. 44 ∷ text x l) (more_printed xs rest)

  list_printed : (xs : List X) (rest : List Token) → print_from false (list_tokens tokens xs rest) ≡ list_text text xs (print_from true rest)
  unfolding print_from
  list_printed [] rest = refl
  list_printed (x ∷ xs) rest = first x (list_tokens tokens xs rest) ∙ ap (text x) (more_printed xs rest)

entry_first : (e : Entry) (rest : List Token) → print_from false (entry_tokens e rest) ≡ entry_text e (print_from true rest)
unfolding json_on_literals
entry_first e rest = refl

entry_later : (e : Entry) (rest : List Token) → print_from true (entry_tokens e rest) ≡ 44 ∷ entry_text e (print_from true rest)
unfolding json_on_literals
entry_later e rest = refl

descriptor_first : (d : Descriptor) (rest : List Token) → print_from false (descriptor_tokens d rest) ≡ descriptor_text d (print_from true rest)
unfolding json_on_literals
descriptor_first d rest = ap (λ l. codes "{\"entries\":[" ++ l)
    (list_printed entry_tokens entry_text entry_first entry_later d.entries (Token.end_object ∷ rest))

descriptor_later : (d : Descriptor) (rest : List Token) → print_from true (descriptor_tokens d rest) ≡ 44 ∷ descriptor_text d (print_from true rest)
unfolding json_on_literals
descriptor_later d rest = ap (λ l. 44 ∷ (codes "{\"entries\":[" ++ l))
    (list_printed entry_tokens entry_text entry_first entry_later d.entries (Token.end_object ∷ rest))

pub request_printed : (r : RequestParts) (rest : List Token) → print_from false (request_tokens r rest) ≡ request_text r (print_from true rest)
unfolding json_on_literals
request_printed r rest = ap (λ l. codes "{\"domain\":" ++ (quoted r.domain ++ (codes ",\"descriptors\":[" ++ l)))
    (list_printed descriptor_tokens descriptor_text descriptor_first descriptor_later r.descriptors (Token.end_object ∷ rest))

-- ---- all of them can be printed

list_printable : {X : Type 0} (tokens : X → List Token → List Token) → ((x : X) (rest : List Token) → ArePrintable rest → ArePrintable (tokens x rest))
    → (xs : List X) (rest : List Token) → ArePrintable rest → ArePrintable (list_tokens tokens xs rest)
unfolding ArePrintable
list_printable tokens each [] rest h = (tt, h)
list_printable tokens each (x ∷ xs) rest h = each x (list_tokens tokens xs rest) (list_printable tokens each xs rest h)

entry_printable : (e : Entry) (rest : List Token) → ArePrintable rest → ArePrintable (entry_tokens e rest)
unfolding ArePrintable
entry_printable e rest h = (tt, (tt, (tt, (tt, (tt, (tt, h))))))

descriptor_printable : (d : Descriptor) (rest : List Token) → ArePrintable rest → ArePrintable (descriptor_tokens d rest)
unfolding ArePrintable
descriptor_printable d rest h = (tt, (tt, (tt, list_printable entry_tokens entry_printable d.entries (Token.end_object ∷ rest) (tt, h))))

pub request_printable : (r : RequestParts) (rest : List Token) → ArePrintable rest → ArePrintable (request_tokens r rest)
unfolding ArePrintable
request_printable r rest h =
    (tt, (tt, (tt, (tt, (tt, list_printable descriptor_tokens descriptor_printable r.descriptors (Token.end_object ∷ rest) (tt, h))))))
