-- The compact text of a plain value reads back as that value.
use Rattle.std.proofs.Common.{◌≡◌, suc, ◌≤◌, List, [], max, Option, Some, option_map, option_and_then, refl, sym, ap, ap₂, ◌∙◌, append-nil}
use Rattle.json.specs.Token.{Token}
use Rattle.json.specs.Json as json
use Rattle.json.specs.Tree as tree
use Rattle.json.specs.Lex.{tokens}
use Rattle.json.proofs.Printed.Tokens.{tokens-print}
use Rattle.json.proofs.Printed.Trees.{value-json_tokens, ArePrintable-json_tokens}
use Rattle.json.proofs.Printed.Decimals.{IsNumber-decimal}
use Rattle.serde_json.specs.Data.{Num, unsigned, negative, float, Data, null, boolean, number, string, array, object, Items, no_items, item, Members, no_members}
use Rattle.serde_json.specs.Data.{member, put, depth, items_depth, members_depth}
use Rattle.serde_json.specs.Read.{read, max_depth, of_json, of_items, of_members}
use Rattle.serde_json.specs.Written.{outline, items_outline, members_outline, compact_text}
use Rattle.serde_json.proofs.Numbers.{number_of-decimal}
use Rattle.serde_json.proofs.Texts.{print-outline}
use Rattle.run_text.specs.Plain.{rebuilt, IsWhole, IsPlain, ItemsArePlain, MembersArePlain}

number_back : (n : Num) → IsWhole n → of_json (outline (number n)) ≡ Some (number n)
number_back (unsigned n) h = ap (option_map number) (number_of-decimal n h)
number_back (negative z) h = absurd h
number_back (float x) h = absurd h

mutual
  value_back : (d : Data) → IsPlain d → of_json (outline d) ≡ Some d
  value_back null h = refl
  value_back (boolean b) h = refl
  value_back (number n) h = number_back n h
  value_back (string s) h = refl
  value_back (array ds) h = ap (option_map array) (items_back ds h)
  value_back (object ms) h = ap (option_map object) (members_back ms no_members h.0) ∙ ap (λ m. Some (object m)) h.1

  items_back : (ds : Items) → ItemsArePlain ds → of_items (items_outline ds) ≡ Some ds
  items_back no_items h = refl
  items_back (item d ds) h =
      ap (option_and_then (λ e. option_map (item e) (of_items (items_outline ds)))) (value_back d h.0)
      ∙ ap (option_map (item d)) (items_back ds h.1)

  members_back : (ms found : Members) → MembersArePlain ms → of_members (members_outline ms) found ≡ Some (rebuilt ms found)
  members_back no_members found h = refl
  members_back (member k d ms) found h =
      ap (option_and_then (λ e. of_members (members_outline ms) (put k e found))) (value_back d h.0) ∙ members_back ms (put k d found) h.1

has_number : (n : Num) → IsWhole n → tree.HasNumbers (outline (number n))
has_number (unsigned n) h = IsNumber-decimal n h
has_number (negative z) h = absurd h
has_number (float x) h = absurd h

mutual
  has_numbers : (d : Data) → IsPlain d → tree.HasNumbers (outline d)
  has_numbers null h = tt
  has_numbers (boolean b) h = tt
  has_numbers (number n) h = has_number n h
  has_numbers (string s) h = tt
  has_numbers (array ds) h = items_have ds h
  has_numbers (object ms) h = members_have ms h.0

  items_have : (ds : Items) → ItemsArePlain ds → tree.ItemsHaveNumbers (items_outline ds)
  items_have no_items h = tt
  items_have (item d ds) h = (has_numbers d h.0, items_have ds h.1)

  members_have : (ms : Members) → MembersArePlain ms → tree.MembersHaveNumbers (members_outline ms)
  members_have no_members h = tt
  members_have (member k d ms) h = (has_numbers d h.0, members_have ms h.1)

mutual
  same_depth : (d : Data) → tree.depth (outline d) ≡ depth d
  same_depth null = refl
  same_depth (boolean b) = refl
  same_depth (number n) = refl
  same_depth (string s) = refl
  same_depth (array ds) = ap suc (items_same ds)
  same_depth (object ms) = ap suc (members_same ms)

  items_same : (ds : Items) → tree.items_depth (items_outline ds) ≡ items_depth ds
  items_same no_items = refl
  items_same (item d ds) = ap₂ max (same_depth d) (items_same ds)

  members_same : (ms : Members) → tree.members_depth (members_outline ms) ≡ members_depth ms
  members_same no_members = refl
  members_same (member k d ms) = ap₂ max (same_depth d) (members_same ms)

-- the value of what the grammar read, where nothing follows it
abbrev whole : Option (json.Json × List Token) → Option Data
whole o = option_and_then of_json (option_and_then (λ p. json.if_last p.0 p.1) o)

-- the tokens of the text are those of the value
tokens_back : (d : Data) → IsPlain d → tokens (compact_text d) ≡ tree.json_tokens (outline d)
tokens_back d plain = ap tokens (sym (print-outline d)) ∙ tokens-print (tree.json_tokens (outline d))
    (ArePrintable-json_tokens (outline d) (has_numbers d plain))

-- the round trip of plain values
pub reads_back : (d : Data) → IsPlain d → depth d ≤ max_depth → read (compact_text d) ≡ Some d
reads_back d plain shallow =
    let within : tree.depth (outline d) ≤ max_depth = rw (same_depth d) shallow in
    ap whole (ap (json.value max_depth) (tokens_back d plain ∙ sym (append-nil _)) ∙ value-json_tokens (outline d) max_depth [] within)
    ∙ value_back d plain
