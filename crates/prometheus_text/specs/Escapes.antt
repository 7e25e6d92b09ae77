-- The value of a label, as a line of the text format spells it between double quotes.
use Rattle.std.specs.Prelude.{◌≡◌, ◌++◌, ℕ, ◌==◌, ◌||◌, Bool, true, false, List, [], ◌∷◌, Option, Some, None, if◌then◌else◌, option_map, codes}
use Rattle.std.specs.List.{flat_map}

-- a byte of a label: these three behind a backslash, a line feed as `n`, and any other as itself
abbrev pub escaped_byte : ℕ → List ℕ
escaped_byte b = if b == 92 then codes "\\\\" else if b == 34 then codes "\\\"" else if b == 10 then codes "\\n" else b ∷ []

-- A label's value, spelled.
abbrev pub escaped : List ℕ → List ℕ
escaped label = flat_map escaped_byte label

-- a byte more, before what was read
abbrev pub read_byte : ℕ → Option (List ℕ × List ℕ) → Option (List ℕ × List ℕ)
read_byte b read = option_map (λ r. (b ∷ r.0, r.1)) read

-- what is read of a label, behind a backslash or not: none where no quote closes it, at a line feed, and at a backslash before any other byte
abbrev pub read_from : Bool → List ℕ → Option (List ℕ × List ℕ)
read_from behind [] = None
read_from true (b ∷ bs) = if b == 110 then read_byte 10 (read_from false bs)
    else if b == 92 || b == 34 then read_byte b (read_from false bs) else None
read_from false (b ∷ bs) = if b == 34 then Some ([], bs) else if b == 92 then read_from true bs
    else if b == 10 then None else read_byte b (read_from false bs)

-- The label that is read up to the double quote that closes it, and what stands behind.
abbrev pub read_label : List ℕ → Option (List ℕ × List ℕ)
read_label bytes = read_from false bytes

-- A label is read from what it is spelled as, whatever stands behind its quote.
abbrev pub AreReadBack : Type 0
AreReadBack = (label behind : List ℕ) → read_label (escaped label ++ 34 ∷ behind) ≡ Some (label, behind)

-- Inside: a byte that stands in a label otherwise than as itself.
abbrev pub is_special : ℕ → Bool
is_special b = b == 92 || (b == 34 || b == 10)
