-- How a label is spelled character by character, and that it reads back.
use Rattle.std.proofs.Common.{◌≡◌, ◌≢◌, ◌<◌, ◌==◌, ◌||◌, ℕ, suc, Bool, true, false, List, [], ◌∷◌, ◌++◌, length, drop, get_or, codes, Option, Some, None, refl, sym, ap, ◌∙◌, subst, arith, append_assoc, append-nil}
use Rattle.std.specs.List.{list_any}
use Rattle.std.specs.Char.{encode_utf8}
use Rattle.std.proofs.lemmas.List.{nil_from_length}
use Rattle.std.proofs.lemmas.List.Concat.{flat_map-append}
use Rattle.std.proofs.lemmas.Bool.{or_parts, eqb-true, ne_eqb}
use Rattle.std.proofs.lemmas.Str.{encode_ascii, inside_one}
use Rattle.prometheus_text.specs.declared.labels.Labels.{Labels}
use Rattle.prometheus_text.specs.Text.{labels_part, AreToldApart}
use Rattle.prometheus_text.specs.Escapes.{is_special, escaped_byte, escaped, read_byte, read_from, read_label, AreReadBack}

plain_byte : (b : ℕ) → is_special b ≡ false → escaped_byte b ≡ b ∷ []
plain_byte b none =
    let one = or_parts (b == 92) (b == 34 || b == 10) none in
    let two = or_parts (b == 34) (b == 10) one.1 in
    rw (one.0, two.0, two.1) refl

-- a text without a special byte is spelled as it is
pub plain_text : (bs : List ℕ) → list_any is_special bs ≡ false → escaped bs ≡ bs
plain_text [] none = refl
plain_text (b ∷ bs) none =
    let each = or_parts (is_special b) (list_any is_special bs) none in
    ap (λ l. l ++ escaped bs) (plain_byte b each.0) ∙ ap (λ l. b ∷ l) (plain_text bs each.1)

ordinary : (b : ℕ) → b ≢ 92 → b ≢ 34 → b ≢ 10 → is_special b ≡ false
ordinary b one two three = rw (ne_eqb b 92 one, ne_eqb b 34 two, ne_eqb b 10 three) refl

none_special : (bs : List ℕ) → ((k : ℕ) → k < length bs → is_special (get_or bs k 0) ≡ false) → list_any is_special bs ≡ false
none_special [] each = refl
none_special (b ∷ bs) each = rw (each 0 (omega arith)) (none_special bs (λ k within. each (suc k) (omega arith)))

-- a character that isn't special has no special byte
pub plain_char : (c : ℕ) → c ≢ 92 → c ≢ 34 → c ≢ 10 → escaped (encode_utf8 c) ≡ encode_utf8 c
plain_char c one two three = plain_text (encode_utf8 c) (none_special (encode_utf8 c) (λ k within.
    ordinary (get_or (encode_utf8 c) k 0) (other k within 92 one (omega arith)) (other k within 34 two (omega arith)) (other k within 10 three (omega arith))))
  where
    other : (k : ℕ) → k < length (encode_utf8 c) → (b : ℕ) → c ≢ b → b < 128 → get_or (encode_utf8 c) k 0 ≢ b
    other k within b differs small = λ is.
        differs (inside_one c [] (encode_utf8 c) k (sym (append-nil (encode_utf8 c))) within (omega arith) ∙ is)

-- a special character is its own only byte
pub special_char : (c b : ℕ) → c ≡ b → b < 128 → escaped (encode_utf8 c) ≡ escaped_byte b
special_char c b is small = ap (λ x. escaped (encode_utf8 x)) is ∙ ap escaped (encode_ascii b small) ∙ append-nil (escaped_byte b)

byte_read : (b : ℕ) (more : List ℕ) (t u v : Bool) → (b == 92) ≡ t → (b == 34) ≡ u → (b == 10) ≡ v
    → read_from false (escaped_byte b ++ more) ≡ read_byte b (read_from false more)
byte_read b more true u v t_is u_is v_is =
    subst (λ (x : ℕ). read_from false (escaped_byte x ++ more) ≡ read_byte x (read_from false more)) (sym (eqb-true b 92 t_is)) refl
byte_read b more false true v t_is u_is v_is =
    subst (λ (x : ℕ). read_from false (escaped_byte x ++ more) ≡ read_byte x (read_from false more)) (sym (eqb-true b 34 u_is)) refl
byte_read b more false false true t_is u_is v_is =
    subst (λ (x : ℕ). read_from false (escaped_byte x ++ more) ≡ read_byte x (read_from false more)) (sym (eqb-true b 10 v_is)) refl
byte_read b more false false false t_is u_is v_is = simp (t_is, u_is, v_is)

-- a label reads back up to the quote behind it
pub read_back : AreReadBack
read_back [] rest = refl
read_back (b ∷ label) rest =
    ap (read_from false) (append_assoc (escaped_byte b) (escaped label) (34 ∷ rest))
    ∙ byte_read b (escaped label ++ 34 ∷ rest) (b == 92) (b == 34) (b == 10) refl refl refl
    ∙ ap (read_byte b) (read_back label rest)

-- one character more of a label is spelled
pub char_more : (out out_after one rest before whole : List ℕ) → out_after ≡ out ++ escaped one → before ≡ one ++ rest → out ++ escaped before ≡ whole
    → out_after ++ escaped rest ≡ whole
char_more out out_after one rest before whole grew is so_far =
    ap (λ (l : List ℕ). l ++ escaped rest) grew ∙ append_assoc out (escaped one) (escaped rest)
    ∙ ap (λ (l : List ℕ). out ++ l) (sym (flat_map-append escaped_byte one rest)) ∙ ap (λ (l : List ℕ). out ++ escaped l) (sym is) ∙ so_far

-- and none is left
pub chars_done : (out rest whole : List ℕ) → length rest ≡ 0 → out ++ escaped rest ≡ whole → out ≡ whole
chars_done out rest whole none so_far =
    sym (append-nil out) ∙ ap (λ (l : List ℕ). out ++ escaped l) (sym (nil_from_length rest none)) ∙ so_far

-- ---- labels are told apart

-- two texts that are spelled before a quote are the same, and so is what stands behind
one_read : (x y p q : List ℕ) → escaped x ++ 34 ∷ p ≡ escaped y ++ 34 ∷ q → (x ≡ y) × (p ≡ q)
one_read x y p q same =
    let both : Some (x, p) ≡ Some (y, q) = sym (read_back x p) ∙ ap read_label same ∙ read_back y q in
    (ap (λ (o : Option (List ℕ × List ℕ)). (or_none o).0) both, ap (λ (o : Option (List ℕ × List ℕ)). (or_none o).1) both)
  where
    or_none : Option (List ℕ × List ℕ) → List ℕ × List ℕ
    or_none None = ([], [])
    or_none (Some r) = r

-- the part of a line, with what stands behind it, as the two texts before their quotes
part_is : (l : Labels) (x : List ℕ)
    → labels_part l ++ x ≡ codes "{domain=\"" ++ (escaped l.domain ++ 34 ∷ (codes ",path=\"" ++ (escaped l.path ++ 34 ∷ (codes "}" ++ x))))
part_is l x = simp append_assoc

pub told_apart : AreToldApart
told_apart one other x y same =
    let first = one_read one.domain other.domain _ _ (ap (drop 9) (sym (part_is one x) ∙ same ∙ part_is other y)) in
    let second = one_read one.path other.path _ _ (ap (drop 7) first.1) in
    ap (λ (d : List ℕ). record { domain = d; path = one.path }) first.0 ∙ ap (λ (p : List ℕ). record { domain = other.domain; path = p }) second.0
