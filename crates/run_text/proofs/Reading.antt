-- A record has one text, and a text one record.
use Rattle.std.proofs.Common.{◌≡◌, ℕ, ◌≤◌, List, true, false, Some, None, refl, sym, ap, ◌∙◌, subst, arith}
use Rattle.std.specs.Str.{IsUtf8, bytes_eq}
use Rattle.std.proofs.lemmas.Slice.Eq.{bytes_eq-Decides}
use Rattle.serde_json.specs.Data.{Data, depth}
use Rattle.serde_json.specs.Read.{read}
use Rattle.reply_text.specs.Shown.{Shown}
use Rattle.reply_text.specs.declared.record.Outcome.{Outcome}
use Rattle.reply_text.specs.declared.record.Outcome.TheVariants.{Checked, Ticked, Installed, Bad, Full, Spent, VersionsFull}
use Rattle.reply_text.specs.Texts.{record_data, record_text_of, outcome_data, checked_line_data, ticked_line_data, installed_line_data, refused_line_data, refused_data}
use Rattle.reply_text.specs.Texts.{full_data, spent_data, versions_full_data}
use Rattle.run_text.specs.Found.{place_in, is_placed, record_in}
use Rattle.run_text.specs.Said.{IsSaid, IsSaidOutcome}
use Rattle.run_text.specs.Reading.{IsRecordText}
use Rattle.run_text.proofs.ReadBack.{reads_back}
use Rattle.run_text.proofs.Records.{record_back}
use Rattle.run_text.proofs.Shapes.{record_plain, record_shallow}
use Rattle.run_text.proofs.Bounds.{record_said}

inside : (a b : Data) → Some a ≡ Some b → a ≡ b
inside a b e = cc

-- the value that a record's text is
value_is : (bytes : List ℕ) (d : Data) (r : Shown) → read bytes ≡ Some d → IsRecordText bytes r → record_data r ≡ d
value_is bytes d r found is =
    let shallow : depth (record_data r) ≤ 127 = omega (arith, record_shallow r is.said) in
    inside _ _ (sym (reads_back (record_data r) (record_plain r is.said) shallow) ∙ ap read (sym is.text) ∙ found)

-- the record found in the value is the one
same_found : (bytes : List ℕ) (d : Data) (r : Shown) → read bytes ≡ Some d → IsRecordText bytes r → record_in d ≡ r
same_found bytes d r found is = ap record_in (sym (value_is bytes d r found is)) ∙ record_back r is.said

place_back : (line moment version worker : ℕ) (o : Outcome) → IsSaidOutcome o → is_placed (place_in (outcome_data line moment version worker o)) ≡ true
unfolding checked_line_data ticked_line_data installed_line_data refused_line_data refused_data full_data spent_data versions_full_data
place_back line moment version worker (Checked answer) h = refl
place_back line moment version worker (Ticked ticked) h = refl
place_back line moment version worker Installed h = refl
place_back line moment version worker (Bad refused) h = h.0
place_back line moment version worker (Full live held wanted) h = refl
place_back line moment version worker (Spent claims wanted) h = refl
place_back line moment version worker (VersionsFull versions) h = refl

-- it has a place
pub placed_there : (bytes : List ℕ) (d : Data) → read bytes ≡ Some d → is_placed (place_in d) ≡ false → (r : Shown) → ¬ (IsRecordText bytes r)
unfolding record_data
placed_there bytes d found other r is =
    let there = place_back r.line r.moment r.version r.worker r.outcome is.said.outcome in
    let here : is_placed (place_in d) ≡ true = ap (λ e. is_placed (place_in e)) (sym (value_is bytes d r found is)) ∙ there in
    true_false (sym here ∙ other)
  where
    true_false : true ≡ false → ⊥
    true_false e = cc

same_bytes : (xs ys : List ℕ) → bytes_eq xs ys ≡ true → xs ≡ ys
same_bytes xs ys e = (bytes_eq-Decides xs ys).0 e

other_bytes : (xs ys : List ℕ) → bytes_eq xs ys ≡ false → xs ≡ ys → ⊥
other_bytes xs ys e same = let yes = (bytes_eq-Decides xs ys).1 same in cc

-- the record that was found has the text
pub record_found : (bytes : List ℕ) (d : Data) (s : Shown) → IsUtf8 bytes → is_placed (place_in d) ≡ true → s ≡ record_in d
    → bytes_eq (record_text_of s) bytes ≡ true → IsRecordText bytes s
record_found bytes d s utf8 placed is same = record {
  said = subst IsSaid (sym is) (record_said d placed);
  utf8 = utf8;
  text = sym (same_bytes (record_text_of s) bytes same);
}

-- no other record has it
pub record_missing : (bytes : List ℕ) (d : Data) (s : Shown) → read bytes ≡ Some d → s ≡ record_in d
    → bytes_eq (record_text_of s) bytes ≡ false → (r : Shown) → ¬ (IsRecordText bytes r)
record_missing bytes d s found is other r has =
    other_bytes (record_text_of s) bytes other (ap record_text_of (is ∙ same_found bytes d r found has) ∙ sym has.text)

-- bytes that are no JSON are the text of no record
pub no_record : (bytes : List ℕ) → (IsUtf8 bytes → read bytes ≡ None) → (r : Shown) → ¬ (IsRecordText bytes r)
no_record bytes none r is =
    let shallow : depth (record_data r) ≤ 127 = omega (arith, record_shallow r is.said) in
    let some = ap read is.text ∙ reads_back (record_data r) (record_plain r is.said) shallow in
    let nothing = none is.utf8 in cc

-- a text is that of one record
pub only_record : (bytes : List ℕ) (d : Data) (s : Shown) → read bytes ≡ Some d → s ≡ record_in d → (r : Shown) → IsRecordText bytes r → r ≡ s
only_record bytes d s found is r has = sym (same_found bytes d r found has) ∙ sym is
