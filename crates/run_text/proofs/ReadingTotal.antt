-- A total has one text, and a text one total.
use Rattle.std.proofs.Common.{◌≡◌, ℕ, ◌^◌, ◌<◌, ◌≤◌, List, [], ◌∷◌, length, map, Bool, true, false, nat_lt, cond, Some, None, refl, sym, ap, ap₂, ◌∙◌, subst, arith}
use Rattle.std.proofs.Common.{le-ltb, ltb-false}
use Rattle.std.proofs.lemmas.Slice.Eq.{bytes_eq-Decides}
use Rattle.std.specs.Prelude.{codes}
use Rattle.std.specs.List.{AllByRecursion}
use Rattle.std.specs.Str.{IsUtf8, bytes_eq}
use Rattle.serde_json.specs.Data.{Data, depth, items_depth}
use Rattle.serde_json.specs.Read.{read}
use Rattle.serde_json.specs.Find.{get}
use Rattle.serde_json.specs.View.{items_of}
use Rattle.rate_types.specs.declared.limits.TheConstants.{LONGEST_TEXT, LATEST_MOMENT}
use Rattle.rate_types.specs.declared.entries.Entry.{Entry}
use Rattle.rate_types.specs.declared.unit.Unit.{Unit}
use Rattle.rate_types.specs.declared.counter_key.CounterKey.{CounterKey}
use Rattle.rls_core.specs.declared.totals.Total.{Total}
use Rattle.reply_text.specs.Texts.{entry_data, counter_data, total_data, total_text_of}
use Rattle.run_text.specs.Members.{at, text_of, items_in}
use Rattle.run_text.specs.FoundTotal.{if_short, entry_in, counter_in, total_in, HasEntries}
use Rattle.run_text.specs.Plain.{IsPlain, ItemsArePlain}
use Rattle.run_text.specs.Said.{IsSaidEntry, IsSaidTotal}
use Rattle.run_text.specs.Reading.{IsTotalText}
use Rattle.run_text.proofs.ReadBack.{reads_back}
use Rattle.run_text.proofs.Numbers.{whole_back, moment_back}
use Rattle.run_text.proofs.Lists.{listed_back}
use Rattle.run_text.proofs.StatusesBack.{unit_back}
use Rattle.run_text.proofs.Bounds.{whole_bound, moment_bound}

short_back : (s : List ℕ) → length s ≤ LONGEST_TEXT → if_short s ≡ s
short_back s h = ap (λ b. cond b [] s) (le-ltb LONGEST_TEXT (length s) h)

short_bound : (s : List ℕ) → length (if_short s) ≤ LONGEST_TEXT
short_bound s = by (nat_lt LONGEST_TEXT (length s)) refl
  where
    by : (b : Bool) → nat_lt LONGEST_TEXT (length s) ≡ b → length (cond b [] s) ≤ LONGEST_TEXT
    by true e = omega arith
    by false e = ltb-false LONGEST_TEXT (length s) e

same_entry : (a b c d : List ℕ) → a ≡ b → c ≡ d
    → (let x : Entry = record { key = a; value = c } in x) ≡ (let x : Entry = record { key = b; value = d } in x)
same_entry a b c d e f = ap₂ (λ (k v : List ℕ). let x : Entry = record { key = k; value = v } in x) e f

entry_back : (e : Entry) → IsSaidEntry e → entry_in (entry_data e) ≡ e
unfolding entry_in entry_data
entry_back e h = same_entry _ e.key _ e.value (short_back e.key h.0) (short_back e.value h.1)

entries_back : (es : List Entry) → AllByRecursion IsSaidEntry es → map entry_in (map entry_data es) ≡ es
entries_back [] h = refl
entries_back (e ∷ es) h = ap₂ (λ (x : Entry) (xs : List Entry). x ∷ xs) (entry_back e h.0) (entries_back es h.1)

same_counter : (a b : List ℕ) (c d : List Entry) (e f : Unit) (g h : ℕ) → a ≡ b → c ≡ d → e ≡ f → g ≡ h
    → (let x : CounterKey = record { name = record { domain = a; entries = c; unit = e }; start = g } in x)
    ≡ (let x : CounterKey = record { name = record { domain = b; entries = d; unit = f }; start = h } in x)
same_counter a b c d e f g h i j k l = rw (i, j, k, l) refl

counter_back : (k : CounterKey) → length k.name.domain ≤ LONGEST_TEXT → AllByRecursion IsSaidEntry k.name.entries → k.start ≤ LATEST_MOMENT
    → counter_in (Some (counter_data k)) ≡ k
unfolding counter_in counter_data
counter_back k domain texts start =
    same_counter _ k.name.domain _ k.name.entries _ k.name.unit _ k.start (short_back k.name.domain domain)
    (ap (map entry_in) (listed_back (map entry_data k.name.entries)) ∙ entries_back k.name.entries texts)
    (unit_back k.name.unit) (moment_back k.start start)

same_total : (a b : CounterKey) (c d : ℕ) → a ≡ b → c ≡ d
    → (let x : Total = record { key = a; charged = c } in x) ≡ (let x : Total = record { key = b; charged = d } in x)
same_total a b c d e f = ap₂ (λ (k : CounterKey) (n : ℕ). let x : Total = record { key = k; charged = n } in x) e f

total_back : (t : Total) → IsSaidTotal t → total_in (total_data t) ≡ t
unfolding total_in total_data
total_back t h = same_total _ t.key _ t.charged (counter_back t.key h.domain h.texts h.start) (whole_back t.charged h.charged)

-- ---- the value of a total is plain and shallow

entries_plain : (es : List Entry) → ItemsArePlain (items_of (map entry_data es)) × (items_depth (items_of (map entry_data es)) ≤ 1)
unfolding entry_data
entries_plain [] = (tt, omega arith)
entries_plain (e ∷ es) = let rest = entries_plain es in ((((tt, (tt, tt)), refl), rest.0), omega (arith, rest.1))

w40 : (n : ℕ) → n ≤ LATEST_MOMENT → n < 2 ^ 64
w40 n h = omega arith

pub total_plain : (t : Total) → IsSaidTotal t → IsPlain (total_data t) × (depth (total_data t) ≤ 127)
unfolding total_data counter_data
total_plain t h =
    let es = entries_plain t.key.name.entries in
    (((h.charged, (((tt, (es.0, (w40 t.key.start h.start, (tt, tt)))), refl), tt)), refl), omega (arith, es.1))

-- ---- what is found in a value

inside : (a b : Data) → Some a ≡ Some b → a ≡ b
inside a b e = cc

same_found : (bytes : List ℕ) (d : Data) (t : Total) → read bytes ≡ Some d → IsTotalText bytes t → total_in d ≡ t
same_found bytes d t found is =
    let plain = total_plain t is.said in
    let same = inside _ _ (sym (reads_back (total_data t) plain.0 plain.1) ∙ ap read (sym is.text) ∙ found) in
    ap total_in (sym same) ∙ total_back t is.said

entries_said : (ds : List Data) → AllByRecursion IsSaidEntry (map entry_in ds)
unfolding entry_in
entries_said [] = tt
entries_said (d ∷ ds) = ((short_bound (text_of (get (codes "key") d)), short_bound (text_of (get (codes "value") d))), entries_said ds)

total_said : (d : Data) → HasEntries (total_in d) → IsSaidTotal (total_in d)
unfolding total_in counter_in
total_said d entries = record {
  domain = short_bound (text_of (at (codes "domain") (get (codes "counter") d)));
  entries = entries;
  texts = entries_said (items_in (at (codes "entries") (get (codes "counter") d)));
  start = moment_bound (at (codes "start") (get (codes "counter") d));
  charged = whole_bound (get (codes "charged") d);
}

same_bytes : (xs ys : List ℕ) → bytes_eq xs ys ≡ true → xs ≡ ys
same_bytes xs ys e = (bytes_eq-Decides xs ys).0 e

other_bytes : (xs ys : List ℕ) → bytes_eq xs ys ≡ false → xs ≡ ys → ⊥
other_bytes xs ys e same = let yes = (bytes_eq-Decides xs ys).1 same in cc

-- the total that was found has the text
pub total_found : (bytes : List ℕ) (d : Data) (t : Total) → IsUtf8 bytes → t ≡ total_in d → HasEntries t
    → bytes_eq (total_text_of t) bytes ≡ true → IsTotalText bytes t
total_found bytes d t utf8 is entries same = record {
  said = subst IsSaidTotal (sym is) (total_said d (subst HasEntries is entries));
  utf8 = utf8;
  text = sym (same_bytes (total_text_of t) bytes same);
}

-- no other total has it
pub total_missing : (bytes : List ℕ) (d : Data) (t : Total) → read bytes ≡ Some d → t ≡ total_in d
    → bytes_eq (total_text_of t) bytes ≡ false → (u : Total) → ¬ (IsTotalText bytes u)
total_missing bytes d t found is other u has =
    other_bytes (total_text_of t) bytes other (ap total_text_of (is ∙ same_found bytes d u found has) ∙ sym has.text)

-- a total has entries
pub total_entries : (bytes : List ℕ) (d : Data) → read bytes ≡ Some d → ¬ (HasEntries (total_in d)) → (u : Total) → ¬ (IsTotalText bytes u)
total_entries bytes d found wrong u has = wrong (subst HasEntries (sym (same_found bytes d u found has)) has.said.entries)

-- bytes that are no JSON are the text of no total
pub no_total : (bytes : List ℕ) → (IsUtf8 bytes → read bytes ≡ None) → (t : Total) → ¬ (IsTotalText bytes t)
no_total bytes none t is =
    let plain = total_plain t is.said in
    let some = ap read is.text ∙ reads_back (total_data t) plain.0 plain.1 in
    let nothing = none is.utf8 in cc

pub ruleset totals_read = (total_found, total_missing, total_entries)

-- a text is that of one total
pub only_total : (bytes : List ℕ) (d : Data) (t : Total) → read bytes ≡ Some d → t ≡ total_in d → (u : Total) → IsTotalText bytes u → u ≡ t
only_total bytes d t found is u has = sym (same_found bytes d u found has) ∙ sym is
