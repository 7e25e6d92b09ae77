-- The configurations of versions, line after line from the last.
use Rattle.std.proofs.Common.{◌≡◌, ℕ, suc, ◌+◌, ◌-◌, ◌≤◌, ◌<◌, ◌==◌, List, [], ◌∷◌, length, drop, get_or, set, map, Bool, true, false, cond, refl, sym, ap, ap₂, ◌∙◌}
use Rattle.std.proofs.Common.{arith, add-one, drop-cons, inl, inr}
use Rattle.std.specs.List.{AllByRecursion}
use Rattle.std.proofs.Common.{eq-eqb}
use Rattle.std.specs.Prelude.{◌⊎◌}
use Rattle.std.proofs.lemmas.Bool.{cases_lt, eqb-true, ne_eqb}
use Rattle.std.proofs.lemmas.List.{length-map, drop_all, get_or_past, get_or-set_same, get_or-set_other}
use Rattle.std.proofs.Math.ListN.{get_or-map, length-set}
use Rattle.descriptor_tree.specs.Trees.{DomainTree}
use Rattle.reply_text.specs.declared.record.Record.{Record}
use Rattle.reply_text.specs.declared.record.Outcome.{Outcome}
use Rattle.reply_text.specs.declared.record.Outcome.TheVariants.{Checked, Ticked, Installed, Bad, Full, Spent, VersionsFull}
use Rattle.script_run.specs.ScriptLine.{ScriptLine, check, reload, tick, bad}
use Rattle.script_run.specs.Versions.{installed_or, version_in}
use Rattle.script_run.specs.Views.{line_view}
use Rattle.script_run.specs.declared.line.Line.{Line}
use Rattle.run_audit.specs.VersionAt.{installed_by, put_at}
use Rattle.run_audit.proofs.Tests.{false_true}

-- what is put at the place of its version
same_length : (version : ℕ) (l : ScriptLine) (o : Outcome) (xs : List (List DomainTree)) → length (put_at version (installed_by l o) xs) ≡ length xs
same_length version (check request) o xs = refl
same_length version (tick now) o xs = refl
same_length version (bad refused) o xs = refl
same_length version (reload config) (Checked answer) xs = refl
same_length version (reload config) (Ticked moment) xs = refl
same_length version (reload config) Installed xs = length-set xs version config
same_length version (reload config) (Bad refused) xs = refl
same_length version (reload config) (Full live held wanted) xs = refl
same_length version (reload config) (Spent claims wanted) xs = refl
same_length version (reload config) (VersionsFull versions) xs = refl

put_installed : (n version : ℕ) (config : List DomainTree) (xs : List (List DomainTree)) (first : List DomainTree) → n < length xs
    → get_or (set xs version config) n first ≡ cond (version == n) config (get_or xs n first)
put_installed n version config xs first within = by (version == n) refl
  where
    by : (b : Bool) → (version == n) ≡ b → get_or (set xs version config) n first ≡ cond (version == n) config (get_or xs n first)
    by true e =
        let same : version ≡ n = eqb-true version n e in
        ap (λ v. get_or (set xs v config) n first) same ∙ get_or-set_same xs n config first within ∙ ap (λ b. cond b config (get_or xs n first)) (sym e)
    by false e =
        get_or-set_other xs version n config first (λ s. false_true (sym e ∙ eq-eqb version n (sym s)))
        ∙ ap (λ b. cond b config (get_or xs n first)) (sym e)

-- what stands at a place after that
pub put_line : (n version : ℕ) (l : ScriptLine) (o : Outcome) (xs : List (List DomainTree)) (first : List DomainTree) → n < length xs
    → get_or (put_at version (installed_by l o) xs) n first ≡ installed_or n l version o (get_or xs n first)
put_line n version (check request) o xs first within = refl
put_line n version (tick now) o xs first within = refl
put_line n version (bad refused) o xs first within = refl
put_line n version (reload config) (Checked answer) xs first within = refl
put_line n version (reload config) (Ticked moment) xs first within = refl
put_line n version (reload config) Installed xs first within = put_installed n version config xs first within
put_line n version (reload config) (Bad refused) xs first within = refl
put_line n version (reload config) (Full live held wanted) xs first within = refl
put_line n version (reload config) (Spent claims wanted) xs first within = refl
put_line n version (reload config) (VersionsFull versions) xs first within = refl

-- the versions of a line and of those after it
pub one_more_version : (first : List DomainTree) (n i : ℕ) (lines : List Line) (rs : List Record) (x : Line) (r : Record) → i < length lines
    → i < length rs → x ≡ get_or lines i x → r ≡ get_or rs i r
    → version_in first (drop i (map line_view lines)) (drop i rs) n
    ≡ installed_or n (line_view x) r.version r.outcome (version_in first (drop (i + 1) (map line_view lines)) (drop (i + 1) rs) n)
one_more_version first n i lines rs x r within_l within_r is_x is_r =
    let within : i < length (map line_view lines) = omega (arith, length-map lines line_view, within_l) in
    let at : get_or (map line_view lines) i (line_view x) ≡ line_view x = get_or-map line_view lines i x ∙ ap line_view (sym is_x) in
    rw add-one (ap₂ (λ ls ss. version_in first ls ss n) (drop-cons (map line_view lines) i (line_view x) within) (drop-cons rs i r within_r)
    ∙ ap₂ (λ (l : ScriptLine) (s : Record). installed_or n l s.version s.outcome (version_in first (drop (suc i) (map line_view lines)) (drop (suc i) rs) n))
    at (sym is_r))

pub no_version : (first : List DomainTree) (n i : ℕ) (ls : List ScriptLine) (rs : List Record) → length rs ≤ i
    → version_in first (drop i ls) (drop i rs) n ≡ first
no_version first n i ls rs over = ap (λ (ss : List Record). version_in first (drop i ls) ss n) (drop_all i rs over) ∙ without (drop i ls)
  where
    without : (ms : List ScriptLine) → version_in first ms [] n ≡ first
    without [] = refl
    without (m ∷ ms) = refl

other_version : (n version : ℕ) (l : ScriptLine) (o : Outcome) (other : List DomainTree) → (version == n) ≡ false → installed_or n l version o other ≡ other
other_version n version (check request) o other ne = refl
other_version n version (tick now) o other ne = refl
other_version n version (bad refused) o other ne = refl
other_version n version (reload config) (Checked answer) other ne = refl
other_version n version (reload config) (Ticked moment) other ne = refl
other_version n version (reload config) Installed other ne = ap (λ b. cond b config other) ne
other_version n version (reload config) (Bad refused) other ne = refl
other_version n version (reload config) (Full live held wanted) other ne = refl
other_version n version (reload config) (Spent claims wanted) other ne = refl
other_version n version (reload config) (VersionsFull versions) other ne = refl

-- no line has a version above all that are there
pub none_above : (first : List DomainTree) (ls : List ScriptLine) (rs : List Record) (m n : ℕ) → AllByRecursion (λ r. r.version ≤ m) rs → m < n
    → version_in first ls rs n ≡ first
none_above first [] rs m n known above = refl
none_above first (l ∷ ls) [] m n known above = refl
none_above first (l ∷ ls) (r ∷ rs) m n known above =
    let low = known.0 in
    other_version n r.version l r.outcome (version_in first ls rs n) (ne_eqb r.version n (λ e. absurd (omega (arith, e, low, above))))
    ∙ none_above first ls rs m n known.1 above

-- what stands at the places after the line at i, the lines from i + 1 on being done
pub placed : (first : List DomainTree) (number k i version : ℕ) (lines : List Line) (rs : List Record) (x : Line) (r : Record)
    (old new : List (List DomainTree)) → k < length rs → length rs ≡ length lines → i ≡ length rs - 1 - k → x ≡ get_or lines i x → r ≡ get_or rs i r
    → version ≡ r.version → new ≡ put_at version (installed_by (line_view x) r.outcome) old → length old ≡ number
    → ((n : ℕ) → n < number → get_or old n first
    ≡ version_in first (drop (length rs - k) (map line_view lines)) (drop (length rs - k) rs) n)
    → (length new ≡ number) × ((n : ℕ) → n < number → get_or new n first
    ≡ version_in first (drop (length rs - (k + 1)) (map line_view lines)) (drop (length rs - (k + 1)) rs) n)
placed first number k i version lines rs x r old new more same is_i is_x is_r is_v is_new long each =
    let next : i + 1 ≡ length rs - k = omega arith in
    let here : i ≡ length rs - (k + 1) = omega arith in (
      ap length is_new ∙ same_length version (line_view x) r.outcome old ∙ long,
      λ n h.
          ap (λ l. get_or l n first) is_new ∙ put_line n version (line_view x) r.outcome old first (omega (arith, h, long))
          ∙ ap₂ (λ v other. installed_or n (line_view x) v r.outcome other) is_v
          (each n h ∙ ap (λ j. version_in first (drop j (map line_view lines)) (drop j rs) n) (sym next))
          ∙ sym (one_more_version first n i lines rs x r (omega arith) (omega arith) is_x is_r)
          ∙ ap (λ j. version_in first (drop j (map line_view lines)) (drop j rs) n) here,
    )

-- the configurations of all versions
pub made : (first one : List DomainTree) (ls : List ScriptLine) (rs : List Record) (m : ℕ) (numbered : List (List DomainTree)) → one ≡ first
    → AllByRecursion (λ r. r.version ≤ m) rs → length numbered ≡ m + 1
    → ((n : ℕ) → n < m + 1 → get_or numbered n first ≡ version_in first ls rs n) → (v : ℕ) → get_or numbered v one ≡ version_in first ls rs v
made first one ls rs m numbered is known long each v = ap (get_or numbered v) is ∙ by (cases_lt m v)
  where
    by : (m < v) ⊎ (v ≤ m) → get_or numbered v first ≡ version_in first ls rs v
    by (inl above) = get_or_past numbered v first (omega (arith, above, long)) ∙ sym (none_above first ls rs m v known above)
    by (inr low) = each v (omega (arith, low))
