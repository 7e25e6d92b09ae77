-- The first clause that a run breaks.
use mathlib.Core.Path.{fun_ext}
use Rattle.std.proofs.Common.{◌≡◌, ℕ, zero, suc, ◌+◌, ◌<◌, refl, sym, ap, ◌∙◌, subst, arith, inl, inr, List, Bool, false}
use Rattle.std.proofs.lemmas.Bool.{cases_eq}
use Rattle.std.specs.Bool.{Decides}
use Rattle.descriptor_tree.specs.Trees.{DomainTree}
use Rattle.reply_text.specs.declared.record.Record.{Record}
use Rattle.script_run.specs.ScriptLine.{ScriptLine}
use Rattle.run_audit.specs.Causes.{RefusalsCaused}
use Rattle.run_audit.specs.Ruled.{RuledByRule}
use Rattle.run_audit.specs.Verdict.{PrintedRun, Holds, IsFirstBroken, IsLawful, number_of}
use Rattle.run_audit.specs.declared.verdict.Clause.{Clause}
use Rattle.run_audit.specs.declared.verdict.Clause.TheVariants.{
  OneRecordPerLine,
  VersionsNumbered,
  RepliesByRule,
  VersionsNeverFall,
  MomentsNeverFall,
  ChargesFormLedger,
  SightsLawful,
  RefusalsHaveCauses,
  TotalsOfCharges,
}
use Rattle.run_audit.proofs.Tests.{false_true}

-- ---- clauses by their numbers

abbrev of_number : ℕ → Clause
of_number zero = TotalsOfCharges
of_number (suc zero) = OneRecordPerLine
of_number (suc (suc zero)) = VersionsNumbered
of_number (suc (suc (suc zero))) = RepliesByRule
of_number (suc (suc (suc (suc zero)))) = VersionsNeverFall
of_number (suc (suc (suc (suc (suc zero))))) = MomentsNeverFall
of_number (suc (suc (suc (suc (suc (suc zero)))))) = ChargesFormLedger
of_number (suc (suc (suc (suc (suc (suc (suc zero))))))) = SightsLawful
of_number (suc (suc (suc (suc (suc (suc (suc (suc zero)))))))) = RefusalsHaveCauses
of_number (suc (suc (suc (suc (suc (suc (suc (suc (suc n))))))))) = TotalsOfCharges

of_its_number : (c : Clause) → of_number (number_of c) ≡ c
of_its_number OneRecordPerLine = refl
of_its_number VersionsNumbered = refl
of_its_number RepliesByRule = refl
of_its_number VersionsNeverFall = refl
of_its_number MomentsNeverFall = refl
of_its_number ChargesFormLedger = refl
of_its_number SightsLawful = refl
of_its_number RefusalsHaveCauses = refl
of_its_number TotalsOfCharges = refl

same_clause : (c d : Clause) → number_of c ≡ number_of d → c ≡ d
same_clause c d e = sym (of_its_number c) ∙ ap of_number e ∙ of_its_number d

none_below : (c : Clause) → number_of c < 1 → ⊥
none_below OneRecordPerLine h = omega arith
none_below VersionsNumbered h = omega arith
none_below RepliesByRule h = omega arith
none_below VersionsNeverFall h = omega arith
none_below MomentsNeverFall h = omega arith
none_below ChargesFormLedger h = omega arith
none_below SightsLawful h = omega arith
none_below RefusalsHaveCauses h = omega arith
none_below TotalsOfCharges h = omega arith

none_between : (c : Clause) → number_of c < 14 → number_of c < 9
none_between OneRecordPerLine h = omega arith
none_between VersionsNumbered h = omega arith
none_between RepliesByRule h = omega arith
none_between VersionsNeverFall h = omega arith
none_between MomentsNeverFall h = omega arith
none_between ChargesFormLedger h = omega arith
none_between SightsLawful h = omega arith
none_between RefusalsHaveCauses h = omega arith
none_between TotalsOfCharges h = absurd (omega arith)

all_below : (c : Clause) → number_of c < 15
all_below OneRecordPerLine = omega arith
all_below VersionsNumbered = omega arith
all_below RepliesByRule = omega arith
all_below VersionsNeverFall = omega arith
all_below MomentsNeverFall = omega arith
all_below ChargesFormLedger = omega arith
all_below SightsLawful = omega arith
all_below RefusalsHaveCauses = omega arith
all_below TotalsOfCharges = omega arith

-- ---- clause after clause

module _ (run : PrintedRun) where
  abbrev H : Clause → Type 0
  H c = Holds c run

  -- the clauses below a number hold
  abbrev Below : ℕ → Type 0
  Below n = (c : Clause) → number_of c < n → H c

  more : (d : Clause) (n : ℕ) → number_of d ≡ n → Below n → H d → Below (n + 1)
  more d n is below here c h = elim (cases_eq (number_of c) n) [
    | inl e ↦ subst (λ k. Holds k run) (sym (same_clause c d (e ∙ sym is))) here
    | inr other ↦ below c (omega arith)
  ]

  below_1 : Below 1
  below_1 c h = absurd (none_below c h)

  below_2 : H OneRecordPerLine → Below 2
  below_2 h1 = more OneRecordPerLine 1 refl below_1 h1

  below_3 : H OneRecordPerLine → H VersionsNumbered → Below 3
  below_3 h1 h2 = more VersionsNumbered 2 refl (below_2 h1) h2

  below_4 : H OneRecordPerLine → H VersionsNumbered → H RepliesByRule → Below 4
  below_4 h1 h2 h3 = more RepliesByRule 3 refl (below_3 h1 h2) h3

  below_5 : H OneRecordPerLine → H VersionsNumbered → H RepliesByRule → H VersionsNeverFall → Below 5
  below_5 h1 h2 h3 h4 = more VersionsNeverFall 4 refl (below_4 h1 h2 h3) h4

  below_6 : H OneRecordPerLine → H VersionsNumbered → H RepliesByRule → H VersionsNeverFall → H MomentsNeverFall → Below 6
  below_6 h1 h2 h3 h4 h5 = more MomentsNeverFall 5 refl (below_5 h1 h2 h3 h4) h5

  -- the first six hold
  pub record First : Type 0 where
    pub one : H OneRecordPerLine
    pub two : H VersionsNumbered
    pub three : H RepliesByRule
    pub four : H VersionsNeverFall
    pub five : H MomentsNeverFall
    pub six : H ChargesFormLedger

  below_7 : First → Below 7
  below_7 f = more ChargesFormLedger 6 refl (below_6 f.one f.two f.three f.four f.five) f.six

  below_8 : First → H SightsLawful → Below 8
  below_8 f h7 = more SightsLawful 7 refl (below_7 f) h7

  below_14 : First → H SightsLawful → H RefusalsHaveCauses → Below 14
  below_14 f h7 h8 c h = more RefusalsHaveCauses 8 refl (below_8 f h7) h8 c (none_between c h)

  pub lawful : First → H SightsLawful → H RefusalsHaveCauses → H TotalsOfCharges → IsLawful run
  lawful f h7 h8 h14 c = more TotalsOfCharges 14 refl (below_14 f h7 h8) h14 c (all_below c)

  pub first_1 : ¬ (H OneRecordPerLine) → IsFirstBroken OneRecordPerLine run
  first_1 breaks = record { broken = breaks; before = below_1 }

  pub first_2 : H OneRecordPerLine → ¬ (H VersionsNumbered) → IsFirstBroken VersionsNumbered run
  first_2 h1 breaks = record { broken = breaks; before = below_2 h1 }

  pub first_3 : H OneRecordPerLine → H VersionsNumbered → ¬ (H RepliesByRule) → IsFirstBroken RepliesByRule run
  first_3 h1 h2 breaks = record { broken = breaks; before = below_3 h1 h2 }

  pub first_4 : H OneRecordPerLine → H VersionsNumbered → H RepliesByRule → ¬ (H VersionsNeverFall) → IsFirstBroken VersionsNeverFall run
  first_4 h1 h2 h3 breaks = record { broken = breaks; before = below_4 h1 h2 h3 }

  pub first_5 : H OneRecordPerLine → H VersionsNumbered → H RepliesByRule → H VersionsNeverFall → ¬ (H MomentsNeverFall)
      → IsFirstBroken MomentsNeverFall run
  first_5 h1 h2 h3 h4 breaks = record { broken = breaks; before = below_5 h1 h2 h3 h4 }

  pub first_6 : H OneRecordPerLine → H VersionsNumbered → H RepliesByRule → H VersionsNeverFall → H MomentsNeverFall → ¬ (H ChargesFormLedger)
      → IsFirstBroken ChargesFormLedger run
  first_6 h1 h2 h3 h4 h5 breaks = record { broken = breaks; before = below_6 h1 h2 h3 h4 h5 }

  pub first_7 : First → ¬ (H SightsLawful) → IsFirstBroken SightsLawful run
  first_7 f breaks = record { broken = breaks; before = below_7 f }

  pub first_8 : First → H SightsLawful → ¬ (H RefusalsHaveCauses) → IsFirstBroken RefusalsHaveCauses run
  first_8 f h7 breaks = record { broken = breaks; before = below_8 f h7 }

  pub first_14 : First → H SightsLawful → H RefusalsHaveCauses → ¬ (H TotalsOfCharges) → IsFirstBroken TotalsOfCharges run
  first_14 f h7 h8 breaks = record { broken = breaks; before = below_14 f h7 h8 }

-- ---- tests of clauses

pub fails : {P : Type 0} (b : Bool) → Decides b P → b ≡ false → ¬ P
fails b d e h = false_true (sym e ∙ d.1 h)

-- clauses over the configurations that the code has
pub ruled_in : (f g : ℕ → List DomainTree) (global_shadow : Bool) (lines : List ScriptLine) (records : List Record) (b : Bool)
    → ((v : ℕ) → f v ≡ g v) → Decides b (RuledByRule f global_shadow lines records) → Decides b (RuledByRule g global_shadow lines records)
ruled_in f g global_shadow lines records b same d =
    subst (λ (h : ℕ → List DomainTree). Decides b (RuledByRule h global_shadow lines records)) (fun_ext same) d

pub caused_in : (f g : ℕ → List DomainTree) (workers cells : ℕ) (lines : List ScriptLine) (records : List Record) (b : Bool)
    → ((v : ℕ) → f v ≡ g v) → Decides b (RefusalsCaused f workers cells lines records) → Decides b (RefusalsCaused g workers cells lines records)
caused_in f g workers cells lines records b same d =
    subst (λ (h : ℕ → List DomainTree). Decides b (RefusalsCaused h workers cells lines records)) (fun_ext same) d
