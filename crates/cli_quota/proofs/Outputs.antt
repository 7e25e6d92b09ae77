-- The lines of texts are those of the outputs.
use Rattle.std.proofs.Common.{◌≡◌, ℕ, ◌+◌, List, [], ◌∷◌, ◌++◌, Some, Result, Ok, Err, IfOk, IfErr, OnOk, All, refl, sym, ap, subst, ◌∙◌}
use Rattle.std.specs.List.{flat_map}
use Rattle.quota_settings.specs.Covering.{AllSettings}
use Rattle.quota_stream.specs.Output.{AreLines, quota_output, with_feeds}
use Rattle.quota_stream.specs.Tasks.{IsShort, texts_from, output_text}
use Rattle.cli_exits.specs.declared.exit.Exit.{Exit}
use Rattle.cli_quota.specs.Parts.{IsOfStreams, IsOfReplay, Replays}
use Rattle.cli_quota.specs.Quota.{settings_of, each_output, in_order}
use Rattle.cli_quota.proofs.Faults.{streams_fault}

lines_behind : (xs ys : List (List ℕ)) → AreLines xs → AreLines ys → AreLines (xs ++ ys)
lines_behind [] ys first then = then
lines_behind (x ∷ xs) ys first then = (first.0, lines_behind xs ys first.1 then)

module _ (settings : AllSettings) (lines : (index : ℕ) (bytes : List ℕ) → AreLines (quota_output settings index bytes))
    (cut : (index : ℕ) (bytes : List ℕ) → with_feeds (output_text settings index bytes) ≡ quota_output settings index bytes) where
  outputs_cut : (index : ℕ) (streams : List (List ℕ)) → flat_map with_feeds (texts_from settings index streams) ≡ in_order (each_output settings index streams)
  outputs_cut index [] = refl
  outputs_cut index (bytes ∷ more) = rw (cut index bytes, outputs_cut (index + 1) more) refl

  outputs_lines : (index : ℕ) (streams : List (List ℕ)) → AreLines (in_order (each_output settings index streams))
  outputs_lines index [] = tt
  outputs_lines index (bytes ∷ more) =
      lines_behind (quota_output settings index bytes) (in_order (each_output settings (index + 1) more)) (lines index bytes) (outputs_lines (index + 1) more)

  -- the texts of a replay
  pub texts_of_all : (file : List ℕ) (streams : List (List ℕ)) (r : Result (List (List ℕ)) Exit) → settings_of file ≡ Ok (Some settings)
      → IfOk r (λ v. v ≡ texts_from settings 0 streams) → OnOk r (All IsShort streams) → IfOk r (λ v. Replays file streams (flat_map with_feeds v))
  texts_of_all file streams (Ok v) spells texts short = record {
    settings = settings;
    spells = spells;
    short = short;
    replayed = ap (flat_map with_feeds) texts ∙ outputs_cut 0 streams;
  }
  texts_of_all file streams (Err e) spells texts short = tt

  pub lines_of_all : (streams : List (List ℕ)) (r : Result (List (List ℕ)) Exit) → IfOk r (λ v. v ≡ texts_from settings 0 streams)
      → IfOk r (λ v. AreLines (flat_map with_feeds v))
  lines_of_all streams (Ok v) texts = subst AreLines (sym (ap (flat_map with_feeds) texts ∙ outputs_cut 0 streams)) (outputs_lines 0 streams)
  lines_of_all streams (Err e) texts = tt

pub fault_of_all : (file : List ℕ) (streams : List (List ℕ)) (settings : AllSettings) (r : Result (List (List ℕ)) Exit) → settings_of file ≡ Ok (Some settings)
    → IfErr r (IsOfStreams streams) → IfErr r (IsOfReplay file streams)
fault_of_all file streams settings (Ok v) spells fault = tt
fault_of_all file streams settings (Err e) spells fault = streams_fault file streams settings spells e fault
