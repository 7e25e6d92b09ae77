-- Which record and which total a text is.
use Rattle.std.specs.Prelude.{◌≡◌, ℕ, List}
use Rattle.std.specs.Str.{IsUtf8}
use Rattle.rls_core.specs.declared.totals.Total.{Total}
use Rattle.reply_text.specs.Shown.{Shown}
use Rattle.reply_text.specs.Texts.{record_text_of, total_text_of}
use Rattle.run_text.specs.Said.{IsSaid, IsSaidTotal}

-- A text is that of a record.
pub record IsRecordText (bytes : List ℕ) (r : Shown) : Type 0 where
  pub said : IsSaid r
  pub utf8 : IsUtf8 bytes
  pub text : bytes ≡ record_text_of r

-- A text is that of a total.
pub record IsTotalText (bytes : List ℕ) (t : Total) : Type 0 where
  pub said : IsSaidTotal t
  pub utf8 : IsUtf8 bytes
  pub text : bytes ≡ total_text_of t
