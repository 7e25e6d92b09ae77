-- Facts about told contents, and the bytes of several files.
use Rattle.std.proofs.Common.{◌≡◌, ℕ, suc, List, [], ◌∷◌, ◌++◌, length, Option, Some, None, refl, ap}
use Rattle.rate_io.specs.Content.{Told}
use Rattle.rate_io.specs.Events.{Event, FileEvent}
use Rattle.cli_exits.specs.Jobs.{AskedFile}
use Rattle.cli_exits.specs.World.{AreFilesOf, IsFileOf}

pub told_map : (o : Option (List ℕ)) (P Q : List ℕ → Type 0) → ((bytes : List ℕ) → P bytes → Q bytes) → Told o P → Told o Q
told_map None P Q f h = tt
told_map (Some bytes) P Q f h = f bytes h

-- one more file was read
pub files_push : (content : List ℕ → Option (List ℕ)) (asked : List AskedFile) (calls : List FileEvent) (files : List (List ℕ))
    (file : AskedFile) (bytes : List ℕ) (reads : List Event)
    → AreFilesOf content asked calls files → IsFileOf file.most (content file.name) reads bytes
    → AreFilesOf content (asked ++ file ∷ []) (calls ++ (file.name, reads) ∷ []) (files ++ bytes ∷ [])
files_push content [] [] [] file bytes reads h is = (refl, is, tt)
files_push content [] [] (b ∷ files) file bytes reads h is = absurd h
files_push content [] (c ∷ calls) files file bytes reads h is = absurd h
files_push content (a ∷ asked) [] files file bytes reads h is = absurd h
files_push content (a ∷ asked) (c ∷ calls) [] file bytes reads h is = absurd h
files_push content (a ∷ asked) (c ∷ calls) (b ∷ files) file bytes reads h is =
    (h.0, h.1, files_push content asked calls files file bytes reads h.2 is)

-- as many files were read as were asked for
pub files_count : (content : List ℕ → Option (List ℕ)) (asked : List AskedFile) (calls : List FileEvent) (files : List (List ℕ))
    → AreFilesOf content asked calls files → length files ≡ length asked
files_count content [] [] [] h = refl
files_count content [] [] (b ∷ files) h = absurd h
files_count content [] (c ∷ calls) files h = absurd h
files_count content (a ∷ asked) [] files h = absurd h
files_count content (a ∷ asked) (c ∷ calls) [] h = absurd h
files_count content (a ∷ asked) (c ∷ calls) (b ∷ files) h = ap suc (files_count content asked calls files h.2)
