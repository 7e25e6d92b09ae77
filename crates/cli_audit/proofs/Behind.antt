-- Files behind other files, and the line of a verdict as the output.
use Rattle.std.proofs.Common.{◌≡◌, ℕ, zero, suc, ◌<◌, List, [], ◌∷◌, ◌++◌, length, take, Option, Some, slice_get, refl, sym, subst, arith}
use Rattle.std.proofs.Math.Seq.{take-append_seam}
use Rattle.std.proofs.lemmas.List.{take-append-le}
use Rattle.std.proofs.lemmas.Option.{none-some, slice_get_within}
use Rattle.rate_io.specs.Events.{Event, FileEvent}
use Rattle.cli_exits.specs.Jobs.{AskedFile}
use Rattle.cli_exits.specs.World.{AreFilesOf, StopsAt}
use Rattle.cli_exits.specs.Parts.{IsOfFiles, IsOfOutput, Sinks}
use Rattle.cli_exits.specs.declared.exit.Exit.{Exit}
use Rattle.cli_exits.specs.declared.exit.Exit.TheVariants.{Done, Usage, ConfigRefused, TooLong, ReadFault, WriteFault, FileFault}
use Rattle.cli_exits.specs.declared.exit.Exit.TheVariants.{OutOfMemory, ListenFault, SettingsRefused}

-- what stands at a place stands there with more behind it
among_more : {X : Type 0} (xs ys : List X) (i : ℕ) (x : X) → slice_get xs i ≡ Some x → slice_get (xs ++ ys) i ≡ Some x
among_more [] ys i x is = absurd (none-some x is)
among_more (z ∷ xs) ys zero x is = is
among_more (z ∷ xs) ys (suc i) x is = among_more xs ys i x is

-- what stands behind all others
pub behind_all : {X : Type 0} (xs : List X) (x : X) → slice_get (xs ++ x ∷ []) (length xs) ≡ Some x
behind_all [] x = refl
behind_all (z ∷ xs) x = behind_all xs x

-- calls that stop among the first files stop there with more files behind these
stops_among_more : (content : List ℕ → Option (List ℕ)) (first more : List AskedFile) (calls : List FileEvent) (index : ℕ)
    (P : AskedFile → List Event → Type 0) → StopsAt content first calls index P → StopsAt content (first ++ more) calls index P
stops_among_more content first more calls index P s =
    let within : index < length first = slice_get_within first index s.file s.named in
    let taken : take index (first ++ more) ≡ take index first = take-append-le index first more (omega (arith, within)) in
    record {
      files = s.files;
      earlier = s.earlier;
      read = subst (λ (some : List AskedFile). AreFilesOf content some s.earlier s.files) (sym taken) s.read;
      file = s.file;
      named = among_more first more index s.file s.named;
      reads = s.reads;
      last = s.last;
      stops = s.stops;
    }

-- why the first files weren't read, where more stand behind them
pub fault_among_more : (content : List ℕ → Option (List ℕ)) (first more : List AskedFile) (faults : ℕ × ℕ) (calls : List FileEvent)
    → (e : Exit) → IsOfFiles content first faults e calls → IsOfFiles content (first ++ more) faults e calls
fault_among_more content first more faults calls TooLong h = (h.0, stops_among_more content first more calls h.0 _ h.1)
fault_among_more content first more faults calls (FileFault index) h = (stops_among_more content first more calls index _ h.0, h.1)
fault_among_more content first more faults calls OutOfMemory h = h
fault_among_more content first more faults calls Done h = absurd h
fault_among_more content first more faults calls Usage h = absurd h
fault_among_more content first more faults calls (ConfigRefused at) h = absurd h
fault_among_more content first more faults calls ReadFault h = absurd h
fault_among_more content first more faults calls WriteFault h = absurd h
fault_among_more content first more faults calls ListenFault h = absurd h
fault_among_more content first more faults calls (SettingsRefused refused) h = absurd h

-- the first files were read, and the calls stop at the one behind them
pub stops_behind : (content : List ℕ → Option (List ℕ)) (first : List AskedFile) (file : AskedFile) (calls all : List FileEvent)
    (files : List (List ℕ)) (reads : List Event) (P : AskedFile → List Event → Type 0) → AreFilesOf content first calls files
    → all ≡ calls ++ (file.name, reads) ∷ [] → P file reads → StopsAt content (first ++ file ∷ []) all (length first) P
stops_behind content first file calls all files reads P read last stops = record {
  files = files;
  earlier = calls;
  read = subst (λ (some : List AskedFile). AreFilesOf content some calls files) (sym (take-append_seam first (file ∷ []))) read;
  file = file;
  named = behind_all first file;
  reads = reads;
  last = last;
  stops = stops;
}

-- how writing ended, where pieces of which this holds are pieces of which that holds
module _ (This That : List (List ℕ) → Type 0) (means : (pieces : List (List ℕ)) → This pieces → That pieces) (s : Sinks) (writes : List Event) where
  pub output_means : (e : Exit) → IsOfOutput This s e writes → IsOfOutput That s e writes
  output_means Done h = record { pieces = h.pieces; are = means h.pieces h.are; each = h.each; bytes = h.bytes }
  output_means WriteFault h = (record { pieces = h.0.pieces; are = means h.0.pieces h.0.are; each = h.0.each; bytes = h.0.bytes }, h.1)
  output_means OutOfMemory h = h
  output_means Usage h = absurd h
  output_means (ConfigRefused at) h = absurd h
  output_means TooLong h = absurd h
  output_means ReadFault h = absurd h
  output_means ListenFault h = absurd h
  output_means (SettingsRefused refused) h = absurd h
  output_means (FileFault index) h = absurd h
