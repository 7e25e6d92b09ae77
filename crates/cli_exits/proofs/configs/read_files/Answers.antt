use Rattle.std.proofs.Common.{◌≡◌, ℕ, ◌<◌, ◌≤◌, ◌+◌, ◌++◌, ◌∷◌, [], List, Option, Some, length, subst, map, take, slice_get, option_map, sym, ap, ◌∙◌, append_assoc, arith, rules}
use Rattle.std.proofs.lemmas.List.{take_more, take-map, map-append}
use Rattle.std.proofs.lemmas.Option.{slice_get_read, slice_get-map}
use Rattle.rate_types.specs.declared.limits.TheConstants.{MOST_BYTES}
use Rattle.rate_io.specs.Content.{Told}
use Rattle.rate_io.specs.Events.{FileEvent, given}
use Rattle.cli_exits.specs.Jobs.{AskedFile, asked}
use Rattle.cli_exits.specs.World.{AreFilesOf}
use Rattle.cli_exits.proofs.Told.{told_map, files_push}
use Rattle.cli_exits.proofs.configs.read_files.Goals as goal

-- one more call
one_more : (old mid new calls : List FileEvent) (call : FileEvent) → mid ≡ old ++ calls → new ≡ mid ++ call ∷ [] → new ≡ old ++ (calls ++ call ∷ [])
one_more old mid new calls call so_far is = is ∙ ap (λ l. l ++ call ∷ []) so_far ∙ append_assoc old calls (call ∷ [])

-- the file of a name
asked_at : (names : List (List ℕ)) (i : ℕ) (name : List ℕ) → slice_get names i ≡ Some name
    → slice_get (map (asked MOST_BYTES) names) i ≡ Some (asked MOST_BYTES name)
asked_at names i name is = slice_get-map (asked MOST_BYTES) names i ∙ ap (option_map (asked MOST_BYTES)) is

-- the files before it
earlier_read : (content : List ℕ → Option (List ℕ)) (names : List (List ℕ)) (i : ℕ) (calls : List FileEvent) (files : List (List ℕ))
    → AreFilesOf content (map (asked MOST_BYTES) (take i names)) calls files
    → AreFilesOf content (take i (map (asked MOST_BYTES) names)) calls files
earlier_read content names i calls files read =
    subst (λ (some : List AskedFile). AreFilesOf content some calls files) (sym (take-map (asked MOST_BYTES) i names)) read

pub returns-in-Err-Failed-clause-fault : goal.returns-in-Err-Failed-clause-fault
returns-in-Err-Failed-clause-fault g c =
    let inv = c.names.invariant in
    let event = rw c.in-Err-Failed.field-0-is at c.in-Err-Failed.ensures.event in
    let named : slice_get c.args.names.now c.names.index ≡ Some c.as_str.result.now =
    slice_get_read c.args.names.now (length c.args.names.now) c.names.index c.index-names-index.result (λ i. length c.args.names.now) (omega arith) c.index-names-index.is
    ∙ ap Some (sym c.as_str.ensures) in
    record {
      events = inv.read.events ++ (c.as_str.result.now, event.reads) ∷ [];
      grew = one_more _ _ _ inv.read.events (c.as_str.result.now, event.reads) inv.read.grew event.grew;
      are = (
        record {
          files = c.names.blobs.items;
          earlier = inv.read.events;
          read = earlier_read _ c.args.names.now c.names.index _ _ inv.read.are;
          file = asked MOST_BYTES c.as_str.result.now;
          named = asked_at c.args.names.now c.names.index c.as_str.result.now named;
          reads = event.reads;
          last = λ i. inv.read.events ++ (c.as_str.result.now, event.reads) ∷ [];
          stops = event.are;
        },
        omega (arith, inv.later, c.in-Err-Failed.ensures.failed (search rules)),
      );
    }

pub returns-in-Err-TooLong-clause-fault : goal.returns-in-Err-TooLong-clause-fault
returns-in-Err-TooLong-clause-fault g c =
    let inv = c.names.invariant in
    let event = rw c.in-Err-TooLong.field-0-is at c.in-Err-TooLong.ensures.event in
    let long : Told (g.F.Files.content c.names.files c.as_str.result.now) (λ bytes. MOST_BYTES < length bytes) =
    told_map (g.F.Files.content c.names.files c.as_str.result.now) (λ bytes. c.in-Err-TooLong.field-0-0 ≤ length bytes) (λ bytes. MOST_BYTES < length bytes)
    (λ bytes h. omega (arith, h, event.are.1)) (c.in-Err-TooLong.ensures.longer c.in-Err-TooLong.field-0-0 (search rules)) in
    let named : slice_get c.args.names.now c.names.index ≡ Some c.as_str.result.now =
    slice_get_read c.args.names.now (length c.args.names.now) c.names.index c.index-names-index.result (λ i. length c.args.names.now) (omega arith) c.index-names-index.is
    ∙ ap Some (sym c.as_str.ensures) in
    record {
      events = inv.read.events ++ (c.as_str.result.now, event.reads) ∷ [];
      grew = one_more _ _ _ inv.read.events (c.as_str.result.now, event.reads) inv.read.grew event.grew;
      are = (
        c.names.index,
        record {
          files = c.names.blobs.items;
          earlier = inv.read.events;
          read = earlier_read _ c.args.names.now c.names.index _ _ inv.read.are;
          file = asked MOST_BYTES c.as_str.result.now;
          named = asked_at c.args.names.now c.names.index c.as_str.result.now named;
          reads = event.reads;
          last = λ i. inv.read.events ++ (c.as_str.result.now, event.reads) ∷ [];
          stops = (omega (arith, event.are.0, event.are.1), rw (← inv.same) long);
        },
      );
    }

pub names-preserved : goal.names-preserved
names-preserved g c =
    let inv = c.names.invariant in
    let event = c.in-Ok.ensures.event in
    let taken : take (c.names.index + 1) c.args.names.now ≡ take c.names.index c.args.names.now ++ c.as_str.result.now ∷ [] =
    take_more c.args.names.now c.names.index c.index-names-index.result (omega arith)
    ∙ ap (λ l. take c.names.index c.args.names.now ++ l ∷ []) (sym c.index-names-index.is ∙ sym c.as_str.ensures) in
    let more : map (asked MOST_BYTES) (take (c.names.index + 1) c.args.names.now)
    ≡ map (asked MOST_BYTES) (take c.names.index c.args.names.now) ++ asked MOST_BYTES c.as_str.result.now ∷ [] =
    ap (map (asked MOST_BYTES)) taken ∙ map-append (asked MOST_BYTES) (take c.names.index c.args.names.now) (c.as_str.result.now ∷ []) in
    let pushed : c.push.new.self.items ≡ c.names.blobs.items ++ c.of.result ∷ [] = search rules in
    let given_is : given event.reads ≡ c.of.result = event.are.0 ∙ sym c.of.ensures in
    let told : Told (g.F.Files.content c.args.files.now c.as_str.result.now) (λ bytes. c.of.result ≡ bytes) =
    rw (← inv.same, c.of.ensures) c.in-Ok.ensures.bytes in
    record {
      same = c.read.ensures.same ∙ inv.same;
      later = omega (arith, inv.later, c.read.ensures.later);
      read = record {
        events = inv.read.events ++ (c.as_str.result.now, event.reads) ∷ [];
        grew = one_more _ _ _ inv.read.events (c.as_str.result.now, event.reads) inv.read.grew event.grew;
        are = rw (more, pushed) (files_push (g.F.Files.content c.args.files.now) (map (asked MOST_BYTES) (take c.names.index c.args.names.now)) inv.read.events
            c.names.blobs.items (asked MOST_BYTES c.as_str.result.now) c.of.result event.reads inv.read.are (given_is, event.are.1, rw c.of.ensures event.are.2, told));
      };
    }
