use Rattle.std.proofs.Common.{◌≡◌, ℕ, ◌<◌, ◌≤◌, ◌++◌, ◌∷◌, [], List, Option, length, map, sym, ap, ◌∙◌, subst, append_assoc, arith, rules}
use Rattle.std.proofs.lemmas.List.{length-map}
use Rattle.rate_types.specs.declared.limits.TheConstants.{MOST_BYTES}
use Rattle.rate_io.specs.Content.{Told}
use Rattle.rate_io.specs.Events.{Event, FileEvent, given}
use Rattle.cli_exits.specs.declared.limits.TheConstants.{MOST_RUN_BYTES}
use Rattle.cli_exits.specs.Jobs.{AskedFile, asked}
use Rattle.cli_exits.specs.World.{AreFilesOf, StopsAt, IsLong, IsUnread}
use Rattle.cli_exits.specs.Parts.{IsOfFiles}
use Rattle.cli_audit.proofs.Behind.{fault_among_more, stops_behind}
use Rattle.cli_exits.proofs.Told.{told_map, files_push}
use Rattle.cli_audit.proofs.auditing.read_run_files.Goals as goal

-- one more call, for a file of this name
one_more : (old mid new calls : List FileEvent) (name run : List ℕ) (reads : List Event) → mid ≡ old ++ calls → new ≡ mid ++ (name, reads) ∷ []
    → name ≡ run → new ≡ old ++ (calls ++ (run, reads) ∷ [])
one_more old mid new calls name run reads so_far is same =
    is ∙ ap (λ (l : List FileEvent). l ++ (name, reads) ∷ []) so_far ∙ append_assoc old calls ((name, reads) ∷ [])
    ∙ ap (λ (n : List ℕ). old ++ (calls ++ (n, reads) ∷ [])) same

-- what is told of a content is told of the same content
told_same : (content later : List ℕ → Option (List ℕ)) (name run : List ℕ) (P Q : List ℕ → Type 0) → later ≡ content → name ≡ run
    → ((bytes : List ℕ) → P bytes → Q bytes) → Told (later name) P → Told (content run) Q
told_same content later name run P Q same is map_to told =
    subst (λ (o : Option (List ℕ)). Told o Q) (ap (λ (c : List ℕ → Option (List ℕ)). c name) same ∙ ap content is)
    (told_map (later name) P Q map_to told)

pub returns-in-Err-clause-fault : goal.returns-in-Err-clause-fault
returns-in-Err-clause-fault g c =
    let content = g.F.Files.content c.args.files.now in
    let faults : ℕ × ℕ = (g.F.Files.faults c.args.files.now, g.F.Files.faults c.read_files.new.files) in
    let names : map (asked MOST_BYTES) c.items.result.now ≡ map (asked MOST_BYTES) c.args.job.now.configs = ap (map (asked MOST_BYTES)) c.items.ensures in
    let fault = c.in-Err.ensures.fault in
    record {
      events = fault.events;
      grew = fault.grew;
      are = fault_among_more content (map (asked MOST_BYTES) c.args.job.now.configs) (asked MOST_RUN_BYTES c.args.job.now.run ∷ []) faults fault.events
          c.in-Err.exit (subst (λ (some : List AskedFile). IsOfFiles content some faults c.in-Err.exit fault.events) names fault.are);
    }

pub returns-in-Err-Failed-clause-fault : goal.returns-in-Err-Failed-clause-fault
returns-in-Err-Failed-clause-fault g c =
    let content = g.F.Files.content c.args.files.now in
    let first = c.in-Ok.ensures.contents in
    let event = rw c.in-Err-Failed.field-0-is at c.in-Err-Failed.ensures.event in
    let names : map (asked MOST_BYTES) c.items.result.now ≡ map (asked MOST_BYTES) c.args.job.now.configs = ap (map (asked MOST_BYTES)) c.items.ensures in
    let read : AreFilesOf content (map (asked MOST_BYTES) c.args.job.now.configs) first.events c.in-Ok.configs =
    subst (λ (some : List AskedFile). AreFilesOf content some first.events c.in-Ok.configs) names first.are in
    let all : List FileEvent = first.events ++ (c.args.job.now.run, event.reads) ∷ [] in
    let count : length (map (asked MOST_BYTES) c.args.job.now.configs) ≡ length c.items-in-Err-Failed.result.now =
    length-map c.args.job.now.configs (asked MOST_BYTES) ∙ sym (ap length c.items-in-Err-Failed.ensures) in
    record {
      events = all;
      grew = one_more _ _ _ first.events c.as_str.result.now c.args.job.now.run event.reads first.grew event.grew c.as_str.ensures;
      are = (
        subst (λ (n : ℕ). StopsAt content (map (asked MOST_BYTES) c.args.job.now.configs ++ asked MOST_RUN_BYTES c.args.job.now.run ∷ []) all n IsUnread) count
            (stops_behind content (map (asked MOST_BYTES) c.args.job.now.configs) (asked MOST_RUN_BYTES c.args.job.now.run) first.events all c.in-Ok.configs
            event.reads IsUnread read (λ i. all) event.are),
        omega (arith, c.read_files.ensures.later, c.in-Err-Failed.ensures.failed (search rules)),
      );
    }

pub returns-in-Err-TooLong-clause-fault : goal.returns-in-Err-TooLong-clause-fault
returns-in-Err-TooLong-clause-fault g c =
    let content = g.F.Files.content c.args.files.now in
    let first = c.in-Ok.ensures.contents in
    let event = rw c.in-Err-TooLong.field-0-is at c.in-Err-TooLong.ensures.event in
    let names : map (asked MOST_BYTES) c.items.result.now ≡ map (asked MOST_BYTES) c.args.job.now.configs = ap (map (asked MOST_BYTES)) c.items.ensures in
    let read : AreFilesOf content (map (asked MOST_BYTES) c.args.job.now.configs) first.events c.in-Ok.configs =
    subst (λ (some : List AskedFile). AreFilesOf content some first.events c.in-Ok.configs) names first.are in
    let all : List FileEvent = first.events ++ (c.args.job.now.run, event.reads) ∷ [] in
    let long : Told (content c.args.job.now.run) (λ bytes. MOST_RUN_BYTES < length bytes) =
    told_same content (g.F.Files.content c.read_files.new.files) c.as_str.result.now c.args.job.now.run
    (λ bytes. c.in-Err-TooLong.field-0-0 ≤ length bytes) (λ bytes. MOST_RUN_BYTES < length bytes) c.read_files.ensures.same c.as_str.ensures
    (λ bytes h. omega (arith, h, event.are.1)) (c.in-Err-TooLong.ensures.longer c.in-Err-TooLong.field-0-0 (search rules)) in
    record {
      events = all;
      grew = one_more _ _ _ first.events c.as_str.result.now c.args.job.now.run event.reads first.grew event.grew c.as_str.ensures;
      are = (
        length (map (asked MOST_BYTES) c.args.job.now.configs),
        stops_behind content (map (asked MOST_BYTES) c.args.job.now.configs) (asked MOST_RUN_BYTES c.args.job.now.run) first.events all c.in-Ok.configs
            event.reads (IsLong content) read (λ i. all) (omega (arith, event.are.0, event.are.1), long),
      );
    }

pub returns-clause-contents : goal.returns-clause-contents
returns-clause-contents g c =
    let content = g.F.Files.content c.args.files.now in
    let first = c.in-Ok.ensures.contents in
    let event = c.in-Ok-read.ensures.event in
    let names : map (asked MOST_BYTES) c.items.result.now ≡ map (asked MOST_BYTES) c.args.job.now.configs = ap (map (asked MOST_BYTES)) c.items.ensures in
    let read : AreFilesOf content (map (asked MOST_BYTES) c.args.job.now.configs) first.events c.in-Ok.configs =
    subst (λ (some : List AskedFile). AreFilesOf content some first.events c.in-Ok.configs) names first.are in
    let given_is : given event.reads ≡ c.of.result = event.are.0 ∙ sym c.of.ensures in
    let told : Told (content c.args.job.now.run) (λ bytes. c.of.result ≡ bytes) =
    told_same content (g.F.Files.content c.read_files.new.files) c.as_str.result.now c.args.job.now.run
    (λ bytes. c.in-Ok-read.run'.items ≡ bytes) (λ bytes. c.of.result ≡ bytes) c.read_files.ensures.same c.as_str.ensures
    (λ bytes h. c.of.ensures ∙ h) c.in-Ok-read.ensures.bytes in
    record {
      events = first.events ++ (c.args.job.now.run, event.reads) ∷ [];
      grew = one_more _ _ _ first.events c.as_str.result.now c.args.job.now.run event.reads first.grew event.grew c.as_str.ensures;
      are = files_push content (map (asked MOST_BYTES) c.args.job.now.configs) first.events c.in-Ok.configs (asked MOST_RUN_BYTES c.args.job.now.run)
          c.of.result event.reads read (given_is, event.are.1, rw c.of.ensures event.are.2, told);
    }
