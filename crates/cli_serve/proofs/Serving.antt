-- From what the parts of `serve` answer to what its exit says.
use Rattle.std.proofs.Common.{◌≡◌, ℕ, zero, suc, ◌+◌, ◌≤◌, ◌||◌, List, [], ◌∷◌, ◌++◌, length, take, replicate, Bool, true, false, Option, inl, inr}
use Rattle.std.proofs.Common.{refl, sym, ap, ◌∙◌, subst, arith, append_assoc}
use Rattle.std.specs.Prelude.{cond}
use Rattle.std.specs.List.{concat}
use Rattle.std.proofs.lemmas.List.{append-nil}
use Rattle.std.proofs.lemmas.List.Elements.{filter_map-append}
use Rattle.std.proofs.lemmas.List.Sums.{sum_by-append}
use Rattle.std.proofs.lemmas.List.Folds.{list_any-append}
use Rattle.rate_io.specs.Causes.{Rose}
use Rattle.rate_io.specs.Content.{Appends}
use Rattle.rate_io.specs.Events.{Event, Grew, since}
use Rattle.rate_io.specs.Listeners.{ListenEvent, IsPortFor, bound, accepted, accept_failed, is_accepted, accepted_count, number_back}
use Rattle.descriptor_tree.specs.Trees.{DomainTree}
use Rattle.http_endpoint.specs.declared.link_end.LinkEnd.{LinkEnd}
use Rattle.http_endpoint.specs.ServeLines.{link_end_line}
use Rattle.http_serve.specs.Service.{Service}
use Rattle.http_serve.specs.Links.{IsUnused, accepts, given_back, ends_of}
use Rattle.http_limiter.specs.Limited.{ServedByLimiter}
use Rattle.limiter_tasks.specs.Limited.{TasksServedByLimiter}
use Rattle.cli_exits.specs.Output.{AppendsFront, with_line_feed}
use Rattle.cli_exits.specs.World.{World, all_written, WroteUpTo}
use Rattle.cli_serve.specs.Served.{Listening, HasTasks, ServedFor, is_listen_failed, has_listen_failed, port_line, end_lines, port_line_written, HasBegun, ExplainsServe, PortWritten}
use Rattle.cli_serve.specs.Serving.{Found, world_of, IsOfPort, EndsServing, HasServing}
use Rattle.cli_serve.specs.declared.lines.PortLine.TheVariants.{Written, Unwritten}
use Rattle.cli_exits.specs.Parts.{Sinks, Wrote, IsOfOutput}
use Rattle.command_words.specs.declared.command.ServeBy.{ServeBy}
use Rattle.command_words.specs.declared.command.ServeBy.TheVariants.{Workers, Tasks}
use Rattle.command_words.specs.declared.command.ServeJob.{ServeJob}
use Rattle.cli_exits.specs.declared.exit.Exit.{Exit}
use Rattle.cli_exits.specs.declared.exit.Exit.TheVariants.{Done, Usage, ConfigRefused, TooLong, ReadFault, WriteFault, FileFault}
use Rattle.cli_exits.specs.declared.exit.Exit.TheVariants.{OutOfMemory, ListenFault, SettingsRefused}
use Rattle.cli_exits.proofs.Histories.{since_is}
use Rattle.cli_exits.proofs.Writing.{appends_more}

-- one line more
pub end_lines_push : (n : ℕ) (es : List LinkEnd) (e : LinkEnd) (k : ℕ) → k ≡ n + length es → end_lines n (es ++ e ∷ []) ≡ end_lines n es ++ with_line_feed (link_end_line k e) ∷ []
end_lines_push n [] e k is = let same : n ≡ k = omega arith in ap (λ (j : ℕ). end_lines j (e ∷ [])) same
end_lines_push n (x ∷ xs) e k is = ap (λ (l : List (List ℕ)). with_line_feed (link_end_line n x) ∷ l) (end_lines_push (n + 1) xs e k (omega arith))

-- a listener that was bound and has accepted nothing
pub unused_bound : (old : List ListenEvent) (asked port : ℕ) → IsUnused old → IsUnused (old ++ bound asked port ∷ [])
unused_bound old asked port h = record {
  none_accepted =
      let a : accepted_count (old ++ bound asked port ∷ []) ≡ accepted_count old + accepted_count (bound asked port ∷ [])
      = sum_by-append (λ (x : ListenEvent). cond (is_accepted x) 1 0) old (bound asked port ∷ []) in
      let b = h.none_accepted in
      omega arith;
  none_back = filter_map-append number_back old (bound asked port ∷ []) ∙ ap (λ (l : List ℕ). l ++ []) h.none_back;
}

-- what a listener has beyond an earlier state
pub record From (by : ServeBy) (config : List DomainTree) (job : ServeJob) (old new : List ListenEvent) (services : List Service) (is_all : Bool)
    : Type 0 where
  pub more : List ListenEvent
  pub grew : new ≡ old ++ more
  pub served : ServedFor by config job more services is_all

pub served_from : (workers : ℕ) (config : List DomainTree) (job : ServeJob) (old new : List ListenEvent) (services : List Service) (is_all : Bool)
    → ServedByLimiter config (record { workers = workers; cells = job.cells; global_shadow = job.global_shadow; stats = job.stats }) old new services is_all
    → From (Workers workers) config job old new services is_all
served_from workers config job old new services is_all h = record {
  more = accepts (length services) is_all ++ given_back services;
  grew = h.served.handled;
  served = record {
    limiter = h.limiter;
    before = h.before;
    made = h.made;
    stats = h.stats;
    kept = h.kept;
    after = h.after;
    served = record { numbered = h.served.numbered; asked = h.served.asked; served = h.served.served; handled = refl };
    closed = h.closed;
    counted = h.counted;
  };
}

pub tasks_from : (tasks : ℕ) (config : List DomainTree) (job : ServeJob) (old new : List ListenEvent) (services : List Service) (is_all : Bool)
    → TasksServedByLimiter config (record { cells = job.cells; global_shadow = job.global_shadow; stats = job.stats }) old new services is_all
    → From (Tasks tasks) config job old new services is_all
tasks_from tasks config job old new services is_all h = record {
  more = accepts (length services) is_all ++ given_back services;
  grew = h.served.handled;
  served = record {
    limiter = h.limiter;
    before = h.before;
    made = h.made;
    stats = h.stats;
    kept = h.kept;
    after = h.after;
    served = record { numbered = h.served.numbered; served = h.served.served; handled = refl };
    closed = h.closed;
    counted = h.counted;
  };
}

-- the calls of the listener that serves
handled_by : (by : ServeBy) (config : List DomainTree) (job : ServeJob) (more : List ListenEvent) (services : List Service) (is_all : Bool)
    → ServedFor by config job more services is_all → more ≡ accepts (length services) is_all ++ given_back services
handled_by (Workers workers) config job more services is_all h = h.served.handled
handled_by (Tasks tasks) config job more services is_all h = h.served.handled

-- the job says by what is served
pub served_so : (by : ServeBy) (config : List DomainTree) (job : ServeJob) (more : List ListenEvent) (services : List Service) (is_all : Bool)
    → job.by ≡ by → ServedFor by config job more services is_all → ServedFor job.by config job more services is_all
served_so by config job more services is_all is h = subst (λ (b : ServeBy). ServedFor b config job more services is_all) (sym is) h

pub has_tasks : (job : ServeJob) (tasks : ℕ) → job.by ≡ Tasks tasks → HasTasks job.by
has_tasks job tasks is = subst HasTasks (sym is) tt

-- serving ended as the output of the links' ends did, where all links were served
pub ended_so : (config : List DomainTree) (job : ServeJob) (faults : ℕ × ℕ) (s : Sinks) (more : List ListenEvent) (writes : List Event)
    (services : List Service) (exit : Exit) → length services ≡ job.connections → ServedFor job.by config job more services true
    → IsOfOutput (λ pieces. pieces ≡ end_lines 0 (ends_of services)) s exit writes → EndsServing config job faults s more writes exit
ended_so config job faults s more writes services Done many served h = (services, many, served, h)
ended_so config job faults s more writes services WriteFault many served h = (services, many, served, h.0, h.1)
ended_so config job faults s more writes services OutOfMemory many served h = h
ended_so config job faults s more writes services ListenFault many served h = absurd h
ended_so config job faults s more writes services Usage many served h = h
ended_so config job faults s more writes services (ConfigRefused at) many served h = h
ended_so config job faults s more writes services TooLong many served h = h
ended_so config job faults s more writes services ReadFault many served h = h
ended_so config job faults s more writes services (FileFault index) many served h = h
ended_so config job faults s more writes services (SettingsRefused refused) many served h = h

or_right : (b : Bool) → (b || true) ≡ true
or_right true = refl
or_right false = refl

any_front : (xs ys : List ListenEvent) → has_listen_failed xs ≡ true → has_listen_failed (xs ++ ys) ≡ true
any_front xs ys h = list_any-append is_listen_failed xs ys ∙ ap (λ (b : Bool). b || has_listen_failed ys) h

any_last : (xs : List ListenEvent) → has_listen_failed (xs ++ accept_failed ∷ []) ≡ true
any_last xs = list_any-append is_listen_failed xs (accept_failed ∷ []) ∙ or_right (has_listen_failed xs)

accept_fails : (asked port : ℕ) (more : List ListenEvent) (n : ℕ) (services : List Service) → more ≡ accepts n false ++ given_back services
    → has_listen_failed (bound asked port ∷ more) ≡ true
accept_fails asked port more n services is = ap has_listen_failed is ∙ any_front (accepts n false) (given_back services) (any_last (replicate n accepted))

-- two writings, one after the other
wrote_both : (first : List ℕ) (pieces : List (List ℕ)) (a b c : Option (List ℕ)) → Appends a b first → Appends b c (concat pieces)
    → Appends a c (concat (first ∷ pieces))
wrote_both first pieces a b c p q = appends_more a b c first (concat pieces) p q

front_both : (first : List ℕ) (pieces : List (List ℕ)) (a b c : Option (List ℕ)) → Appends a b first → AppendsFront b c (concat pieces)
    → AppendsFront a c (concat (first ∷ pieces))
front_both first pieces a b c p q = (
  first ++ q.0,
  q.1,
  ap (λ (l : List ℕ). first ++ l) q.2 ∙ sym (append_assoc first q.0 q.1),
  appends_more a b c first q.0 p q.3,
)

pub length_front : {A : Type 0} (k : ℕ) (xs : List A) → k ≤ length xs → length (take k xs) ≡ k
length_front zero xs h = refl
length_front (suc k) [] h = absurd (omega arith)
length_front (suc k) (x ∷ xs) h = ap suc (length_front k xs (omega arith))

port_written : (f : Found) (s : Sinks) (writes : List Event) (port : ℕ) → Wrote (λ pieces. pieces ≡ port_line port ∷ []) s writes → PortWritten (world_of f s writes) port
port_written f s writes port h = record {
  each = h.each ∙ ap all_written h.are;
  bytes = subst (λ (ps : List (List ℕ)). Appends s.written s.after (concat ps)) h.are h.bytes;
}

module _ (f : Found) (job : ServeJob) (config : List DomainTree) (l : Listening) (port : ℕ) (a b c : Option (List ℕ)) (first_faults faults : ℕ × ℕ) (first writes : List Event)
    (more : List ListenEvent) (heard : ℕ × ℕ) (events : l.listens ≡ bound job.port port ∷ more) (port_is : IsPortFor job.port port)
    (h : Wrote (λ pieces. pieces ≡ port_line port ∷ []) (record { written = a; after = b; faults = first_faults }) first)
    (begun : HasBegun (world_of f (record { written = a; after = c; faults = (first_faults.0, faults.1) }) (first ++ writes)) job config)
    (later : first_faults.0 ≤ faults.0) (heard_first : l.faults.0 ≤ heard.0) (heard_last : l.faults.1 ≡ heard.1) where
  abbrev W : World
  W = world_of f (record { written = a; after = c; faults = (first_faults.0, faults.1) }) (first ++ writes)

  firsts : first ≡ port_line_written port
  firsts = h.each ∙ ap all_written h.are

  first_bytes : Appends a b (port_line port)
  first_bytes = subst (λ (bs : List ℕ). Appends a b bs) (append-nil (port_line port)) (subst (λ (ps : List (List ℕ)). Appends a b (concat ps)) h.are h.bytes)

  alone : writes ≡ [] → c ≡ b → PortWritten W port
  alone none same = record {
    each = ap (λ (ws : List Event). first ++ ws) none ∙ append-nil first ∙ firsts;
    bytes = subst (λ (x : Option (List ℕ)). Appends a x (concat (port_line port ∷ []))) (sym same) (subst (λ (ps : List (List ℕ)). Appends a b (concat ps)) h.are h.bytes);
  }

  rises : Rose faults.0 faults.1 → Rose first_faults.0 faults.1
  rises r = omega arith

  heard_rises : Rose heard.0 heard.1 → Rose l.faults.0 l.faults.1
  heard_rises r = omega arith

  serve_exit : (e : Exit) → EndsServing config job heard (record { written = b; after = c; faults = faults }) more writes e → ExplainsServe e W l job
  serve_exit Done (services, count, served, w) = record {
    config = config;
    begun = begun;
    port = port;
    services = services;
    count = count;
    listened = record { more = more; events = events; port_is = port_is; served = served };
    each = ap (λ (x : List Event). x ++ writes) firsts ∙ ap (λ (y : List Event). port_line_written port ++ y) (w.each ∙ ap all_written w.are);
    bytes = wrote_both (port_line port) (end_lines 0 (ends_of services)) a b c first_bytes (subst (λ (ps : List (List ℕ)). Appends b c (concat ps)) w.are w.bytes);
  }
  serve_exit WriteFault (services, count, served, w, rose) = (
    inl (record {
      config = config;
      begun = begun;
      port = port;
      services = services;
      count = count;
      listened = record { more = more; events = events; port_is = port_is; served = served };
      each = record {
        events = writes;
        grew = ap (λ (x : List Event). x ++ writes) firsts;
        are = subst (λ (ps : List (List ℕ)). WroteUpTo ps writes) w.are w.each;
      };
      bytes = front_both (port_line port) (end_lines 0 (ends_of services)) a b c first_bytes (subst (λ (ps : List (List ℕ)). AppendsFront b c (concat ps)) w.are w.bytes);
    }),
    rises rose,
  )
  serve_exit ListenFault (rose, none, same, inl (services, count, served)) = (
    inl (
      inr (record {
        config = config;
        begun = begun;
        port = port;
        services = services;
        count = count;
        listened = record { more = more; events = events; port_is = port_is; served = served };
        written = alone none same;
      }),
      ap has_listen_failed events
          ∙ accept_fails job.port port more (length services) services (handled_by job.by config job more services false served),
    ),
    heard_rises rose,
  )
  serve_exit ListenFault (rose, none, same, inr tasks) = (
    inr (record {
      tasks = tasks;
      config = config;
      begun = begun;
      port = port;
      more = more;
      events = events;
      port_is = port_is;
      written = alone none same;
    }),
    heard_rises rose,
  )
  serve_exit OutOfMemory (none, same) = (begun.unread, inr (port, alone none same))
  serve_exit Usage h' = absurd h'
  serve_exit (ConfigRefused at) h' = absurd h'
  serve_exit TooLong h' = absurd h'
  serve_exit ReadFault h' = absurd h'
  serve_exit (FileFault index) h' = absurd h'
  serve_exit (SettingsRefused refused) h' = absurd h'

-- The port was had, and the listener and the sink went from these states over those to the last ones.
module _ (f : Found) (job : ServeJob) (config : List DomainTree) (port : ℕ) (h0 h1 : List Event) (w0 w1 : Option (List ℕ)) (k0 k1 : ℕ)
    (l0 l1 : List ListenEvent) (n0 n1 : ℕ) (event : l1 ≡ l0 ++ bound job.port port ∷ []) (asked : IsPortFor job.port port) where
  -- its line wasn't written
  pub port_unwritten : Grew h0 h1 (IsOfPort port (record { written = w0; after = w1; faults = (k0, k1) }) Unwritten)
      → HasBegun (world_of f (record { written = w0; after = w1; faults = (k0, k1) }) (since h0 h1)) job config
      → ExplainsServe WriteFault (world_of f (record { written = w0; after = w1; faults = (k0, k1) }) (since h0 h1))
      (record { listens = since l0 l1; faults = (n0, n1) }) job
  port_unwritten told begun =
      let front = told.are.0 in
      let writes = since_is h0 h1 told.events told.grew in (
        inr (record {
          config = config;
          begun = begun;
          port = port;
          listened = since_is l0 l1 _ event;
          port_is = asked;
          each = subst (λ (ws : List Event). WroteUpTo (port_line port ∷ []) ws) (sym writes)
              (subst (λ (ps : List (List ℕ)). WroteUpTo ps told.events) front.are front.each);
          bytes = subst (λ (ps : List (List ℕ)). AppendsFront w0 w1 (concat ps)) front.are front.bytes;
        }),
        told.are.1,
      )

  -- its line was, and then serving came to this exit
  pub port_served : (h2 : List Event) (w2 : Option (List ℕ)) (k2 : ℕ) (l2 : List ListenEvent) (n2 : ℕ) (e : Exit)
      → Grew h0 h1 (IsOfPort port (record { written = w0; after = w1; faults = (k0, k1) }) Written) → n0 ≤ n1
      → HasServing config job (n1, n2) (record { written = w1; after = w2; faults = (k1, k2) }) l1 l2 h1 h2 e
      → HasBegun (world_of f (record { written = w0; after = w2; faults = (k0, k2) }) (since h0 h2)) job config
      → ExplainsServe e (world_of f (record { written = w0; after = w2; faults = (k0, k2) }) (since h0 h2))
      (record { listens = since l0 l2; faults = (n0, n2) }) job
  port_served h2 w2 k2 l2 n2 e told later rest begun =
      let s : Sinks = record { written = w0; after = w2; faults = (k0, k2) } in
      let l : Listening = record { listens = since l0 l2; faults = (n0, n2) } in
      let all : h2 ≡ h0 ++ (told.events ++ rest.writes) =
      rest.wrote ∙ ap (λ (h : List Event). h ++ rest.writes) told.grew ∙ append_assoc h0 told.events rest.writes in
      let writes : since h0 h2 ≡ told.events ++ rest.writes = since_is h0 h2 (told.events ++ rest.writes) all in
      let heard : l2 ≡ l0 ++ (bound job.port port ∷ rest.more) =
      rest.listened ∙ ap (λ (h : List ListenEvent). h ++ rest.more) event ∙ append_assoc l0 (bound job.port port ∷ []) rest.more in
      subst (λ (ws : List Event). ExplainsServe e (world_of f s ws) l job) (sym writes)
      (serve_exit f job config l port w0 w1 w2 (k0, k1) (k1, k2) told.events rest.writes rest.more (n1, n2)
      (since_is l0 l2 (bound job.port port ∷ rest.more) heard) asked told.are.0
      (subst (λ (ws : List Event). HasBegun (world_of f s ws) job config) writes begun) told.are.1 later refl e rest.ends)
