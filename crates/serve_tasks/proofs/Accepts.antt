-- Accepts, one after the other.
use Rattle.std.proofs.Common.{◌≡◌, ℕ, ◌+◌, ◌≤◌, ◌<◌, Bool, true, List, [], ◌∷◌, ◌++◌, replicate, sym, ap, ◌∙◌, subst, append-nil, append_assoc, arith}
use Rattle.rate_io.specs.Causes.{Rose}
use Rattle.rate_io.specs.Listeners.{ListenEvent, accepted, accept_failed}
use Rattle.http_serve.specs.Links.{accepts}
use Rattle.http_serve.proofs.Events.{accept_push}
use Rattle.std.specs.Prelude.{Ok}
use Rattle.serve_tasks.specs.Accepting.{IsSo, Leaves, Accepts, is_unfailed, is_over}
use Rattle.serve_tasks.specs.Rounds.{EndsRounds}
use Rattle.serve_tasks.specs.declared.accepting.Accepting.{Accepting}
use Rattle.serve_tasks.specs.declared.accepting.Accepting.TheVariants.{More, Waits, Full, All, Failed}

module _ (connections : ℕ) where
  -- what it says stays so as faults rise
  so_later : (a : Accepting) (n f g h : ℕ) → g ≤ h → IsSo a connections n (f, g) → IsSo a connections n (f, h)
  so_later More n f g h le x = x
  so_later (Waits told) n f g h le x = x
  so_later Full n f g h le x = x
  so_later All n f g h le x = x
  so_later Failed n f g h le x = (x.0, omega (arith, x.1, le))

  -- no link was accepted, and none failed to be
  pub same_calls : (a b : Accepting) (n : ℕ) (old new : List ListenEvent) (g h : ℕ) → new ≡ old → g ≤ h → is_unfailed b ≡ is_unfailed a
      → ((f : ℕ) → IsSo a connections n (f, g) → IsSo b connections n (f, h)) → Accepts connections a b n n old new g h
  same_calls a b n old new g h same le un so = λ start before x. record {
    is_so = so before x.is_so;
    later = omega (arith, x.later, le);
    events = same ∙ (x.events ∙ ap (λ (t : Bool). start ++ accepts n t) (sym un));
  }

  -- the same, later
  pub slept : (a : Accepting) (n f g h : ℕ) (start old new : List ListenEvent) → new ≡ old → g ≤ h → Leaves connections a n start old (f, g)
      → Leaves connections a n start new (f, h)
  slept a n f g h start old new same le x = record {
    is_so = so_later a n f g h le x.is_so;
    later = omega (arith, x.later, le);
    events = same ∙ x.events;
  }

  accept_event_on : (start old new : List ListenEvent) (n : ℕ) → new ≡ old ++ accepted ∷ [] → old ≡ start ++ accepts n true → new ≡ start ++ accepts (n + 1) true
  accept_event_on start old new n event is =
      event ∙ (ap (λ (h : List ListenEvent). h ++ accepted ∷ []) is ∙ (append_assoc start (accepts n true) (accepted ∷ [])
      ∙ ap (λ (h : List ListenEvent). start ++ h) (ap (λ (h : List ListenEvent). h ++ accepted ∷ []) (append-nil (replicate n accepted))
      ∙ (sym (accept_push n) ∙ sym (append-nil (replicate (n + 1) accepted))))))

  -- one link more
  pub one_accepted : (n m g h : ℕ) (old new : List ListenEvent) → new ≡ old ++ accepted ∷ [] → g ≤ h → m ≡ n + 1 → n < connections
      → Accepts connections More More n m old new g h
  one_accepted n m g h old new event le more less = λ start before x. record {
    is_so = omega (arith, more, less);
    later = omega (arith, x.later, le);
    events = subst (λ (k : ℕ). new ≡ start ++ accepts k true) (sym more) (accept_event_on start old new n event x.events);
  }

  -- an accept failed
  pub one_failed : (n g h : ℕ) (old new : List ListenEvent) → new ≡ old ++ accept_failed ∷ [] → g ≤ h → Rose g h → n < connections
      → Accepts connections More Failed n n old new g h
  one_failed n g h old new event le rose less = λ start before x. record {
    is_so = (less, let l = x.later in omega (arith, l, rose));
    later = omega (arith, x.later, le);
    events = event ∙ (ap (λ (hs : List ListenEvent). hs ++ accept_failed ∷ []) x.events ∙ (append_assoc start (accepts n true) (accept_failed ∷ [])
        ∙ ap (λ (hs : List ListenEvent). start ++ (hs ++ accept_failed ∷ [])) (append-nil (replicate n accepted))));
  }

  -- all is over
  pub ends_so : (a : Accepting) (n live f g : ℕ) (start new : List ListenEvent) → Leaves connections a n start new (f, g) → is_over a ≡ true → live ≡ 0
      → EndsRounds connections n live start new (f, g) (Ok (is_unfailed a))
  ends_so More n live f g start new x over zeroes = absurd (cc)
  ends_so (Waits told) n live f g start new x over zeroes = absurd (cc)
  ends_so Full n live f g start new x over zeroes = absurd (cc)
  ends_so All n live f g start new x over zeroes = (x.is_so, zeroes, x.events)
  ends_so Failed n live f g start new x over zeroes = (x.is_so.0, zeroes, x.events, x.is_so.1)
