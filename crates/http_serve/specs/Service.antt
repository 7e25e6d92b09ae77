-- What links are served: one link, the links of one checker in order, and those of all.
use Rattle.std.specs.Prelude.{◌≡◌, ℕ, List, [], ◌∷◌, ◌++◌, length, option_to_list}
use mathlib.Core.Option.{some}
use lib.ListN.{get_elem?}
use Rattle.rate_types.specs.Sums.{total}
use Rattle.rate_io.specs.Events.{Event}
use Rattle.rate_io.specs.Links.{LinkState}
use Rattle.rate_io.specs.Listeners.{IsNewLink}
use Rattle.http_endpoint.specs.Answers.{CheckStep, Asked, asked_in, Lead}
use Rattle.http_endpoint.specs.Served.{Serves}
use Rattle.http_endpoint.specs.declared.link_end.LinkEnd.{LinkEnd}

-- a link that was served: its number, its reads and writes in order, and how it ended
pub record Service : Type 0 where
  pub number : ℕ
  pub calls : List Event
  pub link_end : LinkEnd

module _ {S : Type 0} (answers : CheckStep S) where
  -- a link that was not used before was served, with these checks, from one state of what answers them to the next
  pub record IsServed (p : S) (s : Service) (asked : List Asked) (q : S) : Type 0 where
    pub old : LinkState
    pub new : LinkState
    pub unused : IsNewLink old
    pub serves : Serves answers p q old new s.link_end.cause s.link_end.answers
    pub calls : s.calls ≡ new.history
    pub checks : asked ≡ asked_in (serves.turns ++ option_to_list serves.last)

  -- link after link, each from the state that the one before left, with all their checks in order
  abbrev pub AreServed : S → List Service → List Asked → S → Type 0
  AreServed p [] asked q = (asked ≡ []) × (q ≡ p)
  AreServed p (s ∷ ss) asked q = (mid : S) × (mine : List Asked) × (more : List Asked) × (asked ≡ mine ++ more)
      × IsServed p s mine mid × AreServed mid ss more q

  -- Each of these links was served by one of several checkers: checker by checker there is a list of its links, in the order in which it
  -- served them, and one of their checks, which lead from what the checker was to what it is. The links of all are these, each once.
  pub record AreServedBy (before after : List S) (services : List Service) (asked : List (List Asked)) : Type 0 where
    pub lists : List (List Service)
    pub as_many : (length after ≡ length before) × (length lists ≡ length before) × (length asked ≡ length before)
    pub each : (w : ℕ) (p : S) (ss : List Service) (xs : List Asked) (q : S) → get_elem? before w ≡ some p → get_elem? lists w ≡ some ss
        → get_elem? asked w ≡ some xs → get_elem? after w ≡ some q → AreServed p ss xs q × Lead answers p xs q
    pub sums : (f : Service → ℕ) → total f services ≡ total (total f) lists
