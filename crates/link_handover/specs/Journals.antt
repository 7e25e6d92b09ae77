-- Inside: what each step makes of what a pass knows.
use Rattle.std.specs.Prelude.{◌≡◌, ℕ, ◌+◌, ◌-◌, List, [], ◌∷◌, ◌++◌, length, true, false}
use Rattle.rate_types.specs.Sums.{total}
use Rattle.link_handover.specs.declared.taken.Taken.{Taken}
use Rattle.link_handover.specs.declared.taken.Taken.TheVariants.{Link, End}
use Rattle.link_handover.specs.declared.journal.Journal.{Journal}
use Rattle.link_handover.specs.Handover.{put_in_all, numbers_in, AreRising}

module _ {N : Type 0} where
  -- the pass that puts, and stands for all passes
  abbrev pub first_journal : Journal N
  first_journal = record { puts = true; parts = 65; links = []; marks = 0; taken = [] }

  -- it has done nothing and stands for no pass
  abbrev pub no_journal : Journal N
  no_journal = record { puts = false; parts = 0; links = []; marks = 0; taken = [] }

  -- a pass that takes and has taken nothing
  abbrev pub one_taker : Journal N
  one_taker = record { puts = false; parts = 1; links = []; marks = 0; taken = [] }

  -- after a pass was split off
  abbrev pub one_less : Journal N → Journal N
  one_less v = record v { parts = v.parts - 1 }

  -- it stands for both
  abbrev pub joined : Journal N → Journal N → Journal N
  joined v w = record v { parts = v.parts + w.parts; taken = v.taken ++ w.taken }

  -- the pass that puts may put this: a link under the next number, before any end mark, or an end mark
  abbrev pub MayPut : Taken N → Journal N → Type 0
  MayPut (Link n x) v = (v.puts ≡ true) × (v.marks ≡ 0) × (n ≡ length v.links)
  MayPut End v = v.puts ≡ true

  -- a link or an end mark was put
  abbrev pub HasPut : Taken N → Journal N → Journal N → Type 0
  HasPut (Link n x) v w = w ≡ record v { links = v.links ++ x ∷ [] }
  HasPut End v w = w ≡ record v { marks = v.marks + 1 }

  -- this was taken, and the numbers taken rise
  abbrev pub HasTaken : Taken N → Journal N → Journal N → Type 0
  HasTaken x v w = (w ≡ record v { taken = v.taken ++ x ∷ [] }) × AreRising (numbers_in w.taken)

  -- what was put, but for what was taken, is what the queue holds
  pub record Leaves (v : Journal N) (items : List (Taken N)) : Type 0 where
    pub first : List (Taken N)
    pub put : put_in_all v.links v.marks ≡ first ++ items
    pub taken : (weight : Taken N → ℕ) → total weight v.taken ≡ total weight first
