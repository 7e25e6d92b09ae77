-- What contracts see of a handover and of its passes.
use Rattle.std.specs.Prelude.{◌≡◌, ℕ, ◌-◌, ◌<◌, ◌≤◌, List}
use Rattle.crossbeam_channel.specs.Claims.{view, IsSeatAt}
use Rattle.crossbeam_channel.specs.Ends.{sends_on}
use Rattle.link_handover.specs.Handover.{numbers_in}
use Rattle.link_handover.specs.declared.taken.Taken.{Taken}
use Rattle.link_handover.specs.declared.taken.Taken.TheVariants.{Link, End}
use Rattle.link_handover.specs.declared.handover.Handover.{Handover}
use Rattle.link_handover.specs.declared.passes.PutPass.{PutPass}
use Rattle.link_handover.specs.declared.passes.TakePass.{TakePass}

-- among so many links, a number was taken so often: once where it is below the count, and else never
pub record IsOnceBelow (count n often : ℕ) : Type 0 where
  pub once : n < count → often ≡ 1
  pub none : count ≤ n → often ≡ 0

module _ {N : Type 0} where
  -- the pass puts into this handover
  abbrev pub PutsInto : Handover N → PutPass N → Type 0
  PutsInto h p = IsSeatAt (sends_on h.sender) p.pass

  -- the pass takes from this handover
  abbrev pub TakesFrom : Handover N → TakePass N → Type 0
  TakesFrom h p = IsSeatAt (sends_on h.sender) p.pass

  -- the links that were put, in order
  abbrev pub links_put : PutPass N → List N
  links_put p = (view p.pass).links

  -- how many end marks were put
  abbrev pub marks_put : PutPass N → ℕ
  marks_put p = (view p.pass).marks

  -- how many passes that take were made
  abbrev pub takers_of : PutPass N → ℕ
  takers_of p = 65 - (view p.pass).parts

  -- what a pass took, in order
  abbrev pub taken_by : TakePass N → List (Taken N)
  taken_by p = (view p.pass).taken

  -- the numbers of the links that a pass took, in order
  abbrev pub numbers_taken : TakePass N → List ℕ
  numbers_taken p = numbers_in (taken_by p)

  -- 1 for an end mark, else 0
  abbrev pub is_end : Taken N → ℕ
  is_end (Link n x) = 0
  is_end End = 1
