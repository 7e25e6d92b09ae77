-- Inside: links under their numbers, and what an accept came to.
use Rattle.conn_tasks.specs.declared.poll_link.PollLink.{Ghosts}
use Rattle.serve_tasks.specs.Running.{Standing}
use Rattle.serve_tasks.specs.declared.links.Links.{Links}

module _ {N : Type 0} {link : Ghosts N} where
  -- what is seen of them
  abbrev pub standing : Links N link → Standing
  standing links = record { tasks = links.tasks.items; served = links.served.items }
