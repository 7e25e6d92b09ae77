-- Inside: what a worker has served.
use Rattle.std.specs.Prelude.{◌≡◌, ℕ, ◌+◌, List, [], ◌∷◌, ◌++◌, map, true}
use Rattle.rate_types.specs.Sums.{total}
use Rattle.link_handover.specs.Passes.{TakesFrom, taken_by, numbers_taken, is_end}
use Rattle.link_handover.specs.declared.handover.Handover.{Handover}
use Rattle.rate_io.specs.declared.link.Link.{Ghosts}
use Rattle.http_endpoint.specs.Answers.{CheckStep, Asked}
use Rattle.http_serve.specs.Service.{Service, IsServed, AreServed}
use Rattle.http_serve.specs.declared.served.Fresh.{Fresh}
use Rattle.http_serve.specs.declared.worker.Worker.{Worker}

module _ {N S : Type 0} {link : Ghosts N} where
  -- how many end marks it took
  abbrev pub ends_taken : Worker N S link → ℕ
  ends_taken w = total is_end (taken_by w.take)

  -- it took a link and served it
  pub record HasServed (answers : CheckStep S) (old new : Worker N S link) : Type 0 where
    pub service : Service
    pub taken : numbers_taken new.take ≡ numbers_taken old.take ++ service.number ∷ []
    pub ends : ends_taken new ≡ ends_taken old
    pub served : new.served.items ≡ old.served.items ++ service ∷ []
    pub asked : List Asked
    pub one : IsServed answers old.checks service asked new.checks

  -- it took an end mark, and nothing more was served; where memory didn't suffice, it says so
  pub record HasStopped (old new : Worker N S link) : Type 0 where
    pub ends : ends_taken new ≡ ends_taken old + 1
    pub taken : new.is_whole ≡ true → numbers_taken new.take ≡ numbers_taken old.take
    pub served : new.served.items ≡ old.served.items
    pub checks : new.checks ≡ old.checks

  -- it has taken and served nothing
  pub record IsReady (h : Handover (Fresh N link)) (w : Worker N S link) : Type 0 where
    pub take : TakesFrom h w.take
    pub taken : taken_by w.take ≡ []
    pub served : w.served.items ≡ []

  -- it took its end mark, and, where memory sufficed, served what it had taken
  pub record HasWorked (answers : CheckStep S) (h : Handover (Fresh N link)) (old new : Worker N S link)
      : Type 0 where
    pub take : TakesFrom h new.take
    pub ends : ends_taken new ≡ 1
    pub taken : new.is_whole ≡ true → numbers_taken new.take ≡ map (λ s. s.number) new.served.items
    pub asked : List Asked
    pub served : AreServed answers old.checks new.served.items asked new.checks
