-- Each reply is that of the version that its record shows.
use Rattle.std.proofs.Common.{◌≡◌, ℕ, zero, suc, ◌-◌, List, [], ◌∷◌, Some, None, Option, sym, ap, ◌∙◌, subst, arith}
use Rattle.std.specs.Prelude.{slice_get}
use Rattle.std.specs.List.{AllByRecursion}
use mathlib.Core.List.{IsPrefix}
use mathlib.Core.Option.{some, some-injective, some-ne-none}
use lib.ListN.{get_elem?}
use Rattle.counter_directory.specs.Acquired.{Bounds}
use Rattle.descriptor_tree.specs.Trees.{DomainTree}
use Rattle.rls_core.specs.Reply.{IsReplyOf}
use Rattle.rate_limiter.specs.Passes.{LimiterView, PassView}
use Rattle.rate_limiter.proofs.Places.{at_each, below, here, prefix_get, same_some, to_elem}
use Rattle.reply_text.specs.Answer.{Answer}
use Rattle.reply_text.specs.declared.record.Record.{Record}
use Rattle.reply_text.specs.declared.record.Outcome.{Outcome}
use Rattle.reply_text.specs.declared.record.Outcome.TheVariants as outcome
use Rattle.script_run.specs.ScriptLine.{ScriptLine, check, reload, tick, bad}
use Rattle.script_run.specs.Replies.{IsByRule, RepliesByRule}
use Rattle.worker_run.specs.LineSteps.{LineStep}
use Rattle.worker_run.specs.Journal.{Journal}
use Rattle.worker_run.specs.Work.{HaveRun}
use Rattle.worker_run.proofs.Ledger.{prefix_same, prefix_on, prefix_added}

-- a configuration that is there, else an empty one
abbrev pub config_or : Option (List DomainTree) → List DomainTree
config_or None = []
config_or (Some config) = config

-- the configuration with this number, of a list of versions
abbrev pub config_at : List (List DomainTree) → ℕ → List DomainTree
config_at versions number = config_or (slice_get versions number)

pub step_versions : (b : Bounds) (limiter : LimiterView) (start : ℕ) (l : ScriptLine) (o : Outcome) (p q : PassView) → LineStep b limiter start l p o q
    → IsPrefix p.version.view.known q.version.view.known
step_versions b limiter start (check request) (outcome.Checked answer) p q s = s.1.version.knows
step_versions b limiter start (check request) (outcome.Full live held wanted) p q s = s.0.versions
step_versions b limiter start (check request) (outcome.Spent claims wanted) p q s = s.0.versions
step_versions b limiter start (reload config) outcome.Installed p q s =
    let i = s.1.1 in prefix_added p.version.view.known i.found (config ∷ []) q.version.view.known i.turn.knew i.known
step_versions b limiter start (reload config) (outcome.VersionsFull versions) p q s = s.1.2.turn.knew
step_versions b limiter start (tick now) (outcome.Ticked shown) p q s = prefix_same _ _ (ap (λ (x : PassView). x.version.view.known) s.2)
step_versions b limiter start (bad refused) (outcome.Bad shown) p q s = prefix_same _ _ (ap (λ (x : PassView). x.version.view.known) s.1)
step_versions b limiter start l o p q s = absurd s

step_reply : (b : Bounds) (limiter : LimiterView) (start : ℕ) (l : ScriptLine) (o : Outcome) (p q : PassView) (versions : List (List DomainTree)) → LineStep b limiter start l p o q
    → IsPrefix q.version.view.known versions → IsByRule (config_at versions q.version.version) limiter.global_shadow l q.cells.moment o
step_reply b limiter start (check request) (outcome.Checked answer) p q versions s known =
    let at : slice_get versions q.version.version ≡ Some q.version.index = prefix_get q.version.view.known versions q.version.version q.version.index known s.1.version.at in
    let is : config_at versions q.version.version ≡ q.version.index = ap config_or at in
    let mine : IsReplyOf q.version.index request q.cells.moment limiter.global_shadow answer.over answer.statuses =
    subst (λ (a : Answer). IsReplyOf q.version.index request q.cells.moment limiter.global_shadow a.over a.statuses) (sym s.2) s.1.reply in
    subst (λ (c : List DomainTree). IsReplyOf c request q.cells.moment limiter.global_shadow answer.over answer.statuses) (sym is) mine
step_reply b limiter start (check request) (outcome.Full live held wanted) p q versions s known = tt
step_reply b limiter start (check request) (outcome.Spent claims wanted) p q versions s known = tt
step_reply b limiter start (reload config) outcome.Installed p q versions s known = tt
step_reply b limiter start (reload config) (outcome.VersionsFull n) p q versions s known = tt
step_reply b limiter start (tick now) (outcome.Ticked shown) p q versions s known = tt
step_reply b limiter start (bad refused) (outcome.Bad shown) p q versions s known = tt
step_reply b limiter start l o p q versions s known = absurd s

module _ (b : Bounds) (limiter : LimiterView) (start : ℕ) (lines : List ScriptLine) (versions : List (List DomainTree)) where
  pub journal_versions : (w : ℕ) (p : PassView) (rs : List Record) (q : PassView) → Journal b limiter start w lines p rs q → IsPrefix p.version.view.known q.version.view.known
  journal_versions w p [] q h = prefix_same _ _ (ap (λ (x : PassView). x.version.view.known) h)
  journal_versions w p (r ∷ rs) q h =
      prefix_on _ h.0.version.view.known _ (step_versions b limiter start h.1.line r.outcome p h.0 h.1.step) (journal_versions w h.0 rs q h.2)

  reply_at : (w : ℕ) (p : PassView) (rs : List Record) (q : PassView) → Journal b limiter start w lines p rs q → IsPrefix q.version.view.known versions → (k : ℕ) (r : Record)
      → get_elem? rs k ≡ some r → (l : ScriptLine) → slice_get lines (r.line - 1) ≡ Some l → IsByRule (config_at versions r.version) limiter.global_shadow l r.moment r.outcome
  reply_at w p [] q h known k r e l at = absurd (some-ne-none r (sym e))
  reply_at w p (x ∷ xs) q h known zero r e l at =
      let s = h.1 in
      let mid = h.0 in
      let same : x ≡ r = some-injective x r e in
      let there : slice_get lines (x.line - 1) ≡ Some l = ap (λ (y : Record). slice_get lines (y.line - 1)) same ∙ at in
      let line : s.line ≡ l = same_some s.line l (sym s.there ∙ there) in
      let known_there = prefix_on _ q.version.view.known versions (journal_versions w mid xs q h.2) known in
      let one = step_reply b limiter start s.line x.outcome p mid versions s.step known_there in
      let a = subst (λ (m : ScriptLine). IsByRule (config_at versions mid.version.version) limiter.global_shadow m mid.cells.moment x.outcome) line one in
      let c = subst (λ (n : ℕ). IsByRule (config_at versions n) limiter.global_shadow l mid.cells.moment x.outcome) (sym s.by_version) a in
      let d = subst (λ (n : ℕ). IsByRule (config_at versions x.version) limiter.global_shadow l n x.outcome) (sym s.at) c in
      subst (λ (y : Record). IsByRule (config_at versions y.version) limiter.global_shadow l y.moment y.outcome) same d
  reply_at w p (x ∷ xs) q h known (suc k) r e l at = reply_at w h.0 xs q h.2 known k r e l at

-- each answered check is the reply of the version that its record shows
pub replies_by_rule : (b : Bounds) (limiter : LimiterView) (start : ℕ) (lines : List ScriptLine) (before after : List PassView) (records : List Record)
    (versions : List (List DomainTree))
    → HaveRun b limiter start lines before after records → AllByRecursion (λ (q : PassView). IsPrefix q.version.view.known versions) after
    → RepliesByRule (config_at versions) limiter.global_shadow lines records
replies_by_rule b limiter start lines before after records versions h known i l r el er =
    let e = to_elem records i r er in
    let f = h.merges.from i r e in
    let n = below h.journals f.worker f.journal f.there in
    let p = here before f.worker (omega (arith, h.as_many.1)) in
    let q = here after f.worker (omega (arith, h.as_many.0, h.as_many.1)) in
    let j = h.each f.worker p.0 f.journal q.0 p.1 f.there q.1 in
    let mine = at_each (λ (v : PassView). IsPrefix v.version.view.known versions) after f.worker q.0 q.1 known in
    let m = h.merges.numbered i r e in
    let at : i ≡ r.line - 1 = omega arith in
    reply_at b limiter start lines versions f.worker p.0 f.journal q.0 j mine f.place r f.here l (ap (slice_get lines) (sym at) ∙ el)
