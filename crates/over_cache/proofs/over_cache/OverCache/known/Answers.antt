use Rattle.std.proofs.Common.{◌∙◌, ◌∷◌, map, refl, sym, ap, subst}
use Rattle.lru.specs.LruCache.{LruCache}
use Rattle.over_cache.specs.declared.known.Known.{Known}
use Rattle.over_cache.specs.declared.key_bytes.KeyBytes.{KeyBytes}
use Rattle.over_cache.specs.Entries.{Entries, is_key, known_of, asked}
use Rattle.over_cache.specs.Uses.{Asked, Remembers}
use Rattle.over_cache.proofs.Shown.{shown, lookup-shown, promoted-shown}
use Rattle.over_cache.proofs.Used.{asked_remembers}
use Rattle.over_cache.proofs.over_cache.OverCache.known.Goals as goal

pub returns-clause-known : goal.returns-clause-known
returns-clause-known c =
    c.copied.ensures ∙ c.get.ensures.value
    ∙ sym (lookup-shown (λ (v : KeyBytes). v.bytes.items) (is_key c.args.key.now) c.self.inside.keys.entries)
    ∙ ap (known_of c.args.key.now) c.self.view_is

pub returns-clause-order : goal.returns-clause-order
returns-clause-order c =
    ap (λ (k : LruCache (KeyBytes) Known). map (shown (λ (v : KeyBytes). v.bytes.items)) k.entries) c.get.follows.holds-at-none
    ∙ sym (promoted-shown (λ (v : KeyBytes). v.bytes.items) (is_key c.args.key.now) c.self.inside.keys.entries)
    ∙ ap (asked c.args.key.now) c.self.view_is

pub returns-clause-remembers : goal.returns-clause-remembers
returns-clause-remembers c = λ uses r. subst (λ (es : Entries). Remembers (Asked c.args.key.now ∷ uses) es) (sym (returns-clause-order c))
    (asked_remembers c.args.key.now uses c.args.self.now r)

pub returns-in-Some-clause-remembers : goal.returns-in-Some-clause-remembers
returns-in-Some-clause-remembers c = λ uses r.
    subst (λ (es : Entries). Remembers (Asked c.args.key.now ∷ uses) es) (c.in-Some.ensures.order refl)
    (asked_remembers c.args.key.now uses c.args.self.now r)
