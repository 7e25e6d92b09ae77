use Rattle.std.proofs.Common.{◌∙◌, ◌∷◌, ◌≤◌, length, map, is_some, refl, sym, ap, subst, arith}
use Rattle.std.specs.Option.{option_copied_mut}
use Rattle.std.specs.Map.{set_value}
use Rattle.std.proofs.lemmas.List.{length-map}
use Rattle.lru.specs.LruCache.{promoted}
use Rattle.over_cache.specs.declared.known.Known.{Known}
use Rattle.over_cache.specs.declared.key_bytes.KeyBytes.{KeyBytes}
use Rattle.over_cache.specs.Entries.{Entries, is_key, known_of, noted}
use Rattle.over_cache.specs.Uses.{Noted, Remembers}
use Rattle.over_cache.proofs.Shown.{shown, is_it, known_noted, lookup-shown}
use Rattle.over_cache.proofs.Used.{noted_remembers, noted_others}
use Rattle.over_cache.proofs.over_cache.OverCache.note_known.Goals as goal

pub returns-clause-known : goal.returns-clause-known
returns-clause-known c =
    sym (ap is_some (sym (ap (known_of c.args.key.now) c.self.view_is)
    ∙ lookup-shown (λ (v : KeyBytes). v.bytes.items) (is_key c.args.key.now) c.self.inside.keys.entries
    ∙ sym c.get_mut.ensures.value ∙ ap option_copied_mut c.in-Some.is))

pub returns-clause-noted : goal.returns-clause-noted
returns-clause-noted c = λ yes.
    let bytes = λ (v : KeyBytes). v.bytes.items in
    let key = c.args.key.now in
    let es = c.self.inside.keys.entries in
    let test = is_it bytes key c.args.spot c.args.seen in
    let few = c.len-number.ensures.valid.1 in
    let cap = c.self.invariant in
    let short : length es ≤ 1024 = omega arith in
    ap (λ (w : Known). map (shown bytes) (set_value test (promoted test es) w)) c.noted_over.ensures
    ∙ known_noted bytes key c.args.spot c.args.seen es c.in-Some.known.now (sym c.get_mut.ensures.value ∙ ap option_copied_mut c.in-Some.is) short
    ∙ ap (noted key c.args.spot c.args.seen) c.self.view_is

pub returns-clause-others : goal.returns-clause-others
returns-clause-others c = λ other differs.
    let bytes = λ (v : KeyBytes). v.bytes.items in
    let key = c.args.key.now in
    let es = c.self.inside.keys.entries in
    let few = c.len-number.ensures.valid.1 in
    let cap = c.self.invariant in
    let count = length-map es (shown bytes) in
    let short : length c.args.self.now ≤ 1024 = subst (λ (l : Entries). length l ≤ 1024) c.self.view_is (omega arith) in
    let known = sym (ap (known_of key) c.self.view_is) ∙ lookup-shown bytes (is_key key) es ∙ sym c.get_mut.ensures.value ∙ ap option_copied_mut c.in-Some.is in
    ap (known_of other) (returns-clause-noted c refl)
    ∙ noted_others other key c.args.spot c.args.seen c.args.self.now c.in-Some.known.now differs known short

pub returns-clause-remembers : goal.returns-clause-remembers
returns-clause-remembers c = λ yes uses r.
    subst (λ (es : Entries). Remembers (Noted c.args.key.now c.args.spot c.args.seen ∷ uses) es) (sym (returns-clause-noted c yes))
    (noted_remembers c.args.key.now c.args.spot c.args.seen uses c.args.self.now r)

pub returns-in_default-clause-known : goal.returns-in_default-clause-known
returns-in_default-clause-known c =
    sym (ap is_some (sym (ap (known_of c.args.key.now) c.self.view_is)
    ∙ lookup-shown (λ (v : KeyBytes). v.bytes.items) (is_key c.args.key.now) c.self.inside.keys.entries
    ∙ sym c.get_mut.ensures.value ∙ ap option_copied_mut c.in_default.is))
