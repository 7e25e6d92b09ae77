use Rattle.std.proofs.Common.{◌≡◌, ◌∙◌, ◌∷◌, ◌≤◌, ◌-◌, Option, take, map, length, refl, sym, ap, subst, arith, true≢false}
use Rattle.std.specs.Option.{option_map_or, IsSome}
use Rattle.std.specs.Map.{lookup, lookup_entry, remove_entry}
use Rattle.over_cache.specs.declared.known.Known.{Known}
use Rattle.over_cache.specs.declared.key_bytes.KeyBytes.{KeyBytes}
use Rattle.over_cache.specs.Entries.{Entries, is_key, known_of, noted}
use Rattle.over_cache.specs.Uses.{Noted, Remembers}
use Rattle.over_cache.proofs.Shown.{shown, over_noted, lookup-shown, IsOver}
use Rattle.over_cache.proofs.Used.{noted_remembers, noted_before}
use Rattle.over_cache.proofs.over_cache.OverCache.note.Goals.{else-key-gt-SHORT-via-then-key-gt-SHORT+else-note_known, else-key-gt-SHORT-via-else-key-gt-SHORT}
use Rattle.over_cache.proofs.over_cache.OverCache.note.Goals as goal

pub returns-clause-noted : goal.returns-clause-noted
returns-clause-noted c =
    let bytes = λ (v : KeyBytes). v.bytes.items in
    let es = c.self.inside.keys.entries in
    let k = c.in_ok-key.key in
    let v = c.in_ok-noted.noted.now in
    let w = c.noted_over.result in
    let same : k.bytes.items ≡ c.args.key.now = c.in_ok-key.ensures.same in
    let count = c.len-number.ensures.valid.1 in
    let cap = c.self.invariant in
    let few : length es ≤ 1024 = omega arith in
    let before : c.else-key-gt-SHORT.self ≡ c.args.self.now = elim c.else-key-gt-SHORT.branch [
      | else-key-gt-SHORT-via-then-key-gt-SHORT+else-note_known w ↦ w.self-is ∙ w.if-note_known.ensures.unknown refl
      | else-key-gt-SHORT-via-else-key-gt-SHORT w ↦ w.self-is
    ] in
    let was : map (shown bytes) es ≡ c.args.self.now = c.self.view_is ∙ before in
    let over : IsOver bytes c.args.spot c.args.seen es few k v = c.in_ok-noted.ensures.value in
    ap (λ n. map (shown bytes) (option_map_or (λ (e : KeyBytes × Known). (e.0, w) ∷ remove_entry (λ (x : KeyBytes). is_key k.bytes.items x.bytes.items) es)
    (lookup_entry (λ (x : KeyBytes). is_key k.bytes.items x.bytes.items) es) ((k, w) ∷ take (n - 1) es))) c.self.invariant
    ∙ over_noted bytes c.args.spot c.args.seen es few k v w over c.noted_over.ensures
    ∙ ap (λ b. noted b c.args.spot c.args.seen (map (shown bytes) es)) same
    ∙ ap (noted c.args.key.now c.args.spot c.args.seen) was

pub returns-clause-others : goal.returns-clause-others
returns-clause-others c = λ other v differs is.
    noted_before other c.args.key.now c.args.spot c.args.seen c.args.self.now v differs (sym (ap (known_of other) (returns-clause-noted c)) ∙ is)

pub returns-clause-remembers : goal.returns-clause-remembers
returns-clause-remembers c = λ uses r.
    subst (λ (es : Entries). Remembers (Noted c.args.key.now c.args.spot c.args.seen ∷ uses) es) (sym (returns-clause-noted c))
    (noted_remembers c.args.key.now c.args.spot c.args.seen uses c.args.self.now r)

pub returns-in_err-noted-clause-known : goal.returns-in_err-noted-clause-known
returns-in_err-noted-clause-known c = λ is.
    let bytes = λ (v : KeyBytes). v.bytes.items in
    let es = c.self.inside.keys.entries in
    let before : c.else-key-gt-SHORT.self ≡ c.args.self.now = elim c.else-key-gt-SHORT.branch [
      | else-key-gt-SHORT-via-then-key-gt-SHORT+else-note_known w ↦ w.self-is ∙ w.if-note_known.ensures.unknown refl
      | else-key-gt-SHORT-via-else-key-gt-SHORT w ↦ w.self-is
    ] in
    let found : known_of c.args.key.now c.args.self.now ≡ lookup (λ (x : KeyBytes). is_key c.in_ok-key.key.bytes.items x.bytes.items) es =
    sym (ap (known_of c.args.key.now) (c.self.view_is ∙ before)) ∙ lookup-shown bytes (is_key c.args.key.now) es
    ∙ ap (λ b. lookup (λ (x : KeyBytes). is_key b x.bytes.items) es) (sym c.in_ok-key.ensures.same) in
    absurd (true≢false (sym (c.in_err-noted.ensures.succeeds (subst (λ (o : Option Known). IsSome o) found is))))
