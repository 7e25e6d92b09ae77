use Rattle.std.proofs.Common.{length, refl, sym, ap, ◌∙◌, subst, arith, rules}
use Rattle.counter_directory.specs.Windows.{ExpiredBelow}
use Rattle.counter_directory.specs.Keys.{keys_at}
use Rattle.counter_directory.specs.Acquired.{Bounds}
use Rattle.counter_directory.proofs.Ringing.{rings_fit}
use Rattle.counter_directory.specs.Acquiring.{IsBoundAt}
use Rattle.counter_directory.proofs.Acquiring.{wanted_of, bound_new}
use Rattle.counter_directory.proofs.Finding.{first_named}
use Rattle.counter_directory.proofs.KeyLists.{len_keys}
use Rattle.counter_directory.proofs.claim_table.ClaimTable.bind_missing.Goals as goal

pub bind_all-requires-clause-rings : goal.bind_all-requires-clause-rings
bind_all-requires-clause-rings g c =
    let p = c.reserve_cells.ensures.keeps in
    let r = c.make_room.ensures.same.0 in
    let s = c.reserve_cells.new.self.pool in
    let last = p.last ∙ ap (λ z. z.last) r in
    let rings = ap (λ v. v.items) p.rings ∙ ap (λ z. z.rings.items) r in
    rings_fit s.last s.rings.items s.windows (subst (λ m. ExpiredBelow 4 m s.rings.items) (sym last)
    (subst (λ l. ExpiredBelow 4 c.args.self.now.pool.last l) (sym rings) c.requires.expired))

pub returns-then-claims-from-clause-did : goal.returns-then-claims-from-clause-did
returns-then-claims-from-clause-did g c =
    let a = c.args.self.now.pool in
    let missing = c.in-Ok.missing in
    record {
      same = refl;
      claims_is = c.claims_made-claims.ensures;
      wanted_is = wanted_of a.last _ a.claims (keys_at a.last c.args.names.now) missing.items c.in-Ok.ensures.missing (omega (arith, c.len-wanted.ensures, missing.ok.0));
      spent = omega (arith, c.if-claims-from.true, c.from.ensures);
    }

pub returns-then-not-reserve_cells-clause-did : goal.returns-then-not-reserve_cells-clause-did
returns-then-not-reserve_cells-clause-did g c =
    let a = c.args.self.now.pool in
    let missing = c.in-Ok.missing in
    let p = c.reserve_cells.ensures.keeps in
    let r = c.make_room.ensures.same.0 in (
      p.last ∙ ap (λ z. z.last) r,
      record {
        same = p.claims ∙ ap (λ z. z.claims) r;
        wanted_is = wanted_of a.last _ a.claims (keys_at a.last c.args.names.now) missing.items c.in-Ok.ensures.missing (omega (arith, c.len-wanted.ensures, missing.ok.0));
        some = search rules;
        unspent = search rules;
        live_is = search rules;
        held_is = search rules;
        few = search rules;
        full = search rules;
        used = search rules;
      },
    )

pub returns-clause-did : goal.returns-clause-did
returns-clause-did g c =
    let a = c.args.self.now.pool in
    let missing = c.in-Ok.missing in
    let p = c.reserve_cells.ensures.keeps in
    let r = c.make_room.ensures.same.0 in
    let s = c.reserve_cells.new.self.pool in
    let bounds : Bounds = record { cells = g.N.CellNaming.setup.cells; claims = a.most; held = c.args.most_held } in
    bound_new bounds a.last s.last (length c.args.self.now.claimer.used_claims) (length c.bind_all.new.self.claimer.used_claims) a.claims s.claims c.bind_all.new.self.pool.claims
    (keys_at a.last c.args.names.now) missing.items (p.claims ∙ ap (λ z. z.claims) r) (p.last ∙ ap (λ z. z.last) r) c.bind_all.ensures.grows c.bind_all.ensures.adds
    c.in-Ok.ensures.missing
    (omega (arith, c.if-claims-from.false, c.from.ensures, c.claims_made-claims.ensures, c.len-wanted.ensures, missing.ok.0)) (search rules)

pub returns-clause-first : goal.returns-clause-first
returns-clause-first g c =
    let a = c.args.self.now.pool in
    let names = c.args.names.now in
    let missing = c.in-Ok.missing in
    let p = c.reserve_cells.ensures.keeps in
    let r = c.make_room.ensures.same.0 in
    let last = p.last ∙ ap (λ z. z.last) r in
    let claims = c.bind_all.new.self.pool.claims in
    first_named a.last names missing.items c.args.first claims c.bind_all.result (omega (arith, c.requires.first.0, len_keys a.last names)) c.in-Ok.ensures.is_first
    (subst (λ t. IsBoundAt 0 (keys_at t missing.items) claims c.bind_all.result) last c.bind_all.ensures.first)
