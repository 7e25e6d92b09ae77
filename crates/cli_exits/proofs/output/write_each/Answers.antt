use Rattle.std.proofs.Common.{◌≡◌, ◌++◌, ◌∷◌, [], ℕ, List, Bool, true, Some, map, take, length, slice_get, refl, sym, ap, ◌∙◌, subst, append_assoc, arith}
use Rattle.std.specs.Bool.{OnTrue}
use Rattle.std.specs.List.{concat}
use Rattle.rate_io.specs.Events.{wrote, write_failed}
use Rattle.cli_exits.specs.Output.{AppendsFront}
use Rattle.cli_exits.proofs.Writing.{appends_more, concat_push, front_of, one_more}
use Rattle.cli_exits.proofs.output.write_each.Goals as goal

-- the first lines of a list, and the one behind them
firsts : (done rest : List (List ℕ)) → take (length done) (done ++ rest) ≡ done
firsts [] rest = refl
firsts (l ∷ done) rest = ap (λ ls. l ∷ ls) (firsts done rest)

behind : (done : List (List ℕ)) (line : List ℕ) (rest : List (List ℕ)) → slice_get (done ++ line ∷ rest) (length done) ≡ Some line
behind [] line rest = refl
behind (l ∷ done) line rest = behind done line rest

-- the list, cut at the line that was come to
cut : (all done old rest : List (List ℕ)) (line shown : List ℕ) (b : Bool) → b ≡ true → OnTrue b (old ≡ line ∷ rest) → shown ≡ line → all ≡ done ++ old
    → all ≡ done ++ shown ∷ rest
cut all done old rest line shown b is more same whole =
    let next : old ≡ line ∷ rest = subst (λ t. OnTrue t (old ≡ line ∷ rest)) is more in
    whole ∙ ap (λ ls. done ++ ls) (next ∙ ap (λ l. l ∷ rest) (sym same))

pub pieces-preserved : goal.pieces-preserved
pieces-preserved g c =
    let inv = c.pieces.invariant in
    let line = c.piece.result.now in
    let rest = g.P.Pieces.rest c.next_piece.new.self in
    let whole = cut (g.P.Pieces.rest c.args.pieces.now) inv.0 (g.P.Pieces.rest c.pieces.pieces) rest (g.P.Pieces.here c.next_piece.new.self) line c.next_piece.result c.pieces-test.true c.next_piece.ensures.more c.piece.ensures inv.1 in (
      inv.0 ++ line ∷ [],
      whole ∙ sym (append_assoc inv.0 (line ∷ []) rest),
      rw concat_push (appends_more _ _ _ (concat inv.0) line inv.2 c.in-Ok.ensures.bytes),
      one_more _ _ _ inv.0 line inv.3 c.in-Ok.ensures.event,
      omega (arith, inv.4, c.in-Ok.ensures.cause.later),
    )

pub returns-in_default-clause-up_to : goal.returns-in_default-clause-up_to
returns-in_default-clause-up_to g c =
    let inv = c.pieces.invariant in
    let line = c.piece.result.now in
    let rest = g.P.Pieces.rest c.next_piece.new.self in
    let whole = cut (g.P.Pieces.rest c.args.pieces.now) inv.0 (g.P.Pieces.rest c.pieces.pieces) rest (g.P.Pieces.here c.next_piece.new.self) line c.next_piece.result c.pieces-test.true c.next_piece.ensures.more c.piece.ensures inv.1 in
    record {
      events = map wrote inv.0 ++ write_failed line ∷ [];
      grew = c.in_default.ensures.event ∙ ap (λ l. l ++ write_failed line ∷ []) inv.3
          ∙ append_assoc (g.K.Sink.history c.args.sink.now) (map wrote inv.0) (write_failed line ∷ []);
      are = record {
        count = length inv.0;
        piece = line;
        next = ap (λ ls. slice_get ls (length inv.0)) whole ∙ behind inv.0 line rest;
        each = ap (λ l. map wrote l ++ write_failed line ∷ []) (sym (ap (take (length inv.0)) whole ∙ firsts inv.0 (line ∷ rest)));
      };
    }

pub returns-in_default-clause-part : goal.returns-in_default-clause-part
returns-in_default-clause-part g c =
    let inv = c.pieces.invariant in
    let line = c.piece.result.now in
    let rest = g.P.Pieces.rest c.next_piece.new.self in
    let whole = cut (g.P.Pieces.rest c.args.pieces.now) inv.0 (g.P.Pieces.rest c.pieces.pieces) rest (g.P.Pieces.here c.next_piece.new.self) line c.next_piece.result c.pieces-test.true c.next_piece.ensures.more c.piece.ensures inv.1 in
    subst (λ ls. AppendsFront (g.K.Sink.written c.args.sink.now) (g.K.Sink.written c.write.new.self) (concat ls)) (sym whole)
    (front_of _ _ _ inv.0 line rest inv.2 c.in_default.ensures.part)
