use Rattle.std.proofs.Common.{◌≡◌, ◌∷◌, position, Some}
use Rattle.json.specs.Run.{is_stop}
use Rattle.request_tokens.proofs.Quoting.{quoted_from}
use Rattle.request_tokens.proofs.cursor.Cursor.take_quoted.Goals as goal

pub returns : goal.returns
returns c =
    let opens : c.args.self.now ≡ 34 ∷ c.self.inside.rest.now = let v = c.self.view_is in let o = c.if-not-takes.ensures in cc in
    let stops : position is_stop c.self.inside.rest.now ≡ Some c.in_ok-end.end =
    let b = c.as_bytes.ensures.value in let e = c.in_ok-end.ensures in cc in
    quoted_from c.args.self.now c.self.inside.rest.now c.split_at.result.0.now c.split_at.result.1.now c.takes-2.new.self c.in_ok-end.end
    opens stops c.split_at.ensures.front c.split_at.ensures.back c.if-not-takes-2.ensures
