-- Statuses and their counts are found again in what a record shows of them.
use Rattle.std.proofs.Common.{◌≡◌, ℕ, ◌^◌, ◌<◌, ◌==◌, List, [], ◌∷◌, map, Bool, true, false, Option, Some, None, refl, sym, ap, ap₂, ◌∙◌}
use Rattle.std.proofs.lemmas.Bool.{eqb-true}
use Rattle.std.specs.Prelude.{codes}
use Rattle.std.specs.List.{AllByRecursion}
use Rattle.serde_json.specs.Data.{string, object, no_members, member}
use Rattle.rate_types.specs.declared.unit.Unit.{Unit}
use Rattle.rate_types.specs.declared.unit.Unit.TheVariants.{Second, Minute, Hour, Day}
use Rattle.rate_types.specs.declared.request.OwnLimit.{OwnLimit}
use Rattle.rate_types.specs.UnitNames.{unit_name}
use Rattle.rls_core.specs.declared.status.Code.{Code}
use Rattle.rls_core.specs.declared.status.Code.TheVariants.{OverLimit}
use Rattle.rls_core.specs.declared.status.Code.TheVariants as code
use Rattle.rls_core.specs.declared.status.Count.{Count}
use Rattle.rls_core.specs.declared.status.Count.TheVariants.{NoCount, Before, Seen}
use Rattle.rls_core.specs.declared.status.Status.{Status}
use Rattle.reply_text.specs.Texts.{whole, member_unless, code_name, limit_data, limit_members, status_data, count_data}
use Rattle.run_text.specs.Found.{code_of, unit_of, limit_of, count_in, status_in, statuses_in}
use Rattle.run_text.specs.Said.{IsSaidCount, IsSaidLimit, IsSaidStatus}
use Rattle.run_text.proofs.Numbers.{whole_back, u32_back, seconds_back}

code_back : (c : Code) → code_of (code_name c) ≡ c
code_back code.Ok = refl
code_back OverLimit = refl

pub unit_back : (u : Unit) → unit_of (unit_name u) ≡ u
unit_back Second = refl
unit_back Minute = refl
unit_back Hour = refl
unit_back Day = refl

count_back : (c : Count) → IsSaidCount c → count_in (count_data c) ≡ c
count_back NoCount h = refl
count_back (Before before) h = ap Before (whole_back before h)
count_back (Seen seen) h = ap Seen (whole_back seen h)

same_limit : (a b : ℕ) (u v : Unit) → a ≡ b → u ≡ v
    → (let x : Option OwnLimit = Some (record { limit = a; unit = u }) in x) ≡ (let x : Option OwnLimit = Some (record { limit = b; unit = v }) in x)
same_limit a b u v e f = ap₂ (λ (m : ℕ) (w : Unit). let x : Option OwnLimit = Some (record { limit = m; unit = w }) in x) e f

limit_by : (b : Bool) (n : ℕ) (u : Unit) → (b ≡ true → n ≡ 0) → n < 2 ^ 32
    → limit_of (Some (object (member_unless b (codes "requestsPerUnit") (whole n) (member (codes "unit") (string (unit_name u)) no_members))))
    ≡ Some (record { limit = n; unit = u })
limit_by true n u none h = same_limit 0 n (unit_of (unit_name u)) u (sym (none refl)) (unit_back u)
limit_by false n u none h = same_limit _ n (unit_of (unit_name u)) u (u32_back n h) (unit_back u)

limit_back : (own : OwnLimit) → own.limit < 2 ^ 32 → limit_of (Some (limit_data own)) ≡ Some own
limit_back own h = limit_by (own.limit == 0) own.limit own.unit (eqb-true own.limit 0) h

same_status : (c d : Code) (l k : Option OwnLimit) (m n : ℕ) (r s : ℕ) (x y : Count) → c ≡ d → l ≡ k → m ≡ n → r ≡ s → x ≡ y
    → (let a : Status = record { code = c; limit = l; remaining = m; reset = r; rule = None; count = x } in a)
    ≡ (let a : Status = record { code = d; limit = k; remaining = n; reset = s; rule = None; count = y } in a)
same_status c d l k m n r s x y e f g h i = rw (e, f, g, h, i) refl

status_by : (c : Code) (l : Option OwnLimit) (m r : ℕ) (x : Count) (b : Bool) → (b ≡ true → m ≡ 0) → m < 2 ^ 32 → IsSaidLimit l r
    → IsSaidCount x
    → status_in (count_data x) (object (member (codes "code") (string (code_name c)) (limit_members l r
    (member_unless b (codes "limitRemaining") (whole m) no_members))))
    ≡ (let a : Status = record { code = c; limit = l; remaining = m; reset = r; rule = None; count = x } in a)
unfolding status_in
status_by c None m r x true none few limit count =
    same_status _ c None None 0 m 0 r _ x (code_back c) refl (sym (none refl)) (sym limit) (count_back x count)
status_by c None m r x false none few limit count =
    same_status _ c None None _ m 0 r _ x (code_back c) refl (u32_back m few) (sym limit) (count_back x count)
status_by c (Some own) m r x true none few limit count =
    same_status _ c _ (Some own) 0 m _ r _ x (code_back c) (limit_back own limit.0) (sym (none refl)) (seconds_back r limit.1)
    (count_back x count)
status_by c (Some own) m r x false none few limit count =
    same_status _ c _ (Some own) _ m _ r _ x (code_back c) (limit_back own limit.0) (u32_back m few) (seconds_back r limit.1)
    (count_back x count)

with_rule : (s : Status) → s.rule ≡ None
    → (let a : Status = record { code = s.code; limit = s.limit; remaining = s.remaining; reset = s.reset; rule = None; count = s.count } in a) ≡ s
with_rule s e = ap (λ r. let a : Status = record { code = s.code; limit = s.limit; remaining = s.remaining; reset = s.reset; rule = r; count = s.count } in a) (sym e)

pub status_back : (s : Status) → IsSaidStatus s → status_in (count_data s.count) (status_data s) ≡ s
unfolding status_data
status_back s h =
    status_by s.code s.limit s.remaining s.reset s.count (s.remaining == 0) (eqb-true s.remaining 0) h.remaining h.limit h.count
    ∙ with_rule s h.no_rule

pub statuses_back : (ss : List Status) → AllByRecursion IsSaidStatus ss
    → statuses_in (map (λ s. count_data s.count) ss) (map status_data ss) ≡ ss
statuses_back [] h = refl
statuses_back (s ∷ ss) h = ap₂ (λ (x : Status) (xs : List Status). x ∷ xs) (status_back s h.0) (statuses_back ss h.1)
