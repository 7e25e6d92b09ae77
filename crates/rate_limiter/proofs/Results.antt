-- What holds of a result by its variant.
use Rattle.std.proofs.Common.{◌≡◌, true≢false, sym, subst}
use Rattle.std.specs.Prelude.{Result, Ok, Err, IsOk, OnOk, OnErr, IfErr}

module _ {A E : Type 0} where
  pub ok_of : {P : Type 0} (r : Result A E) (x : A) → r ≡ Ok x → OnOk r P → P
  ok_of {P} r x is h = subst (λ (s : Result A E). OnOk s P) is h

  pub err_of : (P : E → Type 0) (r : Result A E) (e : E) → r ≡ Err e → IfErr r P → P e
  err_of P r e is h = subst (λ (s : Result A E). IfErr s P) is h

  pub ok_map : {P Q : Type 0} (r : Result A E) → (P → Q) → OnOk r P → OnOk r Q
  ok_map (Ok x) f p = f p
  ok_map (Err e) f p = tt

  pub ok_both : {P Q R : Type 0} (r : Result A E) → (P → Q → R) → OnOk r P → OnOk r Q → OnOk r R
  ok_both (Ok x) f p q = f p q
  ok_both (Err e) f p q = tt

  pub err_both : (P R : E → Type 0) {Q : Type 0} (r : Result A E) → ((e : E) → P e → Q → R e) → IfErr r P → OnErr r Q → IfErr r R
  err_both P R (Ok x) f p q = tt
  err_both P R (Err e) f p q = f e p q

  pub not_both : (r : Result A E) (e : E) → r ≡ Err e → IsOk r → ⊥
  not_both r e is ok = true≢false (sym (subst (λ (s : Result A E). IsOk s) is ok))
