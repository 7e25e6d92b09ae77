-- Inside: what is hashed of a key.
use Rattle.std.proofs.Common.{◌≡◌, ℕ, List, [], ◌∷◌, ap}
use Rattle.std.specs.Bool.{IsTrue}
use Rattle.std.specs.Hash.{HashWrites}
use Rattle.std.specs.Cmp.Lexicographic.{bytes_decides, nat_list_eq_equiv}
use Rattle.over_cache.specs.Entries.{is_key}

-- the bytes of a key are hashed as they are
abbrev pub key_writes : List ℕ → HashWrites
key_writes key = key ∷ []

module _ {A B : Type 0} (f : A → List ℕ) (g : B → List ℕ) where
  -- equal bytes make the same writes
  pub same_writes : (x : A) (y : B) → IsTrue (is_key (f x) (g y)) → key_writes (f x) ≡ key_writes (g y)
  same_writes x y e = ap key_writes ((bytes_decides (f x) (g y)).0 e)

  -- bytes that a key has are those of the keys that are equal to it
  pub same_each : (q : A) (x y : B) → IsTrue (is_key (f q) (g x)) → is_key (f q) (g y) ≡ is_key (g x) (g y)
  same_each q x y e = nat_list_eq_equiv.congr (f q) (g x) (g y) e
