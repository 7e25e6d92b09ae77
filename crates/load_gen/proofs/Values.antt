-- The values of a load's checks.
use Rattle.std.proofs.Common.{◌≡◌, ℕ, ◌+◌, ◌*◌, ◌/◌, ◌%◌, ◌≤◌, ◌<◌, [], ◌∷◌, length, Ok, refl, sym, ap, ◌∙◌, arith, codes}
use Rattle.std.proofs.lemmas.Fmt.{length-decimal-le}
use Rattle.std.proofs.Math.Nat.{mod-add-div, add-mul-mod_self_left}
use Rattle.rate_types.specs.declared.limits.TheConstants.{LONGEST_TEXT}
use Rattle.rate_types.specs.Entries.{entries_of}
use Rattle.rate_types.specs.Requests.{request_of}
use Rattle.load_gen.specs.Load.{value_text, value_at, entry_for, descriptor_for, request_for}
use Rattle.load_gen.specs.declared.constants.TheConstants.{VALUES, STEP}

-- a value is short as it is written
pub value_short : (value : ℕ) → value < VALUES → length (value_text value) ≤ LONGEST_TEXT
value_short value low = let few = length-decimal-le 2 value (omega arith) (omega arith) (omega arith) in omega (arith, few)

-- the value of an index is that of the rest of the number
pub value_same : (number index : ℕ) → (number % VALUES + STEP * index) % VALUES ≡ value_at number index
value_same number index =
    let e : number + STEP * index ≡ (number % VALUES + STEP * index) + VALUES * (number / VALUES) = omega (arith, mod-add-div number VALUES) in
    sym (ap (λ n. n % VALUES) e ∙ add-mul-mod_self_left (number % VALUES + STEP * index) VALUES (number / VALUES))

-- one entry is a list of entries
pub one_entry : (value : ℕ) → entries_of (entry_for value ∷ []) ≡ Ok (entry_for value ∷ [])
unfolding entries_of
one_entry value = refl

-- one descriptor is a request
pub one_request : (value : ℕ) → request_of (codes "gen") (descriptor_for value ∷ []) 1 ≡ Ok (request_for value)
unfolding request_of
one_request value = refl
