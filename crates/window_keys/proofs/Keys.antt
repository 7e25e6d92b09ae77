-- Different counters have different bytes.
use Rattle.std.proofs.Common.{◌≡◌, ℕ, zero, suc, ◌/◌, ◌%◌, ◌^◌, ◌<◌, ◌≤◌, List, [], ◌∷◌, ◌++◌, length, refl, sym, ap, ◌∙◌, append_assoc, arith}
use Rattle.std.proofs.Math.Nat.{pow-suc, div-div-eq-div-mul, div-one}
use Rattle.std.specs.Int.{w16, w64, byte_at, bytes_high_first, to_be_bytes}
use Rattle.std.specs.List.{flat_map}
use Rattle.rate_types.specs.declared.unit.Unit.{Unit}
use Rattle.rate_types.specs.declared.entries.Entry.{Entry}
use Rattle.rate_types.specs.Units.{unit_rank}
use Rattle.window_keys.specs.Key.{eight_bytes, sized, entry_bytes, key_bytes}
use Rattle.window_keys.proofs.Counters.{same_unit}

-- lists of one length, each before more
same_front : (xs ys more rest : List ℕ) → length xs ≡ length ys → xs ++ more ≡ ys ++ rest → (xs ≡ ys) × (more ≡ rest)
same_front [] [] more rest long same = (refl, same)
same_front [] (y ∷ ys) more rest long same = absurd (omega (arith, long))
same_front (x ∷ xs) [] more rest long same = absurd (omega (arith, long))
same_front (x ∷ xs) (y ∷ ys) more rest long same =
    let tails : xs ++ more ≡ ys ++ rest = cc in
    let heads : x ≡ y = cc in
    let short : length xs ≡ length ys = omega (arith, long) in
    let both = same_front xs ys more rest short tails in
    let front : xs ≡ ys = both.0 in
    (cc, both.1)

-- a text behind its length
same_sized : (a b more rest : List ℕ) → sized a ++ more ≡ sized b ++ rest → (a ≡ b) × (more ≡ rest)
unfolding sized
same_sized a b more rest same =
    let high : length a / 256 ≡ length b / 256 = cc in
    let low : length a % 256 ≡ length b % 256 = cc in
    let tails : a ++ more ≡ b ++ rest = cc in
    same_front a b more rest (omega (arith, high, low)) tails

-- a number in eight bytes
same_number : (s t : ℕ) (more rest : List ℕ) → eight_bytes s ++ more ≡ eight_bytes t ++ rest → (s ≡ t) × (more ≡ rest)
same_number s t more rest same =
    let tails : bytes_high_first 7 s ++ more ≡ bytes_high_first 7 t ++ rest = cc in
    let heads : s / 256 ^ 7 ≡ t / 256 ^ 7 = cc in
    let both = same_front (bytes_high_first 7 s) (bytes_high_first 7 t) more rest refl tails in
    (same_bytes 7 s t heads both.0, both.1)
  where
    above : (k n : ℕ) → n / 256 ^ suc k ≡ n / 256 ^ k / 256
    above k n = ap (λ (m : ℕ). n / m) (pow-suc 256 k) ∙ sym (div-div-eq-div-mul n (256 ^ k) 256)

    byte_is : (k n : ℕ) → byte_at k n ≡ n / 256 ^ k % 256
    byte_is zero n = ap (λ (m : ℕ). m % 256) (sym (div-one n))
    byte_is (suc k) n = refl

    same_bytes : (k s t : ℕ) → s / 256 ^ k ≡ t / 256 ^ k → bytes_high_first k s ≡ bytes_high_first k t → s ≡ t
    same_bytes zero s t heads tails = sym (div-one s) ∙ heads ∙ div-one t
    same_bytes (suc k) s t heads tails =
        let bytes : byte_at k s ≡ byte_at k t = cc in
        let more : bytes_high_first k s ≡ bytes_high_first k t = cc in
        let low : s / 256 ^ k % 256 ≡ t / 256 ^ k % 256 = sym (byte_is k s) ∙ bytes ∙ byte_is k t in
        let high : s / 256 ^ k / 256 ≡ t / 256 ^ k / 256 = sym (above k s) ∙ heads ∙ above k t in
        same_bytes k s t (omega (arith, low, high)) more

same_entries : (es gs : List Entry) → length es ≡ length gs → flat_map entry_bytes es ≡ flat_map entry_bytes gs → es ≡ gs
same_entries [] [] long same = refl
same_entries [] (g ∷ gs) long same = absurd (omega (arith, long))
same_entries (e ∷ es) [] long same = absurd (omega (arith, long))
same_entries (e ∷ es) (g ∷ gs) long same =
    let grouped : sized e.key ++ (sized e.value ++ flat_map entry_bytes es) ≡ sized g.key ++ (sized g.value ++ flat_map entry_bytes gs) =
    sym (append_assoc (sized e.key) (sized e.value) (flat_map entry_bytes es)) ∙ same ∙ append_assoc (sized g.key) (sized g.value) (flat_map entry_bytes gs) in
    let keys = same_sized e.key g.key (sized e.value ++ flat_map entry_bytes es) (sized g.value ++ flat_map entry_bytes gs) grouped in
    let values = same_sized e.value g.value (flat_map entry_bytes es) (flat_map entry_bytes gs) keys.1 in
    let more : es ≡ gs = same_entries es gs (omega (arith, long)) values.1 in
    λ i. record { key = keys.0 i; value = values.0 i } ∷ more i

-- the bytes tell the domain, the entries, the unit and the start
pub same_key : (d e : List ℕ) (es gs : List Entry) (u v : Unit) (s t : ℕ) → key_bytes d es u s ≡ key_bytes e gs v t → (d ≡ e) × (es ≡ gs) × (u ≡ v) × (s ≡ t)
unfolding key_bytes
same_key d e es gs u v s t same =
    let domains = same_sized d e (unit_rank u ∷ (eight_bytes s ++ (length es ∷ flat_map entry_bytes es))) (unit_rank v ∷ (eight_bytes t ++ (length gs ∷ flat_map entry_bytes gs)))
    same in
    let rest : unit_rank u ∷ (eight_bytes s ++ (length es ∷ flat_map entry_bytes es)) ≡ unit_rank v ∷ (eight_bytes t ++ (length gs ∷ flat_map entry_bytes gs)) = domains.1 in
    let ranks : unit_rank u ≡ unit_rank v = cc in
    let behind : eight_bytes s ++ (length es ∷ flat_map entry_bytes es) ≡ eight_bytes t ++ (length gs ∷ flat_map entry_bytes gs) = cc in
    let starts = same_number s t (length es ∷ flat_map entry_bytes es) (length gs ∷ flat_map entry_bytes gs) behind in
    let last : length es ∷ flat_map entry_bytes es ≡ length gs ∷ flat_map entry_bytes gs = starts.1 in
    let lengths : length es ≡ length gs = cc in
    let bytes : flat_map entry_bytes es ≡ flat_map entry_bytes gs = cc in
    (domains.0, same_entries es gs lengths bytes, same_unit u v ranks, starts.0)

-- the parts one after the other, as they are written
pub spelled : (d : List ℕ) (es : List Entry) (u : Unit) (s : ℕ) → s < 2 ^ 64
    → ((((sized d ++ unit_rank u ∷ []) ++ to_be_bytes w64 s) ++ length es ∷ []) ++ flat_map entry_bytes es) ≡ key_bytes d es u s
unfolding key_bytes
spelled d es u s small = simp append_assoc (ap (λ (b : ℕ). sized d ++ (unit_rank u ∷ b ∷ (bytes_high_first 7 s ++ (length es ∷ flat_map entry_bytes es)))) top)
  where
    top : byte_at 7 s ≡ s / 256 ^ 7
    top = omega (arith, small)

-- a text after its length, as they are written
pub sized_behind : (front text : List ℕ) → length text ≤ 1024 → (front ++ to_be_bytes w16 (length text)) ++ text ≡ front ++ sized text
unfolding sized
sized_behind front text short = simp append_assoc (ap (λ (b : ℕ). front ++ (b ∷ (length text % 256) ∷ text)) top)
  where
    top : byte_at 1 (length text) ≡ length text / 256
    top = omega (arith, short)
