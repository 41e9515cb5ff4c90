-- Laws of bytes read several at a time, as one number.
-- Assumes nothing.
use Prim.Native.Nat.{ℕ, zero, suc, ◌+◌, ◌*◌, ◌/◌, ◌%◌, ◌<◌, ◌≤◌}
use mathlib.Core.Path.{◌≡◌, refl, ap, ◌∙◌}
use mathlib.Core.List.{List, [], ◌∷◌}
use native.Mathlib.Omega.{arith}
use lib.ListN.{length, get_or, take, drop, length-drop}
use lib.Seq.{length-take-le, drop-drop}
use Rattle.std.specs.Int.{from_le_bytes, w64}
use Rattle.std.specs.Simd.{first_chunks}
use Rattle.base.specs.Bytes.{num, low_bytes, Bytes}

-- bytes are told by their number
pub digits_take : (k : ℕ) (t : List ℕ) → Bytes t → k ≤ length t → low_bytes k (num t) ≡ take k t
digits_take zero t b h = refl
digits_take (suc k) [] b h = absurd (omega arith)
digits_take (suc k) (d ∷ t) b h =
    let p : d < 256 = b 0 in
    let m : (d + num t * 256) % 256 ≡ d = omega arith in
    let q : (d + num t * 256) / 256 ≡ num t = omega arith in
    rw (m, q, digits_take k t (λ i. b (suc i)) (omega arith)) refl

pub bytes_take : (n : ℕ) (t : List ℕ) → Bytes t → Bytes (take n t)
bytes_take zero t b i = omega arith
bytes_take (suc n) [] b i = omega arith
bytes_take (suc n) (x ∷ t) b zero = b 0
bytes_take (suc n) (x ∷ t) b (suc i) = bytes_take n t (λ j. b (suc j)) i

pub bytes_drop : (n : ℕ) (t : List ℕ) → Bytes t → Bytes (drop n t)
bytes_drop zero t b i = b i
bytes_drop (suc n) [] b i = omega arith
bytes_drop (suc n) (x ∷ t) b i = bytes_drop n t (λ j. b (suc j)) i

-- a text's bytes eight at a time, and their number
pub eight_at : (k : ℕ) (s : List ℕ) (i : ℕ) (d : List ℕ) → i < k → get_or (first_chunks 8 k s) i d ≡ take 8 (drop (i * 8) s)
eight_at zero s i d h = absurd (omega arith)
eight_at (suc k) s zero d h = refl
eight_at (suc k) s (suc i) d h = eight_at k (drop 8 s) i d (omega arith) ∙ rw (drop-drop (i * 8) 8 s) (ap (λ (n : ℕ). take 8 (drop n s)) (omega arith))

eight_num : (t : List ℕ) → length t ≡ 8 → from_le_bytes w64 t ≡ num t
eight_num (a ∷ b ∷ c ∷ d ∷ e ∷ f ∷ g ∷ x ∷ []) h = omega arith
eight_num [] h = absurd (omega arith)
eight_num (a ∷ []) h = absurd (omega arith)
eight_num (a ∷ b ∷ []) h = absurd (omega arith)
eight_num (a ∷ b ∷ c ∷ []) h = absurd (omega arith)
eight_num (a ∷ b ∷ c ∷ d ∷ []) h = absurd (omega arith)
eight_num (a ∷ b ∷ c ∷ d ∷ e ∷ []) h = absurd (omega arith)
eight_num (a ∷ b ∷ c ∷ d ∷ e ∷ f ∷ []) h = absurd (omega arith)
eight_num (a ∷ b ∷ c ∷ d ∷ e ∷ f ∷ g ∷ []) h = absurd (omega arith)
eight_num (a ∷ b ∷ c ∷ d ∷ e ∷ f ∷ g ∷ x ∷ y ∷ t) h = absurd (omega arith)

pub eight_num_at : (s : List ℕ) (eights : List (List ℕ)) (i w : ℕ) → eights ≡ first_chunks 8 (length s / 8) s → i < length s / 8
    → w ≡ from_le_bytes w64 (get_or eights i []) → w ≡ num (take 8 (drop (i * 8) s))
eight_num_at s eights i w f h e =
    let n : length (take 8 (drop (i * 8) s)) ≡ 8 = length-take-le 8 (drop (i * 8) s) (omega (arith, length-drop (i * 8) s)) in
    e ∙ rw (f, eight_at (length s / 8) s i [] h) (eight_num (take 8 (drop (i * 8) s)) n)
