-- Laws of a turn: what eight bytes looked at as one number show.
-- Assumes nothing.
use Prim.Native.Nat.{ℕ, zero, suc, ◌+◌, ◌-◌, ◌*◌, ◌/◌, ◌%◌, ◌^◌, ◌<◌, ◌≤◌}
use mathlib.Core.Path.{◌≡◌, refl, sym, ap, ap₂, ◌∙◌}
use mathlib.Core.Bool.{Bool, true, false, cond}
use mathlib.Core.List.{List, [], ◌∷◌}
use native.Mathlib.Omega.{arith}
use native.Mathlib.Nat.{mul_assoc, zero-add, add-mul-mod_self_left, mod-lt}
use borrow.Author.Tests.{eqb-true, ltb-true, ltb-false}
use lib.Bits.{bit_and, bit_or, or_block, and_block, or_lt, and_le_r, and_zero_r}
use lib.Count.{count_trailing_zeros}
use lib.Dec.{eqb, ltb}
use lib.ListN.{length, take, drop, length-drop, drop_of_length-le}
use lib.Pow.{pow_pos, pow_mono, pow-add, mod-pow-add, shl_exact}
use lib.Seq.{drop-drop, take_all}
use Rattle.base.specs.Bytes.{num, Bytes}
use Rattle.base.proofs.Numbers.{bytes_drop}
use Rattle.tables.proofs.Tests.{all_at}
use Rattle.tokens.specs.Tokens.{is_gap, first_word, after_word, full_key, key, Begun, Took}
use Rattle.tokens.specs.Turns.{lows, letters, last_key, Ends}

-- a gap is found
abbrev mask : ℕ → ℕ
mask zero = 0
mask (suc n) = mask n * 256 + 64

abbrev twos : ℕ → ℕ
twos zero = 0
twos (suc n) = twos n * 256 + 2

-- a number in whose bytes 64 stands where w has no gap
abbrev lit : ℕ → ℕ → ℕ
lit n w = bit_or (bit_or w (w / 2)) (bit_and w (twos n) * 32)

abbrev lit_byte : ℕ → ℕ → ℕ
lit_byte b c = bit_or (bit_or b (c * 128 + b / 2)) (bit_and b 2 * 32)

shows : (b c : ℕ) → b < 256 → c < 2 → bit_and (lit_byte b c) 64 ≡ cond (is_gap b) 0 64
shows b c h l =
    let t = all_at 0 512 (λ (x : ℕ). eqb (bit_and (lit_byte (x / 2) (x % 2)) 64) (cond (is_gap (x / 2)) 0 64)) refl (b * 2 + c) (omega arith) (omega arith) in
    let x : (b * 2 + c) / 2 ≡ b = omega arith in
    let y : (b * 2 + c) % 2 ≡ c = omega arith in
    eqb-true _ _ (rw (x, y) at t)

seen : (n w : ℕ) → bit_and (lit (suc n) w) (mask (suc n)) ≡ bit_and (lit n (w / 256)) (mask n) * 256 + cond (is_gap (w % 256)) 0 64
seen n w =
    let v = w / 256 in
    let b = w % 256 in
    let r = v % 2 * 128 + b / 2 in
    let x : w ≡ v * 256 + b = omega arith in
    let y : w / 2 ≡ v / 2 * 256 + r = omega arith in
    let o : bit_or w (w / 2) ≡ bit_or v (v / 2) * 256 + bit_or b r = ap₂ bit_or x y ∙ or_block 8 v (v / 2) b r (omega arith) (omega arith) in
    let a : bit_and w (twos (suc n)) ≡ bit_and v (twos n) * 256 + bit_and b 2 = ap (λ (t : ℕ). bit_and t (twos (suc n))) x ∙ and_block 8 v (twos n) b 2 (omega arith) (omega arith) in
    let m : bit_and w (twos (suc n)) * 32 ≡ bit_and v (twos n) * 32 * 256 + bit_and b 2 * 32 = omega (arith, a) in
    let i : bit_or b r < 256 = or_lt 8 b r (omega arith) (omega arith) in
    let j : bit_and b 2 * 32 < 256 = omega (arith, and_le_r b 2) in
    let f : lit (suc n) w ≡ lit n v * 256 + lit_byte b (v % 2) = ap₂ bit_or o m ∙ or_block 8 (bit_or v (v / 2)) (bit_and v (twos n) * 32) (bit_or b r) (bit_and b 2 * 32) i j in
    ap (λ (t : ℕ). bit_and t (mask n * 256 + 64)) f ∙ and_block 8 (lit n v) (mask n) (lit_byte b (v % 2)) 64 (or_lt 8 (bit_or b r) (bit_and b 2 * 32) i j) (omega arith)
    ∙ ap (λ (t : ℕ). bit_and (lit n v) (mask n) * 256 + t) (shows b (v % 2) (omega arith) (omega arith))

low_is : (n w : ℕ) → mask n - bit_and (lit n w) (mask n) ≡ lows n w
unfolding lows
low_is zero w = rw (and_zero_r (lit 0 w)) refl
low_is (suc n) w = go (is_gap (w % 256)) (seen n w) (low_is n (w / 256))
  where
    v : ℕ
    v = w / 256

    go : (t : Bool) → bit_and (lit (suc n) w) (mask (suc n)) ≡ bit_and (lit n v) (mask n) * 256 + cond t 0 64 → mask n - bit_and (lit n v) (mask n) ≡ lows n v
        → mask (suc n) - bit_and (lit (suc n) w) (mask (suc n)) ≡ lows n v * 256 + cond t 64 0
    go true e r = omega (arith, and_le_r (lit n v) (mask n))
    go false e r = omega (arith, and_le_r (lit n v) (mask n))

pub low_eight : (w : ℕ) → 4629771061636907072 - bit_and (bit_or (bit_or w (w / 2)) (bit_and w 144680345676153346 * 32)) 4629771061636907072 ≡ lows 8 w
low_eight w = low_is 8 w

-- the lowest bit set
even : (k n : ℕ) → count_trailing_zeros (suc k) (n * 2) ≡ suc (count_trailing_zeros k n)
unfolding count_trailing_zeros
even k n =
    let x : n * 2 % 2 ≡ 0 = omega arith in
    let y : n * 2 / 2 ≡ n = omega arith in
    rw (x, y) refl

odd : (k n : ℕ) → count_trailing_zeros (suc k) (n * 4 + 1) ≡ 0
unfolding count_trailing_zeros
odd k n = let x : (n * 4 + 1) % 2 ≡ 1 = omega arith in rw x refl

-- eight bits a byte
abbrev bits : ℕ → ℕ
bits zero = zero
bits (suc n) = suc (suc (suc (suc (suc (suc (suc (suc (bits n))))))))

sixth : (k n : ℕ) → count_trailing_zeros (bits (suc k)) (n * 256 + 64) ≡ 6
sixth k n =
    let e : n * 256 + 64 ≡ (n * 4 + 1) * 2 * 2 * 2 * 2 * 2 * 2 = omega arith in
    rw (e, even, even, even, even, even, even, odd) refl

none : (k n : ℕ) → count_trailing_zeros (bits (suc k)) (n * 256 + 0) ≡ suc (suc (suc (suc (suc (suc (suc (suc (count_trailing_zeros (bits k) n))))))))
none k n =
    let e : n * 256 + 0 ≡ n * 2 * 2 * 2 * 2 * 2 * 2 * 2 * 2 = omega arith in
    rw (e, even, even, even, even, even, even, even, even) refl

-- it tells how many letters stand before the first gap
lowest : (n w : ℕ) → (lows n w ≡ 0 → ⊥) → (count_trailing_zeros (bits n) (lows n w) ≡ letters n w * 8 + 6) × (letters n w < n)
unfolding lows letters
lowest zero w e = absurd (e refl)
lowest (suc n) w e = go (is_gap (w % 256)) e (lowest n (w / 256))
  where
    v : ℕ
    v = w / 256

    go : (t : Bool) → (lows n v * 256 + cond t 64 0 ≡ 0 → ⊥) → ((lows n v ≡ 0 → ⊥) → (count_trailing_zeros (bits n) (lows n v) ≡ letters n v * 8 + 6) × (letters n v < n))
        → (count_trailing_zeros (bits (suc n)) (lows n v * 256 + cond t 64 0) ≡ cond t 0 (suc (letters n v)) * 8 + 6) × (cond t 0 (suc (letters n v)) < suc n)
    go true e f = (sixth n (lows n v), omega arith)
    go false e f = let r = f (λ z. e (omega arith)) in (none n (lows n v) ∙ omega (arith, r.0), omega (arith, r.1))

-- and the bytes before it are those below the power of two that the code makes of this bit
pub record Cut (z w : ℕ) : Type 0 where
  pub small : letters 8 w < 8
  pub bit : z ≡ letters 8 w * 8 + 6
  pub power : 1 * 2 ^ (z - 6) % 18446744073709551616 ≡ 2 ^ (letters 8 w * 8)
  pub some : 0 < 2 ^ (letters 8 w * 8)
  pub most : 2 ^ (letters 8 w * 8) ≤ 72057594037927936
  pub below : w % 2 ^ (letters 8 w * 8) < 2 ^ (letters 8 w * 8)

pub cut : (w m : ℕ) → Ends w → m ≡ lows 8 w → Cut (count_trailing_zeros 64 m) w
cut w m e f = rw f (go (count_trailing_zeros 64 (lows 8 w)) r.0)
  where
    r : (count_trailing_zeros 64 (lows 8 w) ≡ letters 8 w * 8 + 6) × (letters 8 w < 8)
    r = lowest 8 w e

    go : (z : ℕ) → z ≡ letters 8 w * 8 + 6 → Cut z w
    go z b =
        let l = r.1 in
        let q : z - 6 ≡ letters 8 w * 8 = omega arith in
        let x : 1 * 2 ^ (z - 6) % 18446744073709551616 ≡ 1 * 2 ^ (z - 6) = shl_exact 1 (z - 6) 64 (omega arith) (omega arith) in
        record {
          small = l;
          bit = b;
          power = x ∙ rw q (omega arith);
          some = pow_pos (letters 8 w * 8);
          most = pow_mono {i = letters 8 w * 8} {j = 56} (omega arith);
          below = mod-lt w (pow_pos (letters 8 w * 8));
        }

-- a byte, and the number of those behind it
low_byte : (b x : ℕ) → b < 256 → ((b + x * 256) % 256 ≡ b) × ((b + x * 256) / 256 ≡ x)
low_byte b x h = (omega arith, omega arith)

rest : (b : ℕ) (x : List ℕ) → Bytes (b ∷ x) → Bytes x
rest b x h i = h (suc i)

-- n letters at the front of a text belong to its first word
over : (n : ℕ) (x : List ℕ) → Bytes x → n ≤ length x → lows n (num (take n x)) ≡ 0
    → (full_key (first_word x) ≡ num (take n x) + 2 ^ (n * 8) * full_key (first_word (drop n x))) × (after_word x ≡ after_word (drop n x))
unfolding lows first_word after_word full_key
over zero x h l e = (omega arith, refl)
over (suc n) [] h l e = absurd (omega arith)
over (suc n) (b ∷ x) h l e =
    let m = low_byte b (num (take n x)) (h 0) in
    go (is_gap b) (rw (m.0, m.1) at e) (over n x (rest b x h) (omega arith))
  where
    go : (t : Bool) → lows n (num (take n x)) * 256 + cond t 64 0 ≡ 0
        → (lows n (num (take n x)) ≡ 0 → (full_key (first_word x) ≡ num (take n x) + 2 ^ (n * 8) * full_key (first_word (drop n x))) × (after_word x ≡ after_word (drop n x)))
        → (full_key (cond t [] (b ∷ first_word x)) ≡ b + num (take n x) * 256 + 2 ^ (suc n * 8) * full_key (first_word (drop n x))) × (cond t x (after_word x) ≡ after_word (drop n x))
    go true e f = absurd (omega arith)
    go false e f =
        let r = f (omega arith) in
        let w = full_key (first_word (drop n x)) in
        let q : suc n * 8 ≡ 8 + n * 8 = omega arith in
        let g : 2 ^ (suc n * 8) * w ≡ 256 * (2 ^ (n * 8) * w) = rw (q, pow-add 2 8 (n * 8)) (mul_assoc 256 (2 ^ (n * 8)) w) in
        (omega (arith, r.0, g), r.1)

-- a gap among the first n, or the end of the text, ends its first word
ended : (n : ℕ) (x : List ℕ) → Bytes x → (lows n (num (take n x)) ≡ 0 → ⊥)
    → (full_key (first_word x) ≡ last_key (letters n (num (take n x))) (num (take n x))) × (after_word x ≡ drop (suc (letters n (num (take n x)))) x) × (letters n (num (take n x)) ≤ length x)
unfolding lows letters first_word after_word full_key
ended zero x h e = absurd (e refl)
ended (suc n) [] h e = (refl, refl, omega arith)
ended (suc n) (b ∷ x) h e =
    let m = low_byte b (num (take n x)) (h 0) in
    rw (m.0, m.1) (go (is_gap b) (rw (m.0, m.1) at e) (ended n x (rest b x h)))
  where
    w : ℕ
    w = num (take n x)

    go : (t : Bool) → (lows n w * 256 + cond t 64 0 ≡ 0 → ⊥)
        → ((lows n w ≡ 0 → ⊥) → (full_key (first_word x) ≡ last_key (letters n w) w) × (after_word x ≡ drop (suc (letters n w)) x) × (letters n w ≤ length x))
        → (full_key (cond t [] (b ∷ first_word x)) ≡ last_key (cond t 0 (suc (letters n w))) (b + w * 256))
        × (cond t x (after_word x) ≡ drop (suc (cond t 0 (suc (letters n w)))) (b ∷ x)) × (cond t 0 (suc (letters n w)) ≤ suc (length x))
    go true e f = (omega arith, refl, omega arith)
    go false e f =
        let r = f (λ z. e (omega arith)) in
        let p = letters n w in
        let q : suc p * 8 ≡ p * 8 + 8 = omega arith in
        let m = low_byte b w (h 0) in
        let g : (b + w * 256) % 2 ^ (p * 8 + 8) ≡ w % 2 ^ (p * 8) * 256 + b = mod-pow-add (b + w * 256) (p * 8) 8 ∙ rw (m.0, m.1) refl in
        let d : 2 ^ (p * 8 + 8) ≡ 2 ^ (p * 8) * 256 = pow-add 2 (p * 8) 8 in
        (rw (q, g, d) (omega (arith, r.0)), r.1, omega (arith, r.2))

-- fewer than n bytes leave a zero among n
short : (n : ℕ) (x : List ℕ) → Bytes x → length x < n → lows n (num x) ≡ 0 → ⊥
unfolding lows
short zero x h l e = omega arith
short (suc n) [] h l e = omega arith
short (suc n) (b ∷ x) h l e = let m = low_byte b (num x) (h 0) in short n x (rest b x h) (omega arith) (go (is_gap b) (rw (m.0, m.1) at e))
  where
    go : (t : Bool) → lows n (num x) * 256 + cond t 64 0 ≡ 0 → lows n (num x) ≡ 0
    go t e = omega arith

num_small : (x : List ℕ) → Bytes x → num x < 2 ^ (length x * 8)
num_small [] h = omega arith
num_small (b ∷ x) h =
    let q : suc (length x) * 8 ≡ length x * 8 + 8 = omega arith in
    let g : 2 ^ (suc (length x) * 8) ≡ 2 ^ (length x * 8) * 256 = rw q (pow-add 2 (length x * 8) 8) in
    omega (arith, g, num_small x (rest b x h), h 0)

-- seven bytes leave room for one more
pub num_room : (s : List ℕ) (j : ℕ) → Bytes s → length s < j + 8 → num (drop j s) < 72057594037927936
num_room s j h l =
    let m : length (drop j s) * 8 ≤ 56 = omega (arith, length-drop j s) in
    omega (arith, num_small (drop j s) (bytes_drop j s h), pow_mono {i = length (drop j s) * 8} {j = 56} m)

-- so many times eight bytes count what they are: 2 ^ 64 is 1 and so many times 823685
apart : (x y a : ℕ) → x ≡ y + 823685 * a → x % 823685 ≡ y % 823685
apart x y a e = ap (λ (n : ℕ). n % 823685) e ∙ add-mul-mod_self_left y 823685 a

counted : (k w v : ℕ) → (k + (w + 18446744073709551616 * v)) % 823685 ≡ ((k + w % 823685) % 823685 + v) % 823685
counted k w v =
    apart (k + (w + 18446744073709551616 * v)) ((k + w % 823685) % 823685 + v) (w / 823685 + (k + w % 823685) / 823685 + 22395386675379 * v) (omega arith)

-- before the first turn
pub begun_none : (s : List ℕ) → Begun s 0 0
unfolding key
begun_none s = (ap (λ (n : ℕ). n % 823685) (sym (zero-add (full_key (first_word s)))), refl)

-- the bytes that are left, where they are fewer than eight
pub left : (s : List ℕ) (i w : ℕ) → length s < i + 8 → w ≡ num (drop i s) → w ≡ num (take 8 (drop i s))
left s i w l e = e ∙ ap num (sym (take_all 8 (drop i s) (omega (arith, length-drop i s))))

pub left_ends : (s : List ℕ) (i w : ℕ) → Bytes s → length s < i + 8 → i ≤ length s → w ≡ num (drop i s) → Ends w
left_ends s i w h l m e z = short 8 (drop i s) (bytes_drop i s h) (omega (arith, length-drop i s)) (rw e at z)

module _ (s : List ℕ) (h : Bytes s) (i k w : ℕ) (b : Begun s i k) (e : w ≡ num (take 8 (drop i s))) where
  here : Bytes (drop i s)
  here = bytes_drop i s h

  -- a turn over eight letters
  pub begun_on : i + 8 ≤ length s → lows 8 w ≡ 0 → Begun s (i + 8) ((k + w % 823685) % 823685)
  begun_on l z =
      let o = over 8 (drop i s) here (omega (arith, length-drop i s)) (rw e at z) in
      let d = drop-drop 8 i s in
      (b.0 ∙ ap (λ (n : ℕ). (k + n) % 823685) (o.0 ∙ rw (sym e, d) refl) ∙ counted k w (full_key (first_word (drop (i + 8) s))), b.1 ∙ o.1 ∙ ap after_word d)

  -- the last turn
  pub within : Ends w → i ≤ length s → i + letters 8 w ≤ length s
  within z l = let o = ended 8 (drop i s) here (rw e at z) in omega (arith, length-drop i s, rw (← e) at o.2)

  pub took : Ends w → i ≤ length s → (r n : ℕ) → r ≡ (k + last_key (letters 8 w) w) % 823685
      → n ≡ cond (ltb (i + letters 8 w) (length s)) (i + letters 8 w + 1) (i + letters 8 w) → Took s r n
  took z l r n f g =
      let o = ended 8 (drop i s) here (rw e at z) in
      let v : full_key (first_word (drop i s)) ≡ last_key (letters 8 w) w = o.0 ∙ rw (sym e) refl in
      let a : after_word s ≡ drop (i + suc (letters 8 w)) s = b.1 ∙ o.1 ∙ rw (sym e) (drop-drop (suc (letters 8 w)) i s) in
      let r = go (ltb (i + letters 8 w) (length s)) refl g (within z l) a in (f ∙ ap (λ (m : ℕ). (k + m) % 823685) (sym v) ∙ sym b.0, r.0, r.1, r.2)
    where
      p : ℕ
      p = letters 8 w

      go : (t : Bool) → ltb (i + p) (length s) ≡ t → n ≡ cond t (i + p + 1) (i + p) → i + p ≤ length s → after_word s ≡ drop (i + suc p) s
          → (drop n s ≡ after_word s) × (n ≤ length s) × (0 < length s → 0 < n)
      go true t g u a =
          let d : n ≡ i + suc p = omega arith in
          (rw d (sym a), omega (arith, ltb-true (i + p) (length s) t), λ _. omega arith)
      go false t g u a =
          let c = ltb-false (i + p) (length s) t in
          (drop_of_length-le s {i = n} (omega arith) ∙ sym (a ∙ drop_of_length-le s {i = i + suc p} (omega arith)), omega arith, λ z. omega arith)
