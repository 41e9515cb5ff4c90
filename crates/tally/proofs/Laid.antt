-- Laws of a tally's layout: what is read from bytes comes back as those bytes, and what is laid in bytes is read from them.
-- Assumes nothing.
use Prim.Native.Nat.{ℕ, zero, suc, ◌+◌, ◌-◌, ◌*◌, ◌/◌, ◌%◌, ◌^◌, ◌≤◌, ◌<◌}
use mathlib.Core.Path.{◌≡◌, refl, sym, ap, ◌∙◌}
use mathlib.Core.List.{List, [], ◌∷◌, ◌++◌, append_assoc}
use native.Mathlib.Omega.{arith}
use lib.ListN.{length, get_or, take, drop, set, length-drop, take-append-drop}
use lib.Seq.{take-add, take_all, drop-drop, length-take-le, get_or-drop}
use Rattle.base.specs.Bytes.{num, low_bytes, Bytes}
use Rattle.base.proofs.Numbers.{digits_take, bytes_take, bytes_drop}
use Rattle.tally.specs.Layout.{place_bytes, places_bytes, place_in, places_in}
use Rattle.tally.specs.declared.Place.{Place}

-- the lowest k bytes are k
pub low_length : (k n : ℕ) → length (low_bytes k n) ≡ k
low_length zero n = refl
low_length (suc k) n = ap suc (low_length k (n / 256))

-- the first of the lowest bytes that stand last in a list, and those after it
pub low_next : (t : List ℕ) (i m n : ℕ) → drop i t ≡ low_bytes (suc m) n → (get_or t i 0 ≡ n % 256) × (drop (i + 1) t ≡ low_bytes m (n / 256))
low_next t i m n e =
    let z : i + 0 ≡ i = omega arith in
    (ap (λ (j : ℕ). get_or t j 0) (sym z) ∙ sym (get_or-drop i t 0 0) ∙ ap (λ (l : List ℕ). get_or l 0 0) e, sym (drop-drop 1 i t) ∙ ap (drop 1) e)

-- 13 bytes for each place
pub bytes_length : (ps : List Place) → length (places_bytes ps) ≡ 13 * length ps
bytes_length [] = refl
bytes_length (p ∷ ps) = omega (arith, bytes_length ps)

-- the number of the bytes of a number that fits in them
pub num_low : (k n : ℕ) → n < 256 ^ k → num (low_bytes k n) ≡ n
num_low zero n h = omega arith
num_low (suc k) n h =
    let d : n / 256 < 256 ^ k = omega arith in
    rw (num_low k (n / 256) d) (omega arith)

-- the bytes of a number that is read from bytes
part_back : (k at : ℕ) (b : List ℕ) → Bytes b → at + k ≤ length b → low_bytes k (num (take k (drop at b))) ≡ take k (drop at b)
part_back k at b y h =
    let t : List ℕ = take k (drop at b) in
    let l : length t ≡ k = length-take-le k (drop at b) (rw length-drop (omega arith)) in
    digits_take k t (bytes_take k (drop at b) (bytes_drop at b y)) (omega arith) ∙ take_all k t (omega arith)

-- the bytes of a place that is read from bytes
pub place_back : (b : List ℕ) → Bytes b → 13 ≤ length b → place_bytes (place_in b) ≡ take 13 b
place_back b y h =
    ap (λ (l : List ℕ). l ++ (low_bytes 8 (num (take 8 (drop 4 b))) ++ low_bytes 1 (num (take 1 (drop 12 b))))) (part_back 4 0 b y (omega arith))
    ∙ ap (λ (l : List ℕ). take 4 b ++ (l ++ low_bytes 1 (num (take 1 (drop 12 b))))) (part_back 8 4 b y (omega arith))
    ∙ ap (λ (l : List ℕ). take 4 b ++ (take 8 (drop 4 b) ++ l)) (part_back 1 12 b y (omega arith))
    ∙ sym (take-add 4 9 b ∙ ap (λ (l : List ℕ). take 4 b ++ l) (take-add 8 1 (drop 4 b) ∙ ap (λ (l : List ℕ). take 8 (drop 4 b) ++ take 1 l) (drop-drop 8 4 b)))

-- the bytes of places that are read from bytes
pub places_back : (k : ℕ) (b : List ℕ) → Bytes b → 13 * k ≤ length b → places_bytes (places_in k b) ≡ take (13 * k) b
unfolding places_in
places_back zero b y h = refl
places_back (suc k) b y h =
    let e : 13 * suc k ≡ 13 + 13 * k = omega arith in
    let p = place_back b y (omega arith) in
    let q = places_back k (drop 13 b) (bytes_drop 13 b y) (rw length-drop (omega arith)) in
    ap (λ (l : List ℕ). l ++ places_bytes (places_in k (drop 13 b))) p ∙ ap (λ (l : List ℕ). take 13 b ++ l) q ∙ sym (ap (λ (n : ℕ). take n b) e ∙ take-add 13 (13 * k) b)

-- with one place set among those that are read from bytes, 13 of the bytes are other ones
pub placed_bytes : (i k : ℕ) (q : Place) (b : List ℕ) → Bytes b → i < k → 13 * k ≤ length b →
    places_bytes (set (places_in k b) i q) ++ drop (13 * k) b ≡ take (13 * i) b ++ (place_bytes q ++ drop (13 * i + 13) b)
unfolding places_in
placed_bytes i zero q b y h l = absurd (omega arith)
placed_bytes zero (suc k) q b y h l =
    let e : 13 * suc k ≡ 13 + 13 * k = omega arith in
    let p = places_back k (drop 13 b) (bytes_drop 13 b y) (rw length-drop (omega arith)) in
    append_assoc (place_bytes q) (places_bytes (places_in k (drop 13 b))) (drop (13 * suc k) b)
    ∙ ap (λ (l : List ℕ). place_bytes q ++ l) (rw (p, e, ← drop-drop (13 * k) 13 b) (take-append-drop (13 * k) (drop 13 b)))
placed_bytes (suc i) (suc k) q b y h l =
    let e : 13 * suc k ≡ 13 + 13 * k = omega arith in
    let f : 13 * suc i ≡ 13 + 13 * i = omega arith in
    let g : 13 * suc i + 13 ≡ 13 + (13 * i + 13) = omega arith in
    let r = placed_bytes i k q (drop 13 b) (bytes_drop 13 b y) (omega arith) (rw length-drop (omega arith)) in
    let t : List ℕ = places_bytes (set (places_in k (drop 13 b)) i q) in
    append_assoc (place_bytes (place_in b)) t (drop (13 * suc k) b)
    ∙ ap (λ (l : List ℕ). l ++ (t ++ drop (13 * suc k) b)) (place_back b y (omega arith))
    ∙ ap (λ (l : List ℕ). take 13 b ++ l) (rw (e, ← drop-drop (13 * k) 13 b) r)
    ∙ sym (append_assoc (take 13 b) (take (13 * i) (drop 13 b)) (place_bytes q ++ drop (13 * i + 13) (drop 13 b)))
    ∙ rw (g, f, take-add 13 (13 * i) b, drop-drop (13 * i + 13) 13 b) refl

-- the numbers of each place fit in their bytes
abbrev pub Ranged : List Place → Type 0
Ranged [] = Unit
Ranged (p ∷ ps) = (p.item < 256 ^ 4) × (p.whole < 256 ^ 8) × (p.hundredths < 256) × Ranged ps

-- a place that lies in bytes is read from them, and so are places
place_read_lem : (p : Place) (rest : List ℕ) → p.item < 256 ^ 4 → p.whole < 256 ^ 8 → p.hundredths < 256 → place_in (place_bytes p ++ rest) ≡ p
place_read_lem p rest i w h =
    ap (λ (x : ℕ). record { item = x; whole = num (low_bytes 8 p.whole); hundredths = num (low_bytes 1 p.hundredths) }) (num_low 4 p.item i)
    ∙ ap (λ (x : ℕ). record { item = p.item; whole = x; hundredths = num (low_bytes 1 p.hundredths) }) (num_low 8 p.whole w)
    ∙ ap (λ (x : ℕ). record { item = p.item; whole = p.whole; hundredths = x }) (num_low 1 p.hundredths h)

pub places_read : (ps : List Place) (rest : List ℕ) → Ranged ps → places_in (length ps) (places_bytes ps ++ rest) ≡ ps
unfolding places_in
places_read [] rest r = refl
places_read (p ∷ ps) rest r =
    ap (λ (q : Place). q ∷ places_in (length ps) (places_bytes ps ++ rest)) (place_read_lem p (places_bytes ps ++ rest) r.0 r.1 r.2)
    ∙ ap (λ (l : List Place). p ∷ l) (places_read ps rest r.3)
