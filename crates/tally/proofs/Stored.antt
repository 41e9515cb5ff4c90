-- What a tally's bytes are once a place is stored in them, and those of an empty tally.
-- Assumes nothing.
use Prim.Native.Nat.{ℕ, suc, ◌+◌, ◌*◌, ◌/◌, ◌%◌, ◌<◌, ◌≤◌}
use mathlib.Core.Path.{◌≡◌, sym, ap, ◌∙◌}
use mathlib.Core.List.{List, ◌∷◌, ◌++◌, append_assoc}
use native.Mathlib.Omega.{arith}
use lib.ListN.{length, get_or, take, drop, set, length-append, length-drop, length-set, take-append-drop}
use lib.Seq.{length-take-le, drop-drop}
use Rattle.base.specs.Buffer.{over}
use Rattle.base.specs.Bytes.{low_bytes, Bytes}
use Rattle.base.specs.Utf8.{utf8}
use Rattle.base.proofs.Numbers.{bytes_drop}
use Rattle.uk_money.specs.Rows.{currency_at, code_place}
use Rattle.tally.specs.Tally.{empty_tally}
use Rattle.tally.specs.Layout.{place_bytes, places_bytes, places_in, tally_bytes}
use Rattle.tally.specs.declared.Place.{Place}
use Rattle.tally.proofs.Laid.{bytes_length, placed_bytes}
use Rattle.tally.proofs.Places.{places_length}
use Rattle.tally.proofs.Numbered.{place_of_code}

-- a tally's first five bytes with these item numbers given, and those before the i-th place
abbrev pub head : List ℕ → ℕ → List ℕ
head xs given = get_or xs 0 0 ∷ low_bytes 4 given

abbrev pub before : List ℕ → ℕ → ℕ → List ℕ
before xs given i = head xs given ++ take (i * 13) (drop 5 xs)

module _ (xs : List ℕ) (given i : ℕ) (l : 837 ≤ length xs) (h : i < 64) where
  -- how many these are
  pub before_length : length (before xs given i) ≡ 5 + i * 13
  before_length = length-append (head xs given) (take (i * 13) (drop 5 xs)) ∙ ap (λ (n : ℕ). 5 + n) (length-take-le (i * 13) (drop 5 xs) (rw length-drop (omega arith)))

  -- with the first five bytes written, those before the i-th place are
  pub before_over : over xs (head xs given) ≡ over xs (before xs given i)
  before_over =
      ap (λ (t : List ℕ). head xs given ++ t) (sym (take-append-drop (i * 13) (drop 5 xs)) ∙ ap (λ (t : List ℕ). take (i * 13) (drop 5 xs) ++ t) (drop-drop (i * 13) 5 xs))
      ∙ sym (append_assoc (head xs given) (take (i * 13) (drop 5 xs)) (drop (5 + i * 13) xs))
      ∙ ap (λ (n : ℕ). before xs given i ++ drop n xs) (sym before_length)

  -- with the i-th place written after them, the bytes are those of the tally with that place set
  pub stored : (q : Place) → Bytes xs →
      over xs (before xs given i ++ place_bytes q) ≡ over xs (head xs given ++ places_bytes (set (places_in 64 (drop 5 xs)) i q))
  stored q y =
      let d : List ℕ = drop 5 xs in
      let t : List ℕ = places_bytes (set (places_in 64 d) i q) in
      let c : i * 13 ≡ 13 * i = omega arith in
      let p = placed_bytes i 64 q d (bytes_drop 5 xs y) h (rw length-drop (omega arith)) in
      let m : length (before xs given i ++ place_bytes q) ≡ 5 + (13 * i + 13) = length-append (before xs given i) (place_bytes q) ∙ omega (arith, before_length) in
      let n : length (head xs given ++ t) ≡ 5 + 832 =
      length-append (head xs given) t ∙ ap (λ (n : ℕ). 5 + n) (bytes_length (set (places_in 64 d) i q) ∙ ap (λ (n : ℕ). 13 * n) (length-set (places_in 64 d) i q ∙ places_length 64 d)) in
      ap (λ (n : ℕ). (before xs given i ++ place_bytes q) ++ drop n xs) m
      ∙ append_assoc (before xs given i) (place_bytes q) (drop (5 + (13 * i + 13)) xs)
      ∙ append_assoc (head xs given) (take (i * 13) d) (place_bytes q ++ drop (5 + (13 * i + 13)) xs)
      ∙ ap (λ (t : List ℕ). head xs given ++ t) (rw (c, ← drop-drop (13 * i + 13) 5 xs) (sym p) ∙ ap (λ (r : List ℕ). t ++ r) (drop-drop 832 5 xs))
      ∙ sym (append_assoc (head xs given) t (drop 837 xs))
      ∙ ap (λ (n : ℕ). (head xs given ++ t) ++ drop n xs) (sym n)

-- an empty tally's bytes are those of its currency's number
pub empty_bytes_lem : (k : ℕ) → k < 44 → low_bytes 837 (k + 1) ≡ tally_bytes (empty_tally (currency_at k))
empty_bytes_lem k h =
    let z : (k + 1) / 256 ≡ 0 = omega arith in
    let s : k + 1 ≡ suc (code_place (utf8 (currency_at k).code)) = omega (arith, place_of_code k h) in
    ap (λ (m : ℕ). ((k + 1) % 256) ∷ low_bytes 836 m) z ∙ ap (λ (m : ℕ). (m % 256) ∷ low_bytes 836 0) s
