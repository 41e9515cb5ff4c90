-- The extent of a text from the counts of its pool's spaces.
-- Assumes nothing.
use Prim.Native.Nat.{ℕ, zero, suc, ◌+◌, ◌-◌, ◌*◌, ◌/◌, ◌%◌, ◌≤◌, ◌<◌, min}
use mathlib.Core.Path.{◌≡◌, refl, sym, ap, ◌∙◌}
use mathlib.Core.List.{List, [], ◌∷◌, ◌++◌}
use native.Mathlib.Omega.{arith}
use lib.ListN.{length, get_or, take, drop, length-append, length-take, length-drop}
use lib.Seq.{take-add}
use Rattle.std.proofs.lemmas.List.{drop_min, take_min}
use Rattle.base.specs.Measure.{spaces}
use Rattle.base.proofs.Measures.{spaces_append}
use Rattle.words.specs.Part.{part}
use Rattle.words.specs.Extents.{counts_from, SpacesCounted, Extends}
use Rattle.words.specs.declared.extents.Extent.{Extent}

counts_length : (k : ℕ) (s : List ℕ) → length (counts_from k s) ≡ length s + 1
unfolding counts_from
counts_length k [] = refl
counts_length k (b ∷ s) = omega (arith, counts_length (k + spaces (b ∷ [])) s)

counts_at : (k : ℕ) (s : List ℕ) (i : ℕ) → i ≤ length s → get_or (counts_from k s) i 0 ≡ k + spaces (take i s)
unfolding counts_from spaces
counts_at k [] zero h = omega arith
counts_at k [] (suc i) h = absurd (omega arith)
counts_at k (b ∷ s) zero h = omega arith
counts_at k (b ∷ s) (suc i) h = omega (arith, counts_at (k + spaces (b ∷ [])) s i (omega arith), spaces_append (b ∷ []) (take i s))

-- the bytes up to a place, and from there to another
between : (pool : List ℕ) (a e : ℕ) → a ≤ e → spaces (take e pool) ≡ spaces (take a pool) + spaces (take (e - a) (drop a pool))
between pool a e h =
    let z : a + (e - a) ≡ e = omega arith in
    ap (λ (n : ℕ). spaces (take n pool)) (sym z) ∙ rw (take-add a (e - a) pool) (spaces_append (take a pool) (take (e - a) (drop a pool)))

module _ {pool : List ℕ} {unspaced : ℕ} {counts : List ℕ} (c : SpacesCounted pool unspaced counts) where
  -- where the pool ends
  pub counted_length : length counts ≡ length pool - unspaced + 1
  counted_length = ap length c.others ∙ counts_length 0 (drop unspaced pool) ∙ rw length-drop refl

  -- no space stands before a place among the first bytes
  pub none_before : (at : ℕ) → at ≤ unspaced → 0 ≡ spaces (take at pool)
  none_before at h = omega (arith, c.none, between pool at unspaced h)

  -- and as many as are counted before another
  pub counted_before : (at : ℕ) → unspaced < at → at < unspaced + length counts → get_or counts (at - unspaced) 0 ≡ spaces (take at pool)
  counted_before at h k =
      let i : at - unspaced ≤ length (drop unspaced pool) = rw length-drop (omega (arith, counted_length)) in
      rw c.others (omega (arith, counts_at 0 (drop unspaced pool) (at - unspaced) i, between pool unspaced at (omega arith), c.none))

  -- the bytes from a place to another, where before stand before the one and all before the other
  pub counted_extent : (x : Extent) (a e before all : ℕ) → a ≤ e → e < unspaced + length counts → before ≡ spaces (take a pool) → all ≡ spaces (take e pool)
      → x.spaces ≡ all - before → x.length ≡ e - a → Extends (take (e - a) (drop a pool)) x
  counted_extent x a e before all h k f g s l = record {
    spaced = omega (arith, between pool a e h);
    sized = rw (length-take (e - a) (drop a pool), length-drop a pool) (omega (arith, counted_length, c.within));
  }

  -- a text among the first bytes; and any other: one that the pool's end cuts off ends there, and one behind the pool is empty
  pub unspaced_extent : (x : Extent) (p : ℕ) → 2 * (p / 40) + p % 40 ≤ unspaced → x.spaces ≡ 0 → x.length ≡ p % 40 → Extends (part pool p) x
  unfolding part
  unspaced_extent x p h s l =
      let e = between pool (2 * (p / 40)) (2 * (p / 40) + p % 40) (omega arith) in
      let n : 2 * (p / 40) + p % 40 - 2 * (p / 40) ≡ p % 40 = omega arith in
      record {
        spaced = omega (arith, rw n at e, none_before (2 * (p / 40) + p % 40) h);
        sized = rw (length-take (p % 40) (drop (2 * (p / 40)) pool), length-drop (2 * (p / 40)) pool) (omega (arith, c.within));
      }

  pub placed_extent : (x : Extent) (p a e : ℕ) → a ≡ min (2 * (p / 40)) e → e ≡ min (2 * (p / 40) + p % 40) (unspaced + (length counts - 1))
      → Extends (take (e - a) (drop a pool)) x → Extends (part pool p) x
  unfolding part
  placed_extent x p a e f g r =
      let d = drop (2 * (p / 40)) pool in
      let l : length d ≡ length pool - 2 * (p / 40) = length-drop (2 * (p / 40)) pool in
      let m : e - a ≡ min (p % 40) (length d) = omega (arith, counted_length, c.within) in
      let b : a ≡ min (2 * (p / 40)) (length pool) = omega (arith, counted_length, c.within) in
      rw (m, b, drop_min (2 * (p / 40)) pool, take_min (p % 40) d) at r

-- two texts, one after the other
pub extends_append : {a b : List ℕ} {x y : Extent} (z : Extent) → Extends a x → Extends b y → z.spaces ≡ x.spaces + y.spaces → z.length ≡ x.length + y.length → Extends (a ++ b) z
extends_append {a} {b} z p q s l = record {
  spaced = omega (arith, p.spaced, q.spaced, spaces_append a b);
  sized = omega (arith, p.sized, q.sized, length-append a b);
}
