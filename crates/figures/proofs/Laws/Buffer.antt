-- Lent buffers, and answers written to them.
-- Assumes nothing.
use Rattle.std.proofs.Common.{◌≡◌, ℕ, ◌+◌, ◌-◌, ◌<◌, ◌≤◌, List, ◌++◌, length, get_or, take, drop, set, append_assoc, append-nil, zero-add, add-one, arith, length-append, length-drop, drop_of_length-le, take_all, drop-drop, le-ltb, lt-ltb}
use lib.Seq.{paste-suc, take-append_seam, drop-append_seam}
use borrow.Rule.Slice.PartMut.{put_mid}
use Rattle.base.specs.Answer.{fitted, Answers}
use Rattle.base.specs.Buffer.{over}
use Rattle.base.specs.declared.Answer.{Answer}

-- `&s[k..]` is what is left of s after k elements
pub tail_of : (s : List ℕ) (k : ℕ) → take (length s - k) (drop k s) ≡ drop k s
tail_of s k = take_all (length s - k) (drop k s) (simp length-drop (omega arith))

-- xs with the first i elements of t in the place of its own: what a loop that stores t has done after i turns
abbrev pub sofar : List ℕ → List ℕ → ℕ → List ℕ
sofar xs t i = take i t ++ drop i xs

pub sofar_turn : (xs t : List ℕ) (i : ℕ) → i < length t → length t ≤ length xs → set (sofar xs t i) i (get_or t i 0) ≡ sofar xs t (i + 1)
sofar_turn xs t i h l =
    let z : 0 + i < length xs = omega arith in
    rw add-one (simp zero-add at (paste-suc xs 0 t i 0 z h))

pub sofar_all : (xs t : List ℕ) (i : ℕ) → length t ≡ length xs → length xs ≤ i → sofar xs t i ≡ t
sofar_all xs t i e h =
    let l : length t ≤ i = omega arith in
    rw (take_all i t l, drop_of_length-le xs {i = i} h) (append-nil t)

-- a written first, and then b from the next free byte on
pub wrote : (k : ℕ) (xs a b ys zs : List ℕ) → k ≡ length a → ys ≡ over xs a → zs ≡ over (take (length ys - k) (drop k ys)) b →
    put_mid k (length ys - k) ys zs ≡ over xs (a ++ b)
wrote k xs a b ys zs l e f =
    rw (f, drop_of_length-le (drop k ys) {i = length ys - k} (rw length-drop (omega arith)), append-nil, tail_of ys k, l, e, take-append_seam a, drop-append_seam a, drop-drop, length-append, append_assoc)

-- t written where it fits, and refusal 7 where it does not
module _ (r : Answer) (xs ys t : List ℕ) (e : r.length ≡ length t) where
  pub answer_yes : r.number ≡ 0 → length t ≤ length xs → ys ≡ over xs t → Answers r xs ys (fitted xs t)
  answer_yes n l w = rw (le-ltb (length xs) (length t) l) (record { reported = n; sized = e; held = w })

  pub answer_no : r.number ≡ 7 → length xs < length t → ys ≡ xs → Answers r xs ys (fitted xs t)
  answer_no n l w = rw (lt-ltb (length xs) (length t) l) (record { reported = n; sized = e; held = w })
