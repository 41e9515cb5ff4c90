-- Laws of one byte: a line's end, a byte that joins the line, one of a line that is too long; and one byte more of a block.
-- Assumes nothing.
use Prim.Native.Nat.{ℕ, ◌+◌, ◌≤◌, ◌<◌}
use native.Mathlib.Numerals.{add-one}
use mathlib.Core.Path.{◌≡◌, refl, sym, ap, ◌∙◌}
use mathlib.Core.Bool.{Bool, true, false, cond}
use borrow.Author.Tests.{ltb-false}
use lib.Dec.{ltb}
use mathlib.Core.List.{List, [], ◌∷◌, ◌++◌, append_assoc}
use lib.ListN.{length, get_or, take, drop, set}
use lib.Seq.{take-suc, take-suc-set, take_at, take-append-add, length-take-le}
use Rattle.std.proofs.lemmas.List.{take-append-le}
use borrow.Rule.Slice.PartMut.{put_mid}
use Rattle.base.specs.Buffer.{over}
use Rattle.phrases_answers.specs.Answers.{answer_line}
use Rattle.phrases_lines.specs.Program.{program, Answered}
use Rattle.phrases_lines.specs.Held.{is_line}
use Rattle.phrases_lines.proofs.Lines.{line_ends, goes_on, line_on}

-- a line's end, with the line so far as s
pub ended : (p s : List ℕ) → s ≡ p → is_line s ≡ true → (b : ℕ) → b ≡ 10 → (out out' q : List ℕ) (r : ℕ) → (r ≡ length (answer_line s)) × (out' ≡ over out (answer_line s)) → q ≡ []
    → Answered p (b ∷ []) (take r out') q
ended p s d l b e out out' q r (f, g) h rest =
    let a : List ℕ = answer_line s in
    let t : take r out' ≡ a = rw (f, g) (take_at a (drop (length a) out) (length a) refl) in
    rw (← d, e, t, h) (line_ends s rest l)

-- a byte that joins the line, or one of a line that is too long
pub grown : (p : List ℕ) (b : ℕ) → is_line p ≡ true → (b ≡ 10 → ⊥) → (q : List ℕ) → q ≡ cond (ltb (length p) 513) (p ++ (b ∷ [])) p → Answered p (b ∷ []) [] q
grown p b l z q e = go (ltb (length p) 513) refl e
  where
    go : (t : Bool) → ltb (length p) 513 ≡ t → q ≡ cond t (p ++ (b ∷ [])) p → Answered p (b ∷ []) [] q
    go true u f rest = rw f (ap program (sym (append_assoc p (b ∷ []) rest)))
    go false u f rest = rw f (goes_on p b rest l z (ltb-false (length p) 513 u))

-- a byte set behind the first n of a line
pub pushed : (line : List ℕ) (n b : ℕ) → n < length line → take (n + 1) (set line n b) ≡ take n line ++ (b ∷ [])
pushed line n b h = rw add-one (take-suc-set line n b h)

pub joined : (line : List ℕ) (n b : ℕ) → n < length line → is_line (take n line) ≡ true → (b ≡ 10 → ⊥) → is_line (take (n + 1) (set line n b)) ≡ true
joined line n b h l z = rw (pushed line n b h) (line_on (take n line) b l z)

-- bytes copied to the front of a longer line
pub laid : (line ys : List ℕ) (n : ℕ) → n ≡ length ys → take n (put_mid 0 n line ys) ≡ ys
laid line ys n e = take_at ys (drop n line) n (sym e)

-- what a call wrote to a part of a buffer stands behind its first u bytes
written : (xs ys : List ℕ) (u n r : ℕ) → u ≤ length xs → r ≤ length ys → take (u + r) (put_mid u n xs ys) ≡ take u xs ++ take r ys
written xs ys u n r h k =
    ap (λ (m : ℕ). take (m + r) (put_mid u n xs ys)) (sym (length-take-le u xs h)) ∙ take-append-add (take u xs) (ys ++ drop n (drop u xs)) r
    ∙ ap (λ (l : List ℕ). take u xs ++ l) (take-append-le r ys (drop n (drop u xs)) k)

-- one byte more of a block, b: u bytes of out were written for those before it, r for it, and v with it
pub one_more_lem : (p block out ys q q' : List ℕ) (i u n r v b : ℕ) → i < length block → u ≤ length out → r ≤ length ys → v ≡ u + r → b ≡ get_or block i 0
    → Answered p (take i block) (take u out) q → Answered q (b ∷ []) (take r ys) q'
    → Answered p (take (i + 1) block) (take v (put_mid u n out ys)) q'
one_more_lem p block out ys q q' i u n r v b h k l s f a g rest =
    let e : take (i + 1) block ++ rest ≡ take i block ++ (b ∷ rest) = rw (add-one, take-suc block i 0 h, f) (append_assoc (take i block) (get_or block i 0 ∷ []) rest) in
    ap (λ (m : List ℕ). program (p ++ m)) e ∙ a (b ∷ rest) ∙ ap (λ (m : List ℕ). take u out ++ m) (g rest)
    ∙ sym (append_assoc (take u out) (take r ys) (program (q' ++ rest))) ∙ ap (λ (m : List ℕ). m ++ program (q' ++ rest)) (sym (ap (λ (m : ℕ). take m (put_mid u n out ys)) s ∙ written out ys u n r k l))
