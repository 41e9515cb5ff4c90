-- Laws of written lines: what a call was told, made a line.
-- Assumes nothing.
use Prim.Native.Nat.{ℕ, zero, suc, ◌<◌, ◌≤◌}
use mathlib.Core.Path.{◌≡◌, refl, ap, subst, ◌∙◌}
use mathlib.Core.Bool.{Bool, true, false, cond}
use mathlib.Core.List.{List, [], ◌∷◌, ◌++◌}
use mathlib.Core.Option.{none, some}
use native.Mathlib.Omega.{arith}
use borrow.Author.Tests.{ltb-true, ne_eqb, le-leb, lt-leb}
use lib.Dec.{ltb}
use lib.ListN.{length, take, drop, length-append}
use lib.Seq.{take-append_seam, drop-append-add, drop-drop}
use Rattle.std.specs.Prelude.{Result}
use Rattle.base.specs.Buffer.{over}
use Rattle.base.specs.Answer.{Spelling, refused, bytes, fitted, unless, replied, Answers}
use Rattle.base.specs.Refused.{answer_of}
use Rattle.base.specs.declared.Answer.{Answer}
use Rattle.base.specs.declared.Refusal.{Refusal}
use Rattle.base.specs.Room.{phrase_room, line_room}
use Rattle.phrases_forms.specs.Line.{words_of}
use Rattle.phrases_answers.specs.Answers.{line_of, bad_line, answer_to, form, answer_line}
use Rattle.phrases_answers.specs.Asked.{Told}
use Rattle.phrases_answers.specs.Wrote.{Wrote}

-- where a line refuses, it is the same whatever the phrase
line_any : (n : ℕ) (a b : List ℕ) → (n ≡ 0 → ⊥) → line_of n a ≡ line_of n b
line_any n a b z = rw (ne_eqb n 0 z) refl

-- a line over what begins as the line does
over_over : (b t xs : List ℕ) → over (over xs b) (b ++ t) ≡ over xs (b ++ t)
over_over b t xs =
    ap (λ (l : List ℕ). (b ++ t) ++ l) (rw length-append (drop-append-add b (drop (length b) xs) (length t) ∙ drop-drop (length t) (length b) xs))

-- a call's answer, and its line
module _ (a : Answer) (S : Spelling) (xs ys : List ℕ) (short : a.length ≤ phrase_room) (room : line_room ≤ length xs) where
  -- the phrase fits
  fits : Answers a xs ys (fitted xs S.phrase) → (a.number ≡ 0) × ((a.length ≡ length S.phrase) × (ys ≡ over xs S.phrase))
  fits e = go (ltb (length xs) (length S.phrase)) refl e
    where
      go : (t : Bool) → ltb (length xs) (length S.phrase) ≡ t → Answers a xs ys (cond t (refused 7 (length S.phrase)) (bytes S.phrase))
          → (a.number ≡ 0) × ((a.length ≡ length S.phrase) × (ys ≡ over xs S.phrase))
      go true p q = let l = ltb-true (length xs) (length S.phrase) p in absurd (omega (arith, l, q.sized))
      go false p q = (q.reported, (q.sized, q.held))

  line_told : (r : ℕ) (zs : List ℕ) → Answers a xs ys (replied S xs) → Wrote (line_of a.number (take a.length ys)) r ys zs → Wrote (answer_to (some S)) r xs zs
  line_told r zs e w = go S.refusal e
    where
      go : (n : ℕ) → Answers a xs ys (unless n (fitted xs S.phrase)) → Wrote (line_of n S.phrase) r xs zs
      go zero e =
          let p = fits e in
          let q : take a.length ys ≡ S.phrase = rw (p.1.0, p.1.1) (take-append_seam S.phrase (drop (length S.phrase) xs)) in
          let v : Wrote (S.phrase ++ (10 ∷ [])) r ys zs = rw (p.0, q) at w in
          record { size = v.size; room = v.room; bytes = v.bytes ∙ rw p.1.1 (over_over S.phrase (10 ∷ []) xs) }
      go (suc n) e =
          let v : Wrote (line_of (suc n) (take a.length xs)) r xs zs = rw (e.reported, e.held) at w in
          subst (λ (x : List ℕ). Wrote x r xs zs) (line_any (suc n) (take a.length xs) S.phrase (λ (z : suc n ≡ 0). omega arith)) v

-- the whole line
abbrev pub Answered : List ℕ → ℕ → List ℕ → List ℕ → Type 0
Answered s r xs ys = (r ≡ length (answer_line s)) × (ys ≡ over xs (answer_line s))

line_is : (s : List ℕ) (r : ℕ) (xs ys : List ℕ) → length s ≤ 512 → Wrote (answer_to (form (words_of s))) r xs ys → Answered s r xs ys
unfolding answer_line
line_is s r xs ys h w = rw (le-leb (length s) 512 h) (w.size, w.bytes)

pub told_line : (s : List ℕ) (t : Result ℕ Refusal) (r : ℕ) (xs ys zs : List ℕ) → length s ≤ 512 → line_room ≤ length xs → Told (form (words_of s)) t xs ys
    → Wrote (line_of (answer_of t).number (take (answer_of t).length ys)) r ys zs → Answered s r xs zs
told_line s t r xs ys zs h room k w = line_is s r xs zs h (rw k.asked (line_told (answer_of t) k.spelling xs ys k.short room r zs k.answered w))

pub no_line : (s : List ℕ) (r : ℕ) (xs ys zs : List ℕ) → length s ≤ 512 → (form (words_of s) ≡ none) × (ys ≡ xs) → Wrote bad_line r ys zs → Answered s r xs zs
no_line s r xs ys zs h (e, f) w =
    let v : Wrote bad_line r xs zs = rw f at w in
    line_is s r xs zs h (rw e v)

pub long_line : (s : List ℕ) (r : ℕ) (xs ys : List ℕ) → 512 < length s → Wrote bad_line r xs ys → Answered s r xs ys
unfolding answer_line
long_line s r xs ys h w = rw (lt-leb (length s) 512 h) (w.size, w.bytes)
