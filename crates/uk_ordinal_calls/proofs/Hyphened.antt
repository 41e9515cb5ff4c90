-- Digits, a hyphen and an ending, in a buffer.
-- Assumes nothing.
use Prim.Native.Nat.{ℕ, suc, ◌+◌, ◌<◌}
use mathlib.Core.Path.{◌≡◌, refl, ap, ◌∙◌}
use mathlib.Core.Bool.{Bool}
use mathlib.Core.List.{List, [], ◌∷◌, ◌++◌, append_assoc}
use native.Mathlib.Numerals.{add-one}
use native.Mathlib.Omega.{arith}
use lib.ListN.{length, set, length-append}
use lib.Seq.{drop-cons, set-append_seam}
use Rattle.std.proofs.lemmas.Grind.{common_steps}
use Rattle.base.specs.Buffer.{over}
use Rattle.settings.specs.Settings.{Settings}
use Rattle.figures.specs.Text.{value}
use Rattle.words.specs.Part.{part}
use Rattle.words.proofs.Parts.{part_short}
use Rattle.uk_ordinal.specs.Pool.{short_pool}
use Rattle.uk_ordinal.specs.Ordinal.{soft}
use Rattle.uk_ordinal.specs.DigitOrdinal.{short_flexion, digit_ordinal}
use Rattle.plan.proofs.Laws.{from, back, wrote}

-- how long they are
pub size_is : (t w : List ℕ) → length (t ++ (45 ∷ w)) ≡ length t + suc (length w)
size_is t w = length-append t (45 ∷ w)

-- a byte stored after what is written is written too
stored : (xs b : List ℕ) (v : ℕ) → length b < length xs → set (over xs b) (length b) v ≡ over xs (b ++ (v ∷ []))
stored xs b v h = rw (drop-cons xs (length b) 0 h, set-append_seam b, append_assoc b (v ∷ []), length-append b (v ∷ []), add-one (length b)) refl

-- the digits t written over xs, a hyphen at n after them, and the ending w over the rest
pub hyphened : (xs t w ys zs : List ℕ) (n : ℕ) → n ≡ length t → ys ≡ over xs t → length t < length xs → zs ≡ over (from (n + 1) (set ys n 45)) w
    → back (n + 1) (set ys n 45) zs ≡ over xs (t ++ (45 ∷ w))
hyphened xs t w ys zs n l e h f =
    let s : set ys n 45 ≡ over xs (t ++ (45 ∷ [])) = rw (l, e) (stored xs t 45 h) in
    wrote (n + 1) xs (t ++ (45 ∷ [])) w (set ys n 45) zs (rw (length-append t (45 ∷ [])) (omega arith)) s f ∙ ap (over xs) (append_assoc t (45 ∷ []) w)

-- they are the digit ordinal, where the ending is that of what the digits mean
pub ordinal_is : (S : Settings) (text : List ℕ) (ending : ℕ) (s : Bool) → s ≡ soft (value text) → part short_pool ending ≡ short_flexion S s → digit_ordinal S text ≡ text ++ (45 ∷ part short_pool ending)
unfolding digit_ordinal
ordinal_is S text ending s e f = rw (f, e) refl

pub ordinal_length : (S : Settings) (text : List ℕ) (ending : ℕ) (s : Bool) → s ≡ soft (value text) → part short_pool ending ≡ short_flexion S s
    → length (digit_ordinal S text) ≡ length text + suc (length (part short_pool ending))
ordinal_length S text ending s e f = rw (ordinal_is S text ending s e f) (size_is text (part short_pool ending))

pub ruleset ordinal_laws = (common_steps, size_is, ordinal_is, ordinal_length, part_short)
