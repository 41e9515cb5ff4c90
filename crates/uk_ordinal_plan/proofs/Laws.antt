-- Laws of what is said, with which a planner's contract follows from those of the planners that it calls; and what a plan from its beginning says.
-- Assumes nothing.
use Prim.Native.Nat.{ℕ, zero, suc, ◌+◌, ◌*◌, ◌<◌, ◌≤◌}
use mathlib.Core.Path.{◌≡◌, refl, sym, ap, ◌∙◌}
use mathlib.Core.List.{List, [], ◌∷◌, ◌++◌, append-nil, append_assoc, flatten}
use native.Mathlib.Omega.{arith}
use Rattle.base.specs.Join.{Word, spaced_by, joined}
use Rattle.base.specs.Signs.{space}
use Rattle.words.specs.Part.{part}
use Rattle.plan.specs.Phrase.{Piece, gap, following, phrase_of}
use Rattle.plan.specs.Plan.{pieces}
use Rattle.plan.specs.Speaks.{Speaks, none, whole, ended, Told}
use Rattle.plan.proofs.Added.{stay, then, same, pushed}
use Rattle.plan.proofs.Laws.{following_append}
use Rattle.plan.proofs.Tells.{follows}
use Rattle.uk_ordinal_plan.specs.Said.{LedBy, nothing, piece, Said, run_on, Ran, Spoken}

-- the same bytes, in more room
resay : {pool : List ℕ} {s k : ℕ} {xs ys b c : List ℕ} (i : ℕ) → Said pool s k xs ys b → k ≤ i → b ≡ c → Said pool s i xs ys c
resay i a h e = record { pieces = a.pieces; added = same i a.added h refl; led = a.led; bytes = a.bytes ∙ e }

-- one after the other, both led alike
led_both : {s : ℕ} {ps qs : List Piece} → LedBy s ps → LedBy s qs → LedBy s (ps ++ qs)
led_both nothing b = b
led_both {qs = qs} (piece w ps) b = piece w (ps ++ qs)

both : {pool : List ℕ} {s j k : ℕ} {xs ys zs b c : List ℕ} (i : ℕ) → Said pool s j xs ys b → Said pool s k ys zs c → j + k ≤ i → Said pool s i xs zs (b ++ c)
both {pool} i p q h = record {
  pieces = p.pieces ++ q.pieces;
  added = then i p.added q.added h;
  led = led_both p.led q.led;
  bytes = following_append p.pieces q.pieces ∙ rw (p.bytes, q.bytes) refl;
}

-- what runs on after something that was said
led_on : (s : ℕ) {ps qs : List Piece} (b : List ℕ) → LedBy s ps → LedBy 0 qs → following ps ≡ gap s ++ b → LedBy s (ps ++ qs)
unfolding following
led_on zero b p q e = led_both p q
led_on (suc s) b nothing q e = cc
led_on (suc s) {qs = qs} b (piece w ps) q e = piece w (ps ++ qs)

on : {pool : List ℕ} {s j k : ℕ} {xs ys zs c : List ℕ} (b : List ℕ) (i : ℕ) → Said pool s j xs ys (gap s ++ b) → Said pool 0 k ys zs c → j + k ≤ i → Said pool s i xs zs (gap s ++ (b ++ c))
on {pool} {s = s} {c = c} b i p q h = record {
  pieces = p.pieces ++ q.pieces;
  added = then i p.added q.added h;
  led = led_on s b p.led q.led p.bytes;
  bytes = following_append p.pieces q.pieces ∙ rw (p.bytes, q.bytes) (append_assoc (gap s) b c);
}

-- words run together: none, one, more
pub run_none : {pool : List ℕ} (s k : ℕ) (xs : List ℕ) → Ran pool s k xs xs []
unfolding run_on following
run_none s k xs = record { said = record { pieces = []; added = stay k xs; led = nothing; bytes = refl } }

pub run_one : {pool : List ℕ} {s : ℕ} {xs ys w : List ℕ} (place : ℕ) → s < 256 → ys ≡ xs ++ (place * 256 + s) ∷ [] → part pool place ≡ w → Ran pool s 1 xs ys (w ∷ [])
unfolding run_on flatten following
run_one {pool} {s = s} place h e f =
    rw (← f) (record { said = record { pieces = (s, part pool place) ∷ []; added = pushed pool place s h e; led = piece (part pool place) []; bytes = append_assoc (gap s) (part pool place) [] } })

pub rerun : {pool : List ℕ} {s k : ℕ} {xs ys : List ℕ} {us ws : List Word} (i : ℕ) → Ran pool s k xs ys us → k ≤ i → us ≡ ws → Ran pool s i xs ys ws
rerun {s = s} i a h e = record { said = resay i a.said h (ap (run_on s) e) }

run_on_lem : (ws : List Word) → run_on 0 ws ≡ flatten ws
unfolding run_on flatten
run_on_lem [] = refl
run_on_lem (w ∷ ws) = refl

flatten_append : (us vs : List Word) → flatten (us ++ vs) ≡ flatten us ++ flatten vs
unfolding flatten
flatten_append [] vs = refl
flatten_append (u ∷ us) vs = rw (flatten_append us vs) (sym (append_assoc u (flatten us) (flatten vs)))

pub run_more : {pool : List ℕ} {s j k : ℕ} {xs ys zs w : List ℕ} {us vs : List Word} (i : ℕ) → Ran pool s j xs ys (w ∷ us) → Ran pool 0 k ys zs vs → j + k ≤ i
    → Ran pool s i xs zs ((w ∷ us) ++ vs)
unfolding run_on
run_more {s = s} {w = w} {us = us} {vs = vs} i p q h =
    record { said = resay i (on (flatten (w ∷ us)) i p.said q.said h) (omega arith) (ap (λ (l : List ℕ). gap s ++ l) (rw (flatten_append (w ∷ us) vs, run_on_lem vs) refl)) }

pub run_then : {pool : List ℕ} {s j k : ℕ} {xs ys zs : List ℕ} {us vs : List Word} (i : ℕ) → Ran pool s j xs ys us → Ran pool 0 k ys zs vs → j + k ≤ i → (us ≡ [] → ⊥)
    → Ran pool s i xs zs (us ++ vs)
run_then {us = []} i p q h z = absurd (z refl)
run_then {us = u ∷ us} i p q h z = run_more i p q h

-- a word of a stem and an ending
pub run_ended : {pool : List ℕ} {s : ℕ} {xs zs w v : List ℕ} → Ran pool s 2 xs zs ((w ∷ []) ++ (v ∷ [])) → Ran pool s 2 xs zs ((w ++ v) ∷ [])
unfolding run_on flatten
run_ended {s = s} {w = w} {v = v} p = record { said = resay 2 p.said (omega arith) (ap (λ (l : List ℕ). gap s ++ l) (sym (append_assoc w v []))) }

-- words run together after a space are one word
pub run_word : {pool : List ℕ} {k : ℕ} {xs ys : List ℕ} {ws : List Word} → Ran pool 32 k xs ys ws → (ws ≡ [] → ⊥) → Spoken pool k xs ys (flatten ws ∷ [])
unfolding run_on
run_word {ws = []} a z = absurd (z refl)
run_word {k = k} {ws = w ∷ ws} a z = record { said = resay k a.said (omega arith) (ap (λ (l : List ℕ). 32 ∷ l) (sym (append-nil (flatten (w ∷ ws))))) }

-- words that are told
begins : {ps : List Piece} {ws : List Word} → Speaks ps ws → LedBy 32 ps
begins none = nothing
begins (whole w {ps = ps} s) = piece w ps
begins (ended w e {ps = ps} s) = piece w ((0, e) ∷ ps)

pub told : {pool : List ℕ} {k : ℕ} {xs ys : List ℕ} {ws : List Word} → Told pool k xs ys ws → Spoken pool k xs ys ws
told t = record { said = record { pieces = t.pieces; added = t.added; led = begins t.speaks; bytes = follows t.speaks } }

-- words one after the other
spaced_both : (us vs : List Word) → spaced_by space (us ++ vs) ≡ spaced_by space us ++ spaced_by space vs
spaced_both [] vs = refl
spaced_both (u ∷ us) vs = rw (spaced_both us vs) (ap (λ (l : List ℕ). 32 ∷ l) (sym (append_assoc u (spaced_by space us) (spaced_by space vs))))

pub speak : {pool : List ℕ} {j k : ℕ} {xs ys zs : List ℕ} {us vs : List Word} (i : ℕ) → Spoken pool j xs ys us → Spoken pool k ys zs vs → j + k ≤ i → Spoken pool i xs zs (us ++ vs)
speak {us = us} {vs = vs} i p q h = record { said = resay i (both i p.said q.said h) (omega arith) (sym (spaced_both us vs)) }

pub respeak : {pool : List ℕ} {k : ℕ} {xs ys : List ℕ} {us ws : List Word} (i : ℕ) → Spoken pool k xs ys us → k ≤ i → us ≡ ws → Spoken pool i xs ys ws
respeak i a h e = record { said = resay i a.said h (ap (spaced_by space) e) }

-- a plan from its beginning: words
joins : {ps : List Piece} (ws : List Word) → LedBy 32 ps → following ps ≡ spaced_by space ws → phrase_of ps ≡ joined ws
unfolding phrase_of following
joins [] nothing e = refl
joins (w ∷ ws) nothing e = cc
joins [] (piece v ps) e = cc
joins (w ∷ ws) (piece v ps) e = cc

pub spoken_phrase : {pool : List ℕ} {k : ℕ} {ys : List ℕ} {ws : List Word} → Spoken pool k [] ys ws → phrase_of (pieces pool ys) ≡ joined ws
unfolding pieces
spoken_phrase {ws = ws} a = ap phrase_of a.said.added.more ∙ joins ws a.said.led a.said.bytes
