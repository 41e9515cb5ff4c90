-- A preview of a call on a tally foretells the call's own answer (02, W5). Of both only the contracts are known.
-- Assumes nothing.
use Prim.Native.Nat.{ℕ}
use mathlib.Core.Path.{◌≡◌, refl, sym, ap, ◌∙◌}
use mathlib.Core.List.{List}
use lib.ListN.{length, take}
use lib.Seq.{take-append_seam}
use Rattle.base.specs.Answer.{Spelling, Reply, number_of, length_of, replied}
use Rattle.tally_calls.specs.TallyCalls.{Report, TallyCall, move_of, if_done, Tallies}
use Rattle.tally_calls.specs.declared.Tallied.{Tallied}
use Rattle.tally_calls.proofs.Theorem.{phrase_done}
use Rattle.tally_previews.specs.Previews.{Previewed, SameAnswer}

-- of a buffer a reply takes only the length into account
reply_by_length : (S : Spelling) (xs vs : List ℕ) → length xs ≡ length vs → replied S xs ≡ replied S vs
reply_by_length S xs vs e = rw e refl

-- where nothing is refused, the phrase stands at the front of the buffer
phrase_first : {R : Report} {r : Tallied} {xs ys : List ℕ} → Tallies r xs ys R → r.refusal ≡ 0 → take r.length ys ≡ R.spelling.phrase
phrase_first {R} {r} {xs} a z =
    let e = phrase_done R.spelling xs (sym a.reported ∙ z) in
    rw (a.sized, a.held, e, take-append_seam) refl

-- one report for two buffers of the same length
answered_alike : {R : Report} {p r : Tallied} {xs ys vs zs : List ℕ} → length xs ≡ length vs → Tallies p xs ys R → Tallies r vs zs R → SameAnswer p r ys zs
answered_alike {R} {xs = xs} {vs = vs} e a b =
    let q = reply_by_length R.spelling xs vs e in
    let n = a.reported ∙ ap number_of q ∙ sym b.reported in
    record {
      same_refusal = n;
      same_item = a.item_is ∙ ap (λ (reply : Reply). if_done reply R.item 0) q ∙ sym b.item_is;
      same_length = a.sized ∙ ap length_of q ∙ sym b.sized;
      same_phrase = λ z. phrase_first a z ∙ sym (phrase_first b (sym n ∙ z));
    }

-- whatever a preview answers, p, on any bytes of a tally, the call itself then answers, r, on what the preview leaves, with the same input and a buffer of
-- the same length
pub preview_foretells : (call : TallyCall) {p r : Tallied} {ts us xs ys vs zs : List ℕ} → Previewed call p xs ys ts us → length xs ≡ length vs → Tallies r vs zs (move_of call us).report → SameAnswer p r ys zs
preview_foretells call a e b = answered_alike e a.reports (rw a.unaltered at b)
