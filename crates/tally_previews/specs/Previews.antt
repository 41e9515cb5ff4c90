-- Previews of the calls on a tally (02, W5, "Hear it first"): what one comes to, and what W5 asks of it.
-- Assumes nothing.
use Rattle.std.specs.Prelude.{ℕ, ◌≡◌, List, take}
use Rattle.tally_calls.specs.TallyCalls.{TallyCall, move_of, Tallies}
use Rattle.tally_calls.specs.declared.Tallied.{Tallied}

-- p is the answer of a call's preview on a tally's bytes ts, left as us, with the phrase's buffer xs left as ys: what the call itself reports of that tally;
-- "The tally itself is not altered"
pub record Previewed (call : TallyCall) (p : Tallied) (xs ys ts us : List ℕ) : Type 0 where
  pub reports : Tallies p xs ys (move_of call ts).report
  pub unaltered : us ≡ ts

-- "exactly the number, phrase and refusal that the operation would give": of a preview's answer p, with the phrase's buffer left as ys, and of the call's
-- answer r, with its own left as zs
pub record SameAnswer (p r : Tallied) (ys zs : List ℕ) : Type 0 where
  pub same_refusal : p.refusal ≡ r.refusal
  pub same_item : p.item ≡ r.item
  pub same_length : p.length ≡ r.length
  pub same_phrase : p.refusal ≡ 0 → take p.length ys ≡ take r.length zs
