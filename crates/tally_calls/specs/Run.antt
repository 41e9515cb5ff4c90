-- Calls on one tally, one after the other, of which only the contracts are known.
-- Assumes nothing.
use Rattle.std.specs.Prelude.{ℕ, ◌≡◌, List, [], ◌∷◌}
use Rattle.std.proofs.Math.Option.{some}
use Rattle.base.specs.Answer.{replied, Answers}
use Rattle.base.specs.declared.Answer.{Answer}
use Rattle.uk_money.specs.Currencies.{Currency}
use Rattle.uk_money.specs.Codes.{currency_of}
use Rattle.tally_calls.specs.TallyCalls.{opening, TallyCall, move_of, tally_after}

-- the bytes of a tally of the currency c after a list of calls, the newest first, each with the buffer that was lent for its phrase: an opening call that
-- was not refused left them, and then each call what it leaves
pub data Run (c : Currency) : List (TallyCall × List ℕ) → List ℕ → Type 0 where
  opened : (code xs ys : List ℕ) (r : Answer) → currency_of code ≡ some c → Answers r xs ys (replied (opening code) xs) → r.number ≡ 0 → Run c [] ys
  then : (es : List (TallyCall × List ℕ)) (ts us : List ℕ) → Run c es ts → (call : TallyCall) (xs : List ℕ) → us ≡ tally_after (move_of call ts) xs ts → Run c ((call, xs) ∷ es) us
