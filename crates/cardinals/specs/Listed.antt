-- What is said of a number that is held as an array of its groups, the lowest first: how the planners have it. No call's answer is defined by it.
-- Assumes nothing.
use Rattle.std.specs.Prelude.{ℕ, zero, suc, List, [], ◌++◌, get_or}
use Rattle.base.specs.Join.{Word}
use Rattle.cardinals.specs.Lexicon.{Lexicon}
use Rattle.cardinals.specs.Cardinal.{group_of}

-- the words of the groups gs below an order, from the highest down
unfoldable pub listed : Lexicon → ℕ → List ℕ → List Word
listed L zero gs = []
listed L (suc k) gs = group_of L k (get_or gs k 0) ++ listed L k gs
