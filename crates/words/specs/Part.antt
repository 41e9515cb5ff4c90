-- A text as a part of a pool: a byte string in which every text of a language stands somewhere. A place is half of where the text starts, times
-- 40, and its length. It ties the code to the tables; no call's answer is defined by it.
-- Assumes nothing.
use Rattle.std.specs.Prelude.{ℕ, ◌*◌, ◌/◌, ◌%◌, List, take, drop}

-- the text at a place of a pool
unfoldable pub part : List ℕ → ℕ → List ℕ
part pool place = take (place % 40) (drop (2 * (place / 40)) pool)
