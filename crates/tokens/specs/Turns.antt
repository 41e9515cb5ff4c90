-- What eight bytes of a text show as one number: a turn of the reader's loop. Nothing here has to be believed.
-- Assumes nothing.
use Rattle.std.specs.Prelude.{ℕ, zero, suc, ◌+◌, ◌*◌, ◌/◌, ◌%◌, ◌^◌, ◌≡◌, cond}
use Rattle.tokens.specs.Tokens.{is_gap}

-- 64 in the place of each of a number's n lowest bytes that is a gap
unfoldable pub lows : ℕ → ℕ → ℕ
lows zero w = 0
lows (suc n) w = lows n (w / 256) * 256 + cond (is_gap (w % 256)) 64 0

-- one of eight bytes is a gap
abbrev pub Ends : ℕ → Type 0
Ends w = lows 8 w ≡ 0 → ⊥

-- how many of a number's n lowest bytes stand before the first that is a gap
unfoldable pub letters : ℕ → ℕ → ℕ
letters zero w = 0
letters (suc n) w = cond (is_gap (w % 256)) 0 (suc (letters n (w / 256)))

-- a word's last p bytes as one number with 62 above them, where they are the lowest of w
abbrev pub last_key : ℕ → ℕ → ℕ
last_key p w = w % 2 ^ (p * 8) + 2 ^ (p * 8) * 62
