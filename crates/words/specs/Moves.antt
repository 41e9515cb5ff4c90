-- Bytes moved and compared several at a time. No call's answer is defined by it.
-- Assumes nothing.
use Rattle.std.specs.Prelude.{ℕ, ◌+◌, List, ◌++◌, take, drop}

-- the k bytes of a text from j on
abbrev pub seg : ℕ → ℕ → List ℕ → List ℕ
seg j k t = take k (drop j t)

-- xs with the bytes d in place of its k from j on
abbrev pub with : ℕ → List ℕ → ℕ → List ℕ → List ℕ
with j d k xs = take j xs ++ (d ++ drop (j + k) xs)
