-- What the reader of ordinals and years promises, by spelling alone (02, W3).
-- Assumes nothing.
use Rattle.std.specs.Prelude.{ℕ, ◌^◌, ◌≤◌, ◌<◌, ◌≡◌, Bool, false, cond, not, ◌&&◌, ◌||◌, List, eqb, leb, ℤ, pos, neg_ℤ}
use Rattle.base.specs.Join.{joined}
use Rattle.figures.specs.Year.{year_limit}
use Rattle.settings.specs.Settings.{Settings}
use Rattle.uk.specs.Ukrainian.{ukrainian_orders}
use Rattle.uk_ordinal.specs.Ordinal.{ordinal_words}
use Rattle.uk_ordinal.specs.Year.{year_words}

-- the bytes s are the ordinal of n, which has no sign and no more digits than a text
pub record SaysOrdinal (S : Settings) (s : List ℕ) (minus : Bool) (n : ℕ) : Type 0 where
  pub unsigned : minus ≡ false
  pub held : n < 1000 ^ ukrainian_orders
  pub spelled : joined (ordinal_words S n) ≡ s

-- whether an early year, or another, has the magnitude n: 0 is early (01: "year 0 and below")
unfoldable pub is_year : Bool → ℕ → Bool
is_year early n = leb n (year_limit early) && (early || not (eqb n 0))

-- n, or -n if minus
abbrev pub signed_year : Bool → ℕ → ℤ
signed_year minus n = cond minus (neg_ℤ (pos n)) (pos n)

-- they are the year n, or -n if minus, a number of 64 signed bits; 0 has no sign
pub record SaysYear (S : Settings) (s : List ℕ) (minus : Bool) (n : ℕ) : Type 0 where
  pub zero_plain : n ≡ 0 → minus ≡ false
  pub held : n ≤ year_limit minus
  pub spelled : joined (year_words S (signed_year minus n)) ≡ s
