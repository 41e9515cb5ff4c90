-- A tally that is laid in bytes is the tally that they hold.
-- Assumes nothing.
use Prim.Native.Nat.{ℕ, suc, ◌+◌, ◌*◌, ◌%◌, ◌^◌, ◌≤◌, ◌<◌}
use mathlib.Core.Path.{◌≡◌, refl, sym, ap, ◌∙◌}
use mathlib.Core.List.{List, [], ◌∷◌, ◌++◌}
use mathlib.Core.Option.{Option, some}
use native.Mathlib.Omega.{arith}
use borrow.Author.Tests.{lt-ltb, le-ltb}
use lib.ListN.{length, length-append}
use Rattle.base.specs.Bytes.{num, low_bytes}
use Rattle.uk_money.specs.Currencies.{Currency, currencies}
use Rattle.uk_money.specs.Rows.{currency_at}
use Rattle.tally.specs.Tally.{most_amounts, Tally}
use Rattle.tally.specs.Layout.{places_bytes, places_in, tally_bytes, currency_number, numbered_currency, tally_of, tally_in}
use Rattle.tally.specs.declared.Place.{Place}
use Rattle.tally.proofs.Laid.{Ranged, bytes_length, num_low, places_read}
use Rattle.tally.proofs.Numbered.{place_of_code}

-- the currency with a number
known : (k : ℕ) → k < 44 → numbered_currency (suc k) ≡ some (currency_at k)
unfolding currencies
known k h = rw (lt-ltb k 44 h) refl

module _ (k : ℕ) (h : k < 44) (T : Tally) (c : T.currency ≡ currency_at k) (g : T.given < 256 ^ 4) (l : length T.places ≡ most_amounts) (r : Ranged T.places) where
  first_byte : currency_number T.currency % 256 ≡ suc k
  first_byte = rw (c, place_of_code k h) (omega arith)

  long : (rest : List ℕ) → 837 ≤ length (tally_bytes T ++ rest)
  long rest = rw length-append (omega (arith, bytes_length T.places))

  pub tally_read : (rest : List ℕ) → tally_in (tally_bytes T ++ rest) ≡ some T
  tally_read rest =
      let p : places_in most_amounts (places_bytes T.places ++ rest) ≡ T.places = ap (λ (n : ℕ). places_in n (places_bytes T.places ++ rest)) (sym l) ∙ places_read T.places rest r in
      rw (le-ltb (length (tally_bytes T ++ rest)) 837 (long rest), first_byte, known k h, num_low 4 T.given g, p, ← c) refl
