-- The bytes of the item numbers given, and 13 others for the place's.
-- Assumes nothing.
use Rattle.std.proofs.Common.{◌≡◌, ℕ, ◌+◌, ◌*◌, List, [], ◌∷◌, get_or, drop-cons, refl, sym, ◌∙◌, rules, arith}
use Rattle.base.specs.Buffer.{over}
use Rattle.base.specs.Bytes.{low_bytes}
use Rattle.figures.proofs.Laws.Buffer.{wrote}
use Rattle.tally.specs.Layout.{place_bytes}
use Rattle.tally.proofs.Stored.{before, before_length, before_over, stored}
use Rattle.tally.proofs.store.Goals as goal

pub returns : goal.returns
returns c =
    let a = c.args in
    let xs : List ℕ = a.tally.now in
    let h = c.requires.1 in
    let o : xs ≡ over xs (get_or xs 0 0 ∷ []) = drop-cons xs 0 0 (omega arith) in
    let n = before_length xs a.given a.i h c.requires.0 in
    let number : c.from.result ≡ a.given = c.from.ensures in
    let head = wrote 1 xs (get_or xs 0 0 ∷ []) (low_bytes 4 a.given) xs c.put.new.out refl o (rw (← number) c.put.ensures) in
    let place = wrote (5 + a.i * 13) xs (before xs a.given a.i) (place_bytes a.place) _ c.put_place.new.out (sym n) (head ∙ before_over xs a.given a.i h c.requires.0) c.put_place.ensures in
    place ∙ stored xs a.given a.i h c.requires.0 a.place (λ k. search rules)
