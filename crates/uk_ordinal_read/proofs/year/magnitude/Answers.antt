-- `uk_ordinal_read::year::magnitude` meets its contract: what is made of the groups so far is not above the number, which has room.
-- Assumes nothing.
use Prim.Native.Nat.{◌*◌, ◌+◌, ◌<◌, ◌^◌}
use mathlib.Core.Path.{◌≡◌, refl, ◌∙◌}
use mathlib.Core.List.{map}
use native.Mathlib.Omega.{arith}
use borrow.Author.Rules.{rules}
use lib.ListN.{length, take}
use Rattle.std.specs.Prelude.{Some}
use Rattle.std.proofs.lemmas.Fn.{serves_by}
use Rattle.std.proofs.lemmas.Iterator.Consumers.{YieldsList-so_far, YieldsList-turn, fold_from_yields_List}
use Rattle.std.proofs.lemmas.Iterator.Adapters.{YieldsList-from_rev_slice}
use Rattle.uk_ordinal_read.proofs.Magnitude.{with_group, made, now_more, made_all, has_room}
use Rattle.uk_ordinal_read.proofs.year.magnitude.Goals as goal

pub fold-requires-clause-callable : goal.fold-requires-clause-callable
fold-requires-clause-callable c =
    let number = c.args.number.now in
    let road = YieldsList-from_rev_slice {s = c.rev.result} (take 7 number.groups) (search rules) in
    serves_by _ (λ xs q. q.1 ≡ made (map (λ g. g.now) xs))
    (λ xs q x w j k. let t : w.1 ≡ q.1 * 1000 + x.now = search rules in rw (now_more, ← j) t)
    _ _ _ _ refl
    (λ xs t q x u y e j.
    let h : q.1 * 1000 + x.now < 2 ^ 64 = rw j (has_room number c.requires (map (λ g. g.now) xs) (length xs) x.now (YieldsList-so_far road xs t y) (YieldsList-turn road xs t y (Some x) u x refl e)) in
    (λ κs p n o r f. record { fits = omega (arith, h) }, λ κs p n o r f from. let l : from.result ≡ x.now = search rules in record { fits = omega (arith, h, l) }))

pub returns : goal.returns
returns c =
    let number = c.args.number.now in
    let e = fold_from_yields_List _ with_group 0 c.fold.result c.fold.ensures.ran (YieldsList-from_rev_slice (take 7 number.groups) (search rules)) (λ a x b q k. search rules) in
    e ∙ made_all number c.requires
