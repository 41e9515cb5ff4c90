-- How an array of groups stands for its number: what is said of the groups is what is said of the number.
-- Assumes nothing.
use Prim.Native.Nat.{ℕ, zero, suc, ◌-◌, ◌≤◌, ◌<◌}
use mathlib.Core.Path.{◌≡◌, refl, sym, ◌∙◌, ap}
use mathlib.Core.Bool.{Bool}
use mathlib.Core.List.{List, ◌++◌}
use native.Mathlib.Omega.{arith}
use native.Mathlib.Decide.{dec_lt}
use lib.ListN.{length, get_or}
use Rattle.base.specs.Join.{Word}
use Rattle.figures.specs.Groups.{total, Groups}
use Rattle.figures.proofs.Laws.Groups.{group_of_lem}
use Rattle.groups.specs.declared.number.Number.{Number}
use Rattle.cardinals.specs.Lexicon.{Lexicon}
use Rattle.cardinals.specs.Cardinal.{group_of, groups_below, sign_words, cardinal_words}
use Rattle.cardinals.specs.Listed.{listed}
use Rattle.cardinals.proofs.Numbers.{cardinal_some}

module _ (L : Lexicon) (gs : List ℕ) where
  pub listed_is : (k : ℕ) → Groups gs → k ≤ length gs → listed L k gs ≡ groups_below L k (total gs)
  unfolding listed groups_below
  listed_is zero g h = refl
  listed_is (suc k) g h = rw (group_of_lem gs k g (omega arith), listed_is k g (omega arith)) refl

  -- one group more
  pub listed_more : (n : ℕ) → (n ≡ 0 → ⊥) → group_of L (n - 1) (get_or gs (n - 1) 0) ++ listed L (n - 1) gs ≡ listed L n gs
  unfolding listed
  listed_more zero n = absurd (n refl)
  listed_more (suc k) n = let e : suc k - 1 ≡ k = omega arith in rw e refl

  -- groups that are 0 say nothing
  pub listed_high : (n m : ℕ) → ((i : ℕ) → n ≤ i → get_or gs i 0 ≡ 0) → n ≤ m → listed L n gs ≡ listed L m gs
  unfolding listed
  listed_high n zero z h = let e : n ≡ 0 = omega arith in rw e refl
  listed_high n (suc m) z h = go (dec_lt n (suc m)) (listed_high n m z)
    where
      go : Dec (n < suc m) → (n ≤ m → listed L n gs ≡ listed L m gs) → listed L n gs ≡ listed L (suc m) gs
      go (no g) f = let e : n ≡ suc m = omega arith in rw e refl
      go (yes g) f = f (omega arith) ∙ sym (ap (λ (x : ℕ). group_of L m x ++ listed L m gs) (z m (omega arith)))

-- the words of a number that is not 0, from its groups
pub cardinal_listed : (L : Lexicon) {N : ℕ} (x : Number N) (minus : Bool) → N ≡ L.orders → (total x.groups ≡ 0 → ⊥)
    → sign_words L minus ++ listed L x.orders x.groups ≡ cardinal_words L minus (total x.groups)
cardinal_listed L x minus e s =
    let l : length x.groups ≡ L.orders = x.size ∙ e in
    let h : listed L x.orders x.groups ≡ listed L L.orders x.groups = listed_high L x.groups x.orders L.orders x.highest.zeros (omega (arith, x.highest.fits)) in
    ap (λ (ws : List Word). sign_words L minus ++ ws) (h ∙ listed_is L x.groups L.orders x.small (omega arith)) ∙ sym (cardinal_some L minus (total x.groups) s)
