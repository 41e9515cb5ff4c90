-- `phrases_forms::cut` meets its contract.
-- Assumes nothing.
use Rattle.std.proofs.Common.{ℕ, ◌+◌, ◌-◌, ◌≡◌, cond, eqb, ltb, List, [], length, take, drop, Some, None, position, refl, sym, ◌∙◌, rules, tests, arith}
use Rattle.std.specs.List.{position_or_len}
use Rattle.std.proofs.lemmas.Iterator.{YieldsList-from_slice}
use Rattle.std.proofs.lemmas.Iterator.Search.{position_from_yields_List}
use Rattle.std.proofs.lemmas.Grind.{common_steps}
use Rattle.phrases_forms.specs.Cuts.{next_word, after_space}
use Rattle.phrases_forms.proofs.cut.Goals.{After-position}
use Rattle.phrases_forms.proofs.cut.Goals as goal

-- what the search comes to
found : (c : After-position) → c.position.result ≡ position (λ b. eqb b 32) c.args.s.now
found c = position_from_yields_List (λ b. eqb b 32) _ _ c.position.result c.position.ensures.ran (YieldsList-from_slice _ c.iter.ensures.rest) (λ x b q k. search (rules, tests))

at_space : (s : List ℕ) (n k end next : ℕ) → n ≡ length s → k ≡ position_or_len (λ b. eqb b 32) s → Some end ≡ cond (ltb k n) (Some k) None → next ≡ end + 1
    → (take end s ≡ next_word s) × (take (length s - next) (drop next s) ≡ after_space s)
unfolding next_word after_space
at_space s n k end next e f g h = rw h (grind (arith, common_steps))

no_space : (s : List ℕ) → None ≡ position (λ b. eqb b 32) s → (s ≡ next_word s) × (◌≡◌ {A = List ℕ} [] (after_space s))
unfolding next_word after_space
no_space s e = grind (arith, common_steps)

pub returns-in-Some : goal.returns-in-Some
returns-in-Some c = at_space c.args.s.now (length c.args.s.now) (position_or_len (λ b. eqb b 32) c.args.s.now) c.in-Some.end _ refl refl (sym c.in-Some.is ∙ found (goal.at.returns-in-Some c).After-position) (search rules)

pub returns-in-None : goal.returns-in-None
returns-in-None c = no_space c.args.s.now (sym c.in-None.is ∙ found (goal.at.returns-in-None c).After-position)
