-- `fr_meanings::meaning` meets its contract: a key is found at its place, or has no meaning.
-- Assumes nothing.
use borrow.Author.Rules.{rules}
use Prim.Native.Nat.{ℕ, ◌+◌, ◌%◌}
use mathlib.Core.Path.{◌≡◌, ap, ◌∙◌}
use Rattle.meanings.specs.Lookup.{lookup}
use Rattle.meanings.proofs.Places.{here, elsewhere}
use Rattle.fr_meanings.specs.Meanings.{table, place_of, meaning_of}
use Rattle.fr_meanings.proofs.meaning.Statement.{statement}
use Rattle.fr_meanings.proofs.meaning.Tie as tie

-- what stands at the key's place
at : (c : tie.After-entry_at-entry) → c.entry_at-entry.result ≡ lookup (place_of c.before.before.args.key) table
at c = let k = c.before.before.args.key in c.entry_at-entry.ensures ∙ ap (λ (n : ℕ). lookup ((k % 256 + n) % 256) table) c.before.shift-shift.ensures

pub meaning_spec : {M : Type 1} → statement M
unfolding meaning_of
meaning_spec =
    tie.close
    (tie.spec
    (λ c κs. search rules)
    (λ c. search rules)
    (λ c. search rules)
    (λ c κs. search rules)
    (λ c. search rules)
    (λ c. here (at c.before) c.if-entry-key.true)
    (λ c. elsewhere (at c.before) c.if-entry-key.false))
