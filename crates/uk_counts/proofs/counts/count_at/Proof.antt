-- `uk_counts::counts::count_at` meets its contract: in the arm of a number stands its entry.
-- Assumes nothing.
use mathlib.Core.Path.{refl}
use Rattle.meanings.specs.Lookup.{lookup}
use Rattle.meanings.proofs.Arms.{found, missed}
use Rattle.uk_counts.specs.Counts.{counts}
use Rattle.uk_counts.proofs.counts.count_at.Statement.{statement}
use Rattle.uk_counts.proofs.counts.count_at.Tie as tie

pub count_at_spec : {M : Type 1} → statement M
unfolding lookup counts
count_at_spec =
    tie.close
    (tie.spec
    (λ c. found counts c.in-0.is refl)
    (λ c. found counts c.in-1.is refl)
    (λ c. found counts c.in-2.is refl)
    (λ c. found counts c.in-3.is refl)
    (λ c. found counts c.in-4.is refl)
    (λ c. found counts c.in-8.is refl)
    (λ c. found counts c.in-9.is refl)
    (λ c. found counts c.in-11.is refl)
    (λ c. found counts c.in-12.is refl)
    (λ c. found counts c.in-13.is refl)
    (λ c. found counts c.in-14.is refl)
    (λ c. found counts c.in-15.is refl)
    (λ c. found counts c.in-16.is refl)
    (λ c. found counts c.in-17.is refl)
    (λ c. found counts c.in-19.is refl)
    (λ c. found counts c.in-20.is refl)
    (λ c. found counts c.in-21.is refl)
    (λ c. found counts c.in-22.is refl)
    (λ c. found counts c.in-23.is refl)
    (λ c. found counts c.in-24.is refl)
    (λ c. found counts c.in-25.is refl)
    (λ c. found counts c.in-26.is refl)
    (λ c. found counts c.in-27.is refl)
    (λ c. found counts c.in-28.is refl)
    (λ c. found counts c.in-29.is refl)
    (λ c. found counts c.in-30.is refl)
    (λ c. found counts c.in-31.is refl)
    (λ c. found counts c.in-32.is refl)
    (λ c. found counts c.in-33.is refl)
    (λ c. found counts c.in-34.is refl)
    (λ c. found counts c.in-35.is refl)
    (λ c. found counts c.in-36.is refl)
    (λ c. found counts c.in-37.is refl)
    (λ c. found counts c.in-38.is refl)
    (λ c. found counts c.in-54.is refl)
    (λ c. found counts c.in-55.is refl)
    (λ c. found counts c.in-56.is refl)
    (λ c. found counts c.in-58.is refl)
    (λ c. found counts c.in-59.is refl)
    (λ c. found counts c.in-60.is refl)
    (λ c. found counts c.in-61.is refl)
    (λ c. found counts c.in-62.is refl)
    (λ c. found counts c.in-63.is refl)
    (λ c. missed _ counts c.in_default.in_default-own.rest))
