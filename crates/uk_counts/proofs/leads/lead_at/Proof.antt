-- `uk_counts::leads::lead_at` meets its contract: in the arm of a number stands its entry.
-- Assumes nothing.
use mathlib.Core.Path.{refl}
use Rattle.meanings.specs.Lookup.{lookup}
use Rattle.meanings.proofs.Arms.{found, missed}
use Rattle.uk_counts.specs.Counts.{leads}
use Rattle.uk_counts.proofs.leads.lead_at.Statement.{statement}
use Rattle.uk_counts.proofs.leads.lead_at.Tie as tie

pub lead_at_spec : {M : Type 1} → statement M
unfolding lookup leads
lead_at_spec =
    tie.close
    (tie.spec
    (λ c. found leads c.in-0.is refl)
    (λ c. found leads c.in-1.is refl)
    (λ c. found leads c.in-3.is refl)
    (λ c. found leads c.in-7.is refl)
    (λ c. found leads c.in-8.is refl)
    (λ c. found leads c.in-9.is refl)
    (λ c. found leads c.in-12.is refl)
    (λ c. found leads c.in-14.is refl)
    (λ c. found leads c.in-16.is refl)
    (λ c. found leads c.in-17.is refl)
    (λ c. found leads c.in-19.is refl)
    (λ c. found leads c.in-20.is refl)
    (λ c. found leads c.in-21.is refl)
    (λ c. found leads c.in-23.is refl)
    (λ c. found leads c.in-26.is refl)
    (λ c. found leads c.in-27.is refl)
    (λ c. found leads c.in-29.is refl)
    (λ c. found leads c.in-33.is refl)
    (λ c. found leads c.in-37.is refl)
    (λ c. found leads c.in-45.is refl)
    (λ c. found leads c.in-47.is refl)
    (λ c. found leads c.in-49.is refl)
    (λ c. found leads c.in-52.is refl)
    (λ c. found leads c.in-53.is refl)
    (λ c. found leads c.in-54.is refl)
    (λ c. found leads c.in-55.is refl)
    (λ c. found leads c.in-56.is refl)
    (λ c. found leads c.in-59.is refl)
    (λ c. found leads c.in-60.is refl)
    (λ c. found leads c.in-61.is refl)
    (λ c. found leads c.in-64.is refl)
    (λ c. found leads c.in-67.is refl)
    (λ c. found leads c.in-71.is refl)
    (λ c. found leads c.in-73.is refl)
    (λ c. found leads c.in-75.is refl)
    (λ c. found leads c.in-80.is refl)
    (λ c. found leads c.in-86.is refl)
    (λ c. found leads c.in-95.is refl)
    (λ c. found leads c.in-97.is refl)
    (λ c. found leads c.in-98.is refl)
    (λ c. found leads c.in-99.is refl)
    (λ c. missed _ leads c.in_default.in_default-own.rest))
