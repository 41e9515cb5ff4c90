-- Settings that were chosen are in their ranges.
-- Assumes nothing.
use Rattle.std.proofs.Common.{◌≡◌, true, Ok, refl}
use borrow.Author.Tests.{lt-ltb}
use Rattle.base.proofs.Refusals.{answers_refused, measures_refused, reads_refused}
use Rattle.settings.specs.Settings.{Settings, ukrainian_ranges, french_ranges, within}
use Rattle.settings.specs.Chosen.{numbers_of, Chooses, ChoosesFrench}
use Rattle.settings.specs.declared.ukrainian.Ukrainian.{Ukrainian}
use Rattle.settings.specs.declared.french.French.{French}
use Rattle.settings.proofs.Chosen.{gender_bound, number_bound, case_bound, apostrophe_bound, style_bound, feminine_bound, spelling_bound, region_bound}

pub numbers_within : (s : Ukrainian) → within (ukrainian_ranges (numbers_of s)) ≡ true
numbers_within s =
    simp (lt-ltb _ _ (gender_bound s.gender), lt-ltb _ _ (number_bound s.number), lt-ltb _ _ (case_bound s.case), lt-ltb _ _ (apostrophe_bound s.apostrophe), lt-ltb _ _ (style_bound s.style))

pub chosen_within : (s : Ukrainian) (S : Settings) → Chooses (Ok s) S → within (ukrainian_ranges S) ≡ true
chosen_within s S c = rw (← c.chosen s refl) (numbers_within s)

pub chosen_within_french : (s : French) (S : Settings) → ChoosesFrench (Ok s) S → within (french_ranges S) ≡ true
chosen_within_french s S c =
    rw (← c.chosen s refl) (simp (lt-ltb _ _ (feminine_bound s.feminine), lt-ltb _ _ (spelling_bound s.spelling), lt-ltb _ _ (region_bound s.region)))

-- a refusal of a call's text, once its settings are chosen
pub ruleset handed = (answers_refused, measures_refused, reads_refused, chosen_within, chosen_within_french)
