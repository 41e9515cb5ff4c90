-- The twelve forms of a name by their places: the singular ones, then the plural ones, each by case. So a test over all settings is one over places.
-- Assumes nothing.
use Prim.Native.Nat.{ℕ, ◌+◌, ◌*◌, ◌/◌, ◌%◌, ◌<◌}
use mathlib.Core.Path.{◌≡◌, refl}
use mathlib.Core.List.{List}
use native.Mathlib.Omega.{arith}
use Rattle.base.specs.Join.{Word}
use Rattle.settings.specs.Settings.{letter_apostrophe, ported_style, ukrainian_settings, ukrainian_ranges, Within, Settings}
use Rattle.uk_money.specs.Nouns.{Name, form_of, name_forms}

unfoldable pub forms_at : Name → ℕ → List Word
forms_at name p = name_forms (ukrainian_settings 0 (p / 6) (p % 6) letter_apostrophe ported_style) name

-- where the form under some settings stands
abbrev pub form_place : Settings → ℕ
form_place S = 6 * S.number + S.case

module _ (S : Settings) (w : Within (ukrainian_ranges S)) where
  pub form_place_lem : form_place S < 12
  form_place_lem = omega (arith, w.1.0, w.1.1.0)

  pub forms_at_lem : (name : Name) → name_forms S name ≡ forms_at name (form_place S)
  unfolding forms_at name_forms form_of
  forms_at_lem name =
      let n : (6 * S.number + S.case) / 6 ≡ S.number = omega (arith, w.1.1.0) in
      let c : (6 * S.number + S.case) % 6 ≡ S.case = omega (arith, w.1.1.0) in
      rw (n, c) refl
