-- What a call on a tally decides: what is refused, and the change that is weighed and stored.
-- Assumes nothing.
use Prim.Native.Nat.{ℕ, zero, suc, ◌+◌, ◌%◌, ◌≤◌, ◌<◌}
use mathlib.Core.Path.{◌≡◌, refl, sym, ap, ◌∙◌}
use mathlib.Core.Bool.{Bool, true, false, not, ◌&&◌, ◌||◌}
use mathlib.Core.List.{List, [], ◌∷◌, ◌++◌}
use mathlib.Core.Option.{some}
use native.Mathlib.Omega.{arith}
use borrow.Author.Tests.{lt-ltb, le-ltb, eq-eqb, ne_eqb}
use lib.Dec.{eqb, ltb}
use lib.ListN.{length, get_or, take, drop}
use Rattle.std.proofs.Common.{Result, Err, IfOk}
use Rattle.std.proofs.lemmas.Result.{IfOk-at_ok}
use Rattle.base.specs.Answer.{sum_too_large, first_of, Spelling, fitted, unless, replied, Answers}
use Rattle.base.specs.Refused.{refusal_number, refusal_length}
use Rattle.base.specs.Buffer.{over}
use Rattle.base.specs.Bytes.{num, low_bytes}
use Rattle.base.specs.declared.Refusal.{Refusal}
use Rattle.base.specs.declared.Refusal.TheVariants.{WrongSetting, WrongCode, Malformed, WrongSign, TooLarge, NoSentence, NoRoom, TallyFull, SumTooLarge, NotHeld}
use Rattle.settings.specs.Settings.{ukrainian_ranges, within, Within, Settings}
use Rattle.settings.specs.Refused.{out_of_range}
use Rattle.settings.specs.Chosen.{numbers_of}
use Rattle.settings.specs.declared.ukrainian.Ukrainian.{Ukrainian}
use Rattle.settings.proofs.Chosen.{settings_within}
use Rattle.figures.specs.Money.{whole_of, hundredths_of, money_limit}
use Rattle.figures.specs.Refusals.{amount_refusals, Admitted}
use Rattle.uk_money.specs.Currencies.{Currency}
use Rattle.uk_money.specs.Rows.{currency_at}
use Rattle.uk_money_calls.proofs.Texts.{admits}
use Rattle.tally.specs.Tally.{last_item, free_place, Tally, sum_in, is_under, exchanged}
use Rattle.tally.specs.Layout.{places_bytes, tally_bytes, places_in}
use Rattle.tally.specs.Sums.{place_under}
use Rattle.tally.specs.declared.Place.{Place}
use Rattle.tally.proofs.Places.{exchanged_set, under_found, places_length}
use Rattle.tally.proofs.Numbered.{place_of_code}
use Rattle.tally_calls.specs.TallyCalls.{sum_phrase, passes_limit, Move, is_full, next_place, adding, is_held, removing}
use Rattle.tally_calls.specs.Changes.{places_with, weighing, change_answer, Settles, Prepares}
use Rattle.tally_calls.specs.declared.deciding.Change.{Change}

-- a place is told by its numbers
place_is_lem : (p : Place) {item whole hundredths : ℕ} → p.item ≡ item → p.whole ≡ whole → p.hundredths ≡ hundredths → p ≡ record { item = item; whole = whole; hundredths = hundredths }
place_is_lem p i w h = rw (← i, ← w, ← h) refl

-- settings in their ranges pass the test
within_test : (rs : List (ℕ × ℕ)) → Within rs → within rs ≡ true
within_test [] w = refl
within_test (r ∷ rs) w = rw (lt-ltb r.0 r.1 w.0, within_test rs w.1) refl

pub ranges : (settings : Ukrainian) → within (ukrainian_ranges (numbers_of settings)) ≡ true
ranges settings = within_test (ukrainian_ranges (numbers_of settings)) (settings_within settings)

-- the spelling of a sum that only the limit can refuse
abbrev sum_spelling : Settings → Currency → ℕ → Spelling
sum_spelling S c sum = record { refusal = first_of ((passes_limit sum, sum_too_large) ∷ []); phrase = sum_phrase S c sum }

-- no refusal's number is 0
pub numbered : (e : Refusal) → refusal_number e ≡ 0 → ⊥
numbered WrongSetting z = omega arith
numbered WrongCode z = omega arith
numbered Malformed z = omega arith
numbered WrongSign z = omega arith
numbered TooLarge z = omega arith
numbered NoSentence z = omega arith
numbered (NoRoom needed) z = omega arith
numbered TallyFull z = omega arith
numbered SumTooLarge z = omega arith
numbered NotHeld z = omega arith

-- a refusal that reports no length is the one of a spelling with this refusal, and of a call with this spelling
module _ (e : Refusal) (l : refusal_length e ≡ 0) where
  weighs_refused : (xs : List ℕ) (spelling : Spelling) → spelling.refusal ≡ refusal_number e → Answers (change_answer (Err e)) xs xs (replied spelling xs)
  weighs_refused xs spelling r = rw r (go (refusal_number e) refl (numbered e))
    where
      go : (n : ℕ) → refusal_number e ≡ n → (n ≡ 0 → ⊥) → Answers (change_answer (Err e)) xs xs (unless n (fitted xs spelling.phrase))
      go zero r s = absurd (s refl)
      go (suc m) r s = record { reported = r; sized = l; held = refl }

  pub decides_refused : (ts xs : List ℕ) (move : Move) → move.report.spelling.refusal ≡ refusal_number e → Prepares (Err e) ts xs xs move
  decides_refused ts xs move r = record { weighs = weighs_refused xs move.report.spelling r; settles = λ d q. cc }

-- a place put in the first with an item number, where one of the 64 has it, and so many item numbers given
module _ (currency : ℕ) (ts : List ℕ) (i given : ℕ) (q : Place) where
  abbrev places : List Place
  places = places_in 64 (drop 5 ts)

  abbrev exchanged_tally : Tally
  exchanged_tally = record { currency = currency_at currency; given = given; places = exchanged i q places }

  -- the call that comes to it
  abbrev exchanged_move : Settings → Move
  exchanged_move S = record { report = record { spelling = sum_spelling S (currency_at currency) (sum_in (exchanged i q places)); item = q.item }; after = tally_bytes exchanged_tally }

  module _ (found : place_under i places < 64) where
    places_are : exchanged i q places ≡ places_with (place_under i places) q ts
    places_are = exchanged_set i q places (rw places_length found)

    -- what is stored of it
    bytes_are : currency < 44 → get_or ts 0 0 ≡ suc currency → tally_bytes exchanged_tally ≡ get_or ts 0 0 ∷ (low_bytes 4 given ++ places_bytes (places_with (place_under i places) q ts))
    bytes_are below numbered =
        let e : suc currency % 256 ≡ suc currency = omega arith in
        rw (places_are, place_of_code currency below, e, numbered) refl

    -- a change that was weighed so is what the call decides
    decides_weighed : (S : Settings) (r : Result Change Refusal) (xs ys : List ℕ) → currency < 44 → get_or ts 0 0 ≡ suc currency → 837 ≤ length ts
        → Answers (change_answer r) xs ys (replied (weighing S currency (place_under i places) q ts) xs) → IfOk r (λ d. (d.given ≡ given) × (d.at ≡ place_under i places) × (d.place ≡ q))
        → Prepares r ts xs ys (exchanged_move S)
    decides_weighed S r xs ys below numbered long w s = record { weighs = rw places_are w; settles = λ d e. go d (IfOk-at_ok _ e s) }
      where
        go : (d : Change) → (d.given ≡ given) × (d.at ≡ place_under i places) × (d.place ≡ q) → Settles d ts (exchanged_move S)
        go d z =
            let e : get_or ts 0 0 ∷ (low_bytes 4 d.given ++ places_bytes (places_with d.at d.place ts)) ≡ tally_bytes exchanged_tally =
            rw (z.0, z.1, z.2) (sym (bytes_are below numbered)) in
            record { item_is = ap (λ (p : Place). p.item) z.2; place_below = rw z.1 found; long = long; after = ap (over ts) e }

-- the tally of a currency that lies in some bytes
abbrev pub tally_at : ℕ → List ℕ → Tally
tally_at currency ts = record { currency = currency_at currency; given = num (take 4 (drop 1 ts)); places = places_in 64 (drop 5 ts) }

-- calls on it under settings in their ranges
module _ (settings : Ukrainian) (currency : ℕ) (ts : List ℕ) where
  abbrev S : Settings
  S = numbers_of settings

  abbrev tally : Tally
  tally = tally_at currency ts

  -- a place has an item number if it is found among the 64
  under_is : (i : ℕ) → is_under i tally.places ≡ ltb (place_under i tally.places) 64
  under_is i = under_found i tally.places ∙ ap (ltb (place_under i tally.places)) (places_length 64 (drop 5 ts))

  -- a tally whose item numbers are given, or with no free place, is full
  either : (b : Bool) → (b || true) ≡ true
  either true = refl
  either false = refl

  pub full_last : tally.given ≡ last_item → is_full tally ≡ true
  full_last e = rw (eq-eqb tally.given last_item e) (either (not (is_under 0 tally.places)))

  pub full_places : place_under 0 tally.places ≡ 64 → is_full tally ≡ true
  full_places e = rw (under_is 0, le-ltb (place_under 0 tally.places) 64 (omega arith)) refl

  -- no amount is held under an item number that no place has
  pub none_under : (i : ℕ) → place_under i tally.places ≡ 64 → is_held i tally ≡ false
  none_under i e = rw (under_is i, le-ltb (place_under i tally.places) 64 (omega arith)) (neither (not (eqb i 0)))
    where
      neither : (b : Bool) → (b && false) ≡ false
      neither true = refl
      neither false = refl

  -- adding an admitted text
  module _ (t : List ℕ) (a : Admitted (amount_refusals t)) where
    -- neither the settings nor the text are refused
    add_refusal : (cs : List (Bool × ℕ)) → first_of (out_of_range (ukrainian_ranges S) ∷ (amount_refusals t ++ cs)) ≡ first_of cs
    add_refusal cs = let p = admits t a in rw (ranges settings, p.formed, p.sign, le-ltb money_limit (whole_of t) p.within) refl

    -- a place is free, and an item number is left
    pub decides_added : (r : Result Change Refusal) (xs ys : List ℕ) (given at : ℕ) (place : Place) → currency < 44 → get_or ts 0 0 ≡ suc currency → 837 ≤ length ts
        → given ≡ tally.given → (at < 64) × (place_under 0 tally.places ≡ at)
        → (place.item ≡ given + 1) × (place.whole ≡ whole_of t) × (place.hundredths ≡ hundredths_of t) × (place.hundredths < 100) → (given ≡ last_item → ⊥)
        → Answers (change_answer r) xs ys (replied (weighing S currency at place ts) xs) → IfOk r (λ d. (d.given ≡ given + 1) × (d.at ≡ at) × (d.place ≡ place))
        → Prepares r ts xs ys (adding S (some tally) t)
    decides_added r xs ys given at place below numbered long eg ea ep n w s =
        let g : given + 1 ≡ suc tally.given = omega arith in
        let p : place ≡ next_place tally t = place_is_lem place (ep.0 ∙ g) ep.1 ep.2 in
        let found : place_under 0 tally.places < 64 = omega arith in
        let full : is_full tally ≡ false = rw (under_is 0, lt-ltb _ _ found, ne_eqb tally.given last_item (λ e. n (eg ∙ e))) refl in
        rw (add_refusal, full)
        (decides_weighed currency ts 0 (suc tally.given) (next_place tally t) found S r xs ys below numbered long (rw (ea.1, ← p) w) (rw (ea.1, ← p, ← g) s))

    -- no place is free, or the last item number is given
    pub decides_full : (xs : List ℕ) → is_full tally ≡ true → Prepares (Err TallyFull) ts xs xs (adding S (some tally) t)
    decides_full xs full = decides_refused TallyFull refl ts xs (adding S (some tally) t) (rw (add_refusal, full) refl)

  -- removing the amount under an item number
  module _ (i : ℕ) where
    -- a place has it
    pub decides_removed : (r : Result Change Refusal) (xs ys : List ℕ) (given at : ℕ) → currency < 44 → get_or ts 0 0 ≡ suc currency → 837 ≤ length ts
        → given ≡ tally.given → (i ≡ 0 → ⊥) → (at < 64) × (place_under i tally.places ≡ at)
        → Answers (change_answer r) xs ys (replied (weighing S currency at free_place ts) xs) → IfOk r (λ d. (d.given ≡ given) × (d.at ≡ at) × (d.place ≡ free_place))
        → Prepares r ts xs ys (removing S (some tally) i)
    decides_removed r xs ys given at below numbered long eg n ea w s =
        let found : place_under i tally.places < 64 = omega arith in
        rw (ranges settings, ne_eqb i 0 n, under_is i, lt-ltb _ _ found)
        (decides_weighed currency ts i tally.given free_place found S r xs ys below numbered long (rw ea.1 w) (rw (ea.1, ← eg) s))

    -- no place has it
    pub decides_not_held : (xs : List ℕ) → is_held i tally ≡ false → Prepares (Err NotHeld) ts xs xs (removing S (some tally) i)
    decides_not_held xs held = decides_refused NotHeld refl ts xs (removing S (some tally) i) (rw (ranges settings, held) refl)
