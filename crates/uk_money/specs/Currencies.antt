-- The 44 currencies in from_str's order (01, "Ukrainian money"): their nouns are those of `currencies` and `currency_fraction` in uk.rs, their
-- genders those of `currency_properties` and `currency_fraction_properties`.
-- Assumes nothing.
use Prim.Native.String.{String}
use Rattle.std.specs.Prelude.{List, [], ◌∷◌}
use Rattle.uk_money.specs.Nouns.{hard2, soft2, vowel1, hard1, adj, undeclined, hryvnia, kopiyka, Name, masculine_name, feminine_name, masculine_pair}

-- a currency: its code, and the names of its main unit and of its fraction
pub record Currency : Type 0 where
  pub code : String
  pub main : Name
  pub fraction : Name

-- a currency from its code and the names of its units
abbrev pub currency : String → Name → Name → Currency
currency code main fraction = record { code = code; main = main; fraction = fraction }

-- all 44, in from_str's order
unfoldable pub currencies : List Currency
currencies =
    currency "AED" (masculine_name "дирхам" hard2) (masculine_name "філс" hard2) ∷
    currency "ARS" (masculine_name "песо" undeclined) (masculine_name "сентаво" undeclined) ∷
    currency "AUD" (masculine_name "долар" hard2) (masculine_name "цент" hard2) ∷
    currency "BRL" (masculine_name "реал" hard2) (masculine_name "сентаво" undeclined) ∷
    currency "CAD" (masculine_name "долар" hard2) (masculine_name "цент" hard2) ∷
    currency "CHF" (masculine_name "франк" hard2) (masculine_name "сантим" hard2) ∷
    currency "CLP" (masculine_name "песо" undeclined) (masculine_name "сентаво" undeclined) ∷
    currency "CNY" (masculine_name "юан" soft2) (masculine_name "фен" soft2) ∷
    currency "COP" (masculine_name "песо" undeclined) (masculine_name "сентаво" undeclined) ∷
    currency "CRC" (masculine_name "колон" hard2) (masculine_name "сантимо" undeclined) ∷
    currency "DINAR" (masculine_name "динар" hard2) (masculine_name "філс" hard2) ∷
    currency "DOLLAR" (masculine_name "долар" hard2) (masculine_name "цент" hard2) ∷
    currency "DZD" (masculine_name "динар" hard2) (masculine_name "філс" hard2) ∷
    currency "EUR" (masculine_name "євро" undeclined) (masculine_name "євроцент" hard2) ∷
    currency "GBP" (masculine_name "фунт" hard2) (masculine_name "пенс" hard2) ∷
    currency "HKD" (masculine_name "долар" hard2) (masculine_name "цент" hard2) ∷
    currency "IDR" (masculine_name "рупі" vowel1) (masculine_name "сен" hard2) ∷
    currency "ILS" (masculine_pair "нов" adj "шекел" soft2) (feminine_name "агор" hard1) ∷
    currency "INR" (feminine_name "рупі" vowel1) (masculine_name "пайс" hard2) ∷
    currency "JPY" (feminine_name "єн" hard1) (masculine_name "сен" hard2) ∷
    currency "KRW" (feminine_name "вон" hard1) (masculine_name "чон" hard2) ∷
    currency "KWD" (masculine_name "динар" hard2) (masculine_name "філс" hard2) ∷
    currency "KZT" (masculine_name "tenge" undeclined) (masculine_name "тиїн" hard2) ∷
    currency "MXN" (masculine_name "песо" undeclined) (masculine_name "сентаво" undeclined) ∷
    currency "MYR" (masculine_name "рингіт" hard2) (masculine_name "сен" hard2) ∷
    currency "NOK" (feminine_name "крон" hard1) (masculine_name "оре" undeclined) ∷
    currency "NZD" (masculine_name "долар" hard2) (masculine_name "цент" hard2) ∷
    currency "PEN" (masculine_name "сол" soft2) (masculine_name "сентімо" undeclined) ∷
    currency "PESO" (masculine_name "песо" undeclined) (masculine_name "сентаво" undeclined) ∷
    currency "PHP" (masculine_name "песо" undeclined) (masculine_name "сентаво" undeclined) ∷
    currency "PLN" (masculine_name "злот" adj) (masculine_name "грош" hard2) ∷
    currency "QAR" (masculine_name "ріал" hard2) (masculine_name "філс" hard2) ∷
    currency "RIYAL" (masculine_name "ріал" hard2) (masculine_name "філс" hard2) ∷
    currency "RUB" (masculine_name "рубл" vowel1) (feminine_name "копійк" hard1) ∷
    currency "SAR" (masculine_name "ріал" hard2) (masculine_name "філс" hard2) ∷
    currency "SGD" (masculine_name "долар" hard2) (masculine_name "цент" hard2) ∷
    currency "THB" (masculine_name "бат" hard2) (masculine_name "cатанг" hard2) ∷
    currency "TRY" (feminine_name "куруш" hard1) (feminine_name "лір" hard1) ∷
    currency "TWD" (masculine_name "долар" hard2) (masculine_name "цент" hard2) ∷
    currency "UAH" (feminine_name "" hryvnia) (feminine_name "" kopiyka) ∷
    currency "USD" (masculine_name "долар" hard2) (masculine_name "цент" hard2) ∷
    currency "UYU" (masculine_name "песо" undeclined) (masculine_name "сентаво" undeclined) ∷
    currency "VND" (masculine_name "донг" hard2) (masculine_name "су" undeclined) ∷
    currency "ZAR" (masculine_name "ранд" hard2) (masculine_name "цент" hard2) ∷ []
