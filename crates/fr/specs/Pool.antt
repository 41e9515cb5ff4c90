-- The French texts, those that overlap sharing their bytes: it ties the code to the tables. Made by tools/gen_words.py.
-- Assumes nothing.
use Rattle.std.specs.Prelude.{ℕ, List, ◌++◌}
use Rattle.base.specs.Utf8.{utf8}

-- all of them, one over another
unfoldable pub fr_pool : List ℕ
fr_pool =
    utf8 "cinquante_dix-neufquarantequatorzenonante_quinzetreizetrentedouze_ième_mille_seize_centdeuxonzedix-s"
    ++ (utf8 "eptantedix-huitantevingtroisoixanteunetquatre-vingtsix_quattuordécilliardsquattuordécillions_quindéc"
    ++ (utf8 "illiardstrédécilliardsduodécilliards_quindécillions_duodécillionsunodécillionsquadrilliards_quintill"
    ++ (utf8 "iards_quadrillionsquatre-centsquintillionsnonilliards_octilliards_cinq-centsdeux-centshuit-centsneuf"
    ++ (utf8 "-centsnonillionstrilliardsbilliards_milliards_billionsmillionspremier_moins_zéroctillionsunodécillia"
    ++ (utf8 "rdsix-centsextillionsextilliardstrédécillionsexdécillionstrois-centsexdécilliardseptillionseptilliar"
    ++ (utf8 "dstrillionsept-centsquatre centscinq centsdeux centshuit centsneuf centstrois centsix centsept cents"))))))
