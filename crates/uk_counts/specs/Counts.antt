-- The words that count a scale in a compound, as the reader knows them: their first bytes lead to a byte that tells words apart which begin alike.
-- What it makes of these is held against the ordinal's own words afterwards, so nothing here has to be believed. Made by tools/gen_counts.py.
-- Assumes nothing.
use Rattle.std.specs.Prelude.{ℕ, ◌+◌, ◌/◌, ◌%◌, cond, ◌||◌, List, [], ◌∷◌, ltb, length, take, get_or}
use Rattle.base.specs.Bytes.{num}
use Rattle.meanings.specs.Lookup.{Entries, lookup}

-- by the first bytes of a word, 16 times by how much the byte that tells is moved, and where it stands
unfoldable pub leads : Entries
leads =
    (99, 166) ∷ (98, 22) ∷ (97, 375) ∷ (95, 77) ∷ (86, 38) ∷ (80, 262) ∷ (75, 38) ∷ (73, 134) ∷ (71, 262) ∷ (67, 537)
    ∷ (64, 38) ∷ (61, 22) ∷ (60, 294) ∷ (59, 22) ∷ (56, 286) ∷ (55, 22) ∷ (54, 38) ∷ (53, 214) ∷ (52, 22) ∷ (49, 38) ∷
    (47, 38) ∷ (45, 265) ∷ (37, 22) ∷ (33, 38) ∷ (29, 247) ∷ (27, 118) ∷ (26, 150) ∷ (23, 278) ∷ (21, 38) ∷ (20, 58) ∷
    (19, 12) ∷ (17, 38) ∷ (16, 182) ∷ (14, 342) ∷ (12, 503) ∷ (9, 10) ∷ (8, 326) ∷ (7, 555) ∷ (3, 40) ∷ (1, 310) ∷
    (0, 38) ∷ []

-- by that byte, moved, 64 times how many the word counts, and its length; сот counts 1000, since it makes hundreds of what stands before it
unfoldable pub counts : Entries
counts =
    (63, 981) ∷ (62, 5779) ∷ (61, 1241) ∷ (60, 590) ∷ (59, 331) ∷ (58, 329) ∷ (56, 589) ∷ (55, 3221) ∷ (54, 3219) ∷
    (38, 136) ∷ (37, 6406) ∷ (36, 64006) ∷ (35, 524) ∷ (34, 652) ∷ (33, 394) ∷ (32, 6406) ∷ (31, 1176) ∷ (30, 1046) ∷
    (29, 72) ∷ (28, 1108) ∷ (27, 456) ∷ (26, 724) ∷ (25, 202) ∷ (24, 64006) ∷ (23, 2572) ∷ (22, 5142) ∷ (21, 3860) ∷
    (20, 788) ∷ (19, 4498) ∷ (17, 272) ∷ (16, 920) ∷ (15, 5781) ∷ (14, 1243) ∷ (13, 982) ∷ (12, 852) ∷ (11, 1296) ∷
    (9, 591) ∷ (8, 330) ∷ (4, 3220) ∷ (3, 1936) ∷ (2, 5780) ∷ (1, 1242) ∷ (0, 983) ∷ []

-- what the first bytes of s lead to
unfoldable pub lead_of : List ℕ → ℕ
lead_of s = lookup (num (take 7 s) % 16511 % 100) leads

-- the entry of the count word at the front of s
unfoldable pub entry_of : List ℕ → ℕ
entry_of s = lookup ((lead_of s / 16 + get_or s (lead_of s % 16) 0) % 64) counts

-- the same, or 0 where s is too short for one: behind a count stand at least six letters
unfoldable pub count_of : List ℕ → ℕ
count_of s = cond (ltb (length s) 16 || ltb (length s) (entry_of s % 64)) 0 (entry_of s)
