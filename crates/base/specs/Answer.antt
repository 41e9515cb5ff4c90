-- What a call answers, and what that does to the lent buffer (01, "Where each refusal arises"). Every call's contract cites these.
-- Assumes nothing.
use Rattle.std.specs.Prelude.{ℕ, zero, suc, ◌≡◌, Bool, cond, List, [], ◌∷◌, ltb, length}
use Rattle.base.specs.Buffer.{over}
use Rattle.base.specs.declared.Answer.{Answer}

-- the numbers of 01's table, downwards: a setting outside its range, no code, a malformed text, a sign that is refused, a size above its limit, no
-- sentence, a buffer that is shorter than the answer; and those of 02 (W4): a tally that is full, a sum above the money limit, no amount under an item number
abbrev pub wrong_setting : ℕ
wrong_setting = 1

abbrev pub wrong_code : ℕ
wrong_code = 2

abbrev pub malformed : ℕ
malformed = 3

abbrev pub wrong_sign : ℕ
wrong_sign = 4

abbrev pub too_large : ℕ
too_large = 5

abbrev pub no_sentence : ℕ
no_sentence = 6

abbrev pub no_room : ℕ
no_room = 7

abbrev pub tally_full : ℕ
tally_full = 8

abbrev pub sum_too_large : ℕ
sum_too_large = 9

abbrev pub not_held : ℕ
not_held = 10

-- conditions, each with its number: "the first that applies is given", 0 where none does
abbrev pub first_of : List (Bool × ℕ) → ℕ
first_of [] = 0
first_of (c ∷ cs) = cond c.0 c.1 (first_of cs)

-- what a spelling call comes to, before a buffer is looked at: its refusal, 0 for none, and its phrase
pub record Spelling : Type 0 where
  pub refusal : ℕ
  pub phrase : List ℕ

-- a refusal's number with the length that it reports, or the bytes of an answer
pub data Reply : Type 0 where
  refused : ℕ → ℕ → Reply
  bytes : List ℕ → Reply

-- the number of a reply: 0 where nothing is refused
abbrev pub number_of : Reply → ℕ
number_of (refused n l) = n
number_of (bytes b) = 0

-- the length that it reports: "the answer's", or what comes with the refusal
abbrev pub length_of : Reply → ℕ
length_of (refused n l) = l
length_of (bytes b) = length b

-- what the buffer xs holds then: "A refusal changes no buffer"
abbrev pub buffer_of : List ℕ → Reply → List ℕ
buffer_of xs (refused n l) = xs
buffer_of xs (bytes b) = over xs b

-- the bytes b for the buffer xs; where it is "shorter than the answer", refusal 7, which "reports the length needed"
abbrev pub fitted : List ℕ → List ℕ → Reply
fitted xs b = cond (ltb (length xs) (length b)) (refused no_room (length b)) (bytes b)

-- the refusal n, whose length "is 0", or where n is 0 another reply
abbrev pub unless : ℕ → Reply → Reply
unless zero reply = reply
unless (suc n) reply = refused (suc n) 0

-- the reply of a spelling call for the buffer xs
abbrev pub replied : Spelling → List ℕ → Reply
replied S xs = unless S.refusal (fitted xs S.phrase)

-- the answer r, with the buffer xs left as ys, is this reply
pub record Answers (r : Answer) (xs ys : List ℕ) (reply : Reply) : Type 0 where
  pub reported : r.number ≡ number_of reply
  pub sized : r.length ≡ length_of reply
  pub held : ys ≡ buffer_of xs reply
