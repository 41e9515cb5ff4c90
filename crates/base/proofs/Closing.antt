-- The chain closed: what a kind's grammar and phrases have in common, the reading call's contract and the definitions of both calls give demand 3.
-- Assumes nothing.
use Prim.Native.Nat.{ℕ, zero, suc, ◌≤◌}
use mathlib.Core.Path.{◌≡◌, refl, subst}
use mathlib.Core.Bool.{Bool, true, false, cond}
use mathlib.Core.Logic.{◌⊎◌, inl, inr}
use mathlib.Core.List.{List}
use native.Mathlib.Omega.{arith}
use borrow.Author.Tests.{ltb-true, ltb-false, le-ltb}
use lib.Dec.{ltb}
use lib.ListN.{length}
use Rattle.base.specs.Answer.{no_room, Spelling, Reply, refused, bytes, fitted, unless, replied, Answers}
use Rattle.base.specs.Reading.{Reading, Replies, earlier, sentence, otherwise, Reads}
use Rattle.base.specs.Claim.{GivesText, Fits, GivesNoRoom, GivesNoSentence, Inverse}
use Rattle.base.specs.declared.Answer.{Answer}

-- of one kind: the phrase of every admitted text is a sentence with that text as its value; a sentence's value is admitted, and is spelled as that very
-- sentence; no phrase has two values
pub record Readable (IsAdmitted : List ℕ → Type 0) (phrase : List ℕ → List ℕ) (Means : List ℕ → List ℕ → Type 0) : Type 0 where
  pub phrase_means : (t : List ℕ) → IsAdmitted t → Means (phrase t) t
  pub means_phrase : (s t : List ℕ) → Means s t → IsAdmitted t × (phrase t ≡ s)
  pub one_value : (s t u : List ℕ) → Means s t → Means s u → t ≡ u

-- bytes fit where there is room
fits : (xs t : List ℕ) → length t ≤ length xs → fitted xs t ≡ bytes t
fits xs t l = rw (le-ltb (length xs) (length t) l) refl

-- what a reading call that refuses nothing before the phrase may answer
data Given (from : Reading) (s : List ℕ) (r : Answer) (xs ys : List ℕ) : Type 0 where
  gives_text : (t : List ℕ) → Fits from s xs t → GivesText r xs ys t → Given from s r xs ys
  gives_no_room : GivesNoRoom from s r xs ys → Given from s r xs ys
  gives_no_sentence : GivesNoSentence from s r xs ys → Given from s r xs ys

given : (from : Reading) (s : List ℕ) (r : Answer) (xs ys : List ℕ) → from.refusal ≡ 0 → Reads from s r xs ys → Given from s r xs ys
given from s r xs ys valid p = go p.is_reply p.is_answer
  where
    fitting : (t : List ℕ) → from.Means s t → (b : Bool) → ltb (length xs) (length t) ≡ b → Answers r xs ys (cond b (refused no_room (length t)) (bytes t)) → Given from s r xs ys
    fitting t m true e a = gives_no_room (t, m, ltb-true (length xs) (length t) e, a)
    fitting t m false e a = gives_text t (m, omega (arith, ltb-false (length xs) (length t) e)) a

    go : {reply : Reply} → Replies from s xs reply → Answers r xs ys reply → Given from s r xs ys
    go (earlier f) a = absurd (f valid)
    go (sentence z t m) a = fitting t m (ltb (length xs) (length t)) refl a
    go (otherwise z f) a = gives_no_sentence (f, a)

-- a spelling call that replies with bytes refuses nothing, and they are its phrase
spoken : (n : ℕ) (zs p s : List ℕ) → unless n (fitted zs p) ≡ bytes s → (n ≡ 0) × (p ≡ s)
spoken (suc n) zs p s e = absurd (clash e)
  where
    clash : refused (suc n) 0 ≡ bytes s → ⊥
    clash e = let z : ◌≡◌ {A = ℕ} 0 1 = cc in absurd (omega arith)
spoken zero zs p s e = (refl, go (ltb (length zs) (length p)) e)
  where
    go : (b : Bool) → cond b (refused no_room (length p)) (bytes p) ≡ bytes s → p ≡ s
    go true e = let z : ◌≡◌ {A = ℕ} 0 1 = cc in absurd (omega arith)
    go false e = cc

module _ {IsAdmitted : List ℕ → Type 0} {to : List ℕ → Spelling} {from : Reading} (valid : from.refusal ≡ 0)
    (passes : (t : List ℕ) → IsAdmitted t → (to t).refusal ≡ 0) (admits : (t : List ℕ) → (to t).refusal ≡ 0 → IsAdmitted t)
    (R : Readable IsAdmitted (λ (t : List ℕ). (to t).phrase) from.Means) where
  -- what is answered to a sentence
  value : {s xs ys : List ℕ} {r : Answer} → Reads from s r xs ys → (t : List ℕ) → from.Means s t → Answers r xs ys (fitted xs t)
  value {s} {xs} {ys} {r} p t m = go p.is_reply p.is_answer
    where
      go : {reply : Reply} → Replies from s xs reply → Answers r xs ys reply → Answers r xs ys (fitted xs t)
      go (earlier f) a = absurd (f valid)
      go (sentence z u n) a = subst (λ (v : List ℕ). Answers r xs ys (fitted xs v)) (R.one_value s u t n m) a
      go (otherwise z f) a = absurd (f t m)

  text_is : {s xs ys : List ℕ} {r : Answer} → Given from s r xs ys → r.number ≡ 0 → (t : List ℕ) × Fits from s xs t × GivesText r xs ys t
  text_is (gives_text t m a) z = (t, m, a)
  text_is (gives_no_room p) z = absurd (omega (arith, z, p.3.reported))
  text_is (gives_no_sentence p) z = absurd (omega (arith, z, p.1.reported))

  otherwise_is : {s xs ys : List ℕ} {r : Answer} → Given from s r xs ys → (r.number ≡ 0 → ⊥) → GivesNoRoom from s r xs ys ⊎ GivesNoSentence from s r xs ys
  otherwise_is (gives_text t m a) z = absurd (z a.reported)
  otherwise_is (gives_no_room p) z = inl p
  otherwise_is (gives_no_sentence p) z = inr p

  respelled : (s t : List ℕ) → from.Means s t → (zs : List ℕ) → length s ≤ length zs → replied (to t) zs ≡ bytes s
  respelled s t m zs l =
      let p = R.means_phrase s t m in
      rw (passes t p.0, p.1) (fits zs s l)

  spelled : (s t zs : List ℕ) → replied (to t) zs ≡ bytes s → from.Means s t
  spelled s t zs e =
      let p = spoken (to t).refusal zs (to t).phrase s e in
      subst (λ (x : List ℕ). from.Means x t) p.1 (R.phrase_means t (admits t p.0))

  pub inverse : Inverse IsAdmitted to from
  inverse = record {
    if_answered = λ {s} {xs} {ys} {r} p. text_is (given from s r xs ys valid p);
    answers_if = λ {s} {xs} {ys} {r} p t m. subst (Answers r xs ys) (fits xs t m.1) (value p t m.0);
    otherwise_gives = λ {s} {xs} {ys} {r} p. otherwise_is (given from s r xs ys valid p);
    spelled_as = λ s t m. ((R.means_phrase s t m).0, respelled s t m);
    no_other = λ s t u zs m e. R.one_value s u t (spelled s u zs e) m;
    is_sentence = spelled;
    is_spelled = passes;
    read_as = λ t a p. value p t (R.phrase_means t a);
  }
