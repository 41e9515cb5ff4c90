use Rattle.fr.proofs.Tables.{known_fits, mille_word, scale_word_lem, scale_one, scale_more}
use Rattle.fr.proofs.scale.Goals.{then-order-eq1-via-then-order-eq1, then-order-eq1-via-else-order-eq1+then-g-eq1}
use Rattle.fr.proofs.scale.Goals as goal

pub returns-then-order-eq1 : goal.returns-then-order-eq1
returns-then-order-eq1 c = elim c.then-order-eq1.branch [
  | then-order-eq1-via-then-order-eq1 w ↦ mille_word _ _ w.if-order-eq1.true
  | then-order-eq1-via-else-order-eq1+then-g-eq1 w ↦ rw (← scale_one _ c.args.g w.if-order-eq1.false w.if-g-eq1.true) (scale_word_lem _ c.args.g w.if-order-eq1.false c.requires.0 c.requires.1).one
]

pub overflow_add-result : goal.overflow_add-result
overflow_add-result c = record { fits = known_fits _ (scale_word_lem _ c.args.g c.if-order-eq1.false c.requires.0 c.requires.1).more.known }

pub returns : goal.returns
returns c = rw (← scale_more _ c.args.g c.if-order-eq1.false c.if-g-eq1.false) (scale_word_lem _ c.args.g c.if-order-eq1.false c.requires.0 c.requires.1).more
