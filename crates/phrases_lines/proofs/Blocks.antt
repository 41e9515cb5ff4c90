-- However the input falls into blocks, the program writes to it what it should.
-- Assumes nothing.
use Prim.Native.Nat.{ℕ}
use mathlib.Core.Path.{◌≡◌, sym, ap, ◌∙◌}
use mathlib.Core.List.{List, ◌++◌, append_assoc, append-nil, flatten}
use Rattle.phrases_lines.specs.Program.{program, Blocks, no_blocks, one_more, WholeInput}

from : {p r v : List ℕ} {bs : List (List ℕ)} → Blocks p bs v r → program (p ++ flatten bs) ≡ v ++ program r
unfolding flatten
from (no_blocks p) = ap program (append-nil p)
from (one_more p q r block w v bs a b) = a (flatten bs) ∙ ap (λ (l : List ℕ). w ++ l) (from b) ∙ sym (append_assoc w v (program r))

pub whole_input : WholeInput
whole_input bs w q b = from b
