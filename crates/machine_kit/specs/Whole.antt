-- A language as a machine knows it.
use Rattle.std.specs.Prelude.{ℕ, ◌+◌}
use Rattle.evaluation_kit.specs.Languages.{Language, func, exec}
use Rattle.machine_kit.specs.Acts.{Acts, inner_size}

module _ {I : Type 0} {F : Type 0 → Type 0} {V S : Type 0} (L : Language I F V S) where
  -- how much there is of an instruction, the code inside it included
  abbrev pub instr_size : I → ℕ
  instr_size i = L.tree.fold ℕ (λ l. inner_size (λ n. n) (L.layer ℕ l) + 3) i

  -- by the layer of each instruction
  abbrev pub acts_of : (I → F I) → Acts I V S
  acts_of out = record {
    form = λ i. L.layer I (out i);
    exec = exec L;
    func = func L;
    callee = L.callee;
    size = instr_size;
  }
