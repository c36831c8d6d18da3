-- A language whose operands always have their types is as a machine takes it to be.
use Rattle.std.proofs.Common.{◌≡◌, ℕ, ◌+◌, ◌≤◌, true, List, [], ◌∷◌, map, refl, sym, ap, ◌∙◌, arith}
use Rattle.evaluation_kit.specs.Configurations.{Conf, Plain, Sem, plain_of}
use Rattle.evaluation_kit.specs.Control.{where_ready}
use Rattle.evaluation_kit.specs.Forms.{Form, Flat, Enclose, Repeat, Choose, Guard, Invoke, InvokeBy, map_form, eval}
use Rattle.evaluation_kit.specs.Languages.{Language, func, exec, exec_layer}
use Rattle.evaluation_kit.proofs.Functions.{func-entered}
use Rattle.machine_kit.specs.Acts.{Laws, total, inner_size}
use Rattle.machine_kit.specs.Whole.{instr_size, acts_of}

total_map : {I : Type 0} (size : I → ℕ) (code : List I) → total (λ n. n) (map size code) ≡ total size code
total_map size [] = refl
total_map size (i ∷ code) = ap (λ n. size i + n) (total_map size code)

inner_map : {I V S : Type 0} (size : I → ℕ) (form : Form V S I) → inner_size (λ n. n) (map_form size form) ≡ inner_size size form
inner_map size (Flat act) = refl
inner_map size (Enclose p r body) = total_map size body
inner_map size (Repeat p r body) = total_map size body
inner_map size (Choose test p r first second) = ap (λ n. n + total (λ n. n) (map size second)) (total_map size first) ∙ ap (λ n. total size first + n) (total_map size second)
inner_map size (Guard p r h body) = total_map size body
inner_map size (Invoke p x) = refl
inner_map size (InvokeBy p pick) = refl

module _ {I : Type 0} {F : Type 0 → Type 0} {V S : Type 0} (L : Language I F V S) (out : I → F I) (rolls : (i : I) → L.tree.roll (out i) ≡ i) (ready : (X : Type 0) (l : F X) (p : Plain V S) → L.ready X l p ≡ true) where
  -- an instruction by its layer
  by_layer : (i : I) → exec L i ≡ exec_layer L (func L) (L.tree.over I (Sem V S) (exec L) (out i))
  by_layer i = ap (exec L) (sym (rolls i)) ∙ L.tree.fold_roll (Sem V S) (exec_layer L (func L)) (out i)

  by_form : (i : I) (d n : ℕ) (c : Conf V S) → exec L i d n c ≡ eval (func L) (map_form (exec L) (L.layer I (out i))) d n c
  by_form i d n c =
      let l : F (Sem V S) = L.tree.over I (Sem V S) (exec L) (out i) in
      ap (λ (a : Sem V S). a d n c) (by_layer i)
      ∙ ap (λ b. where_ready b (eval (func L) (L.layer (Sem V S) l)) d n c) (ready (Sem V S) l (plain_of c))
      ∙ ap (λ form. eval (func L) form d n c) (L.layer_over I (Sem V S) (exec L) (out i))

  shrinks : (i : I) → inner_size (instr_size L) (L.layer I (out i)) + 3 ≤ instr_size L i
  shrinks i =
      let step : F ℕ → ℕ = λ l. inner_size (λ n. n) (L.layer ℕ l) + 3 in
      let whole : instr_size L i ≡ inner_size (instr_size L) (L.layer I (out i)) + 3 =
      ap (instr_size L) (sym (rolls i)) ∙ L.tree.fold_roll ℕ step (out i)
      ∙ ap (λ form. inner_size (λ n. n) form + 3) (L.layer_over I ℕ (instr_size L) (out i))
      ∙ ap (λ n. n + 3) (inner_map (instr_size L) (L.layer I (out i)))
      in omega arith

  pub laws_of : Laws (acts_of L out)
  laws_of = record {
    execs = by_form;
    enters = λ x d n c. func-entered L x d n c;
    shrinks = shrinks;
  }
