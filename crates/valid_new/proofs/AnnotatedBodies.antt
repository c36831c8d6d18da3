-- A body with its types.
use Rattle.std.proofs.Common.{◌≡◌, Bool, true, false, ◌&&◌, List, [], ◌∷◌, refl, ap, sym, subst, ◌∙◌}
use Rattle.std.specs.List.{AllByRecursion, list_all}
use Rattle.wasm_ast.specs.declared.module.ty.Ty.{Ty}
use Rattle.wasm_ast.specs.declared.module.ty.FuncType.{FuncType}
use Rattle.wasm_ast.specs.declared.module.code.Body.{Body as CodeBody}
use Rattle.wasm_ast.specs.declared.module.code.Instr.{Instr}
use Rattle.wasm_ast.specs.declared.module.parts.Module.{Module}
use Rattle.typing_kit.specs.Matching.{known}
use Rattle.typing_kit.specs.Typing.{TypedCode}
use Rattle.typed_trees.specs.declared.node.Node.{Node}
use Rattle.typed_trees.specs.Contexts.{Context, is_value_type}
use Rattle.typed_trees.specs.Forms.{language}
use Rattle.typed_trees.specs.Modules.{TypedBody, context}
use Rattle.typed_trees.specs.Trees.{TypedNodes}
use Rattle.valid_new.specs.Annotated.{Annotated}
use Rattle.valid_new.specs.Bodies.{Body}
use Rattle.valid_new.specs.Judged.{CodeTyped, Decided}
use Rattle.valid_new.specs.Scopes.{inside}
use Rattle.valid_new.proofs.Tops.{both_true}

values_all : (ts : List Ty) → list_all is_value_type ts ≡ true → AllByRecursion (λ s. is_value_type s ≡ true) ts
values_all [] h = tt
values_all (t ∷ ts) h = let both = both_true (is_value_type t) (list_all is_value_type ts) h in (both.0, values_all ts both.1)

all_values : (ts : List Ty) → AllByRecursion (λ s. is_value_type s ≡ true) ts → list_all is_value_type ts ≡ true
all_values [] h = refl
all_values (t ∷ ts) h = ap (λ b. b && list_all is_value_type ts) h.0 ∙ all_values ts h.1

module _ (m : Module) (t : FuncType) (body : CodeBody) where
  pub no_values : list_all is_value_type body.locals ≡ false → TypedBody m t body → ⊥
  no_values f typed = let h = all_values body.locals typed.locals in let no : ⊥ = cc in absurd no

  pub annotated : (c : Context) (locals declared : List Ty) (nodes : List Node) → c ≡ context m → locals ≡ body.locals → declared ≡ body.locals → list_all is_value_type body.locals ≡ true → Body (inside c t declared) (t.results ∷ []) body.code [] t.results nodes → Annotated m t body (record { locals = locals; body = nodes })
  annotated c locals declared nodes e copy is values b =
      let all = values_all body.locals values in
      record {
        typed = record {
          locals = all;
          code = subst (λ l. TypedCode (language (inside (context m) t l)) (t.results ∷ []) body.code [] (known t.results)) is (subst (λ x. TypedCode (language (inside x t declared)) (t.results ∷ []) body.code [] (known t.results)) e b.typed);
        };
        tree = record {
          locals = subst (AllByRecursion (λ s. is_value_type s ≡ true)) (sym copy) all;
          end = b.end;
          nodes = subst (λ l. TypedNodes (inside (context m) t l) (t.results ∷ []) nodes [] b.end) (is ∙ sym copy) (subst (λ x. TypedNodes (inside x t declared) (t.results ∷ []) nodes [] b.end) e b.nodes_typed);
          ends = b.ends;
        };
        locals = copy;
        code = b.tree;
      }

  -- the same of a body of which nothing is kept
  pub body_decided : (c : Context) (locals : List Ty) (code : List Instr) (typed : Bool) → c ≡ context m → locals ≡ body.locals → code ≡ body.code → list_all is_value_type body.locals ≡ true → Decided typed (CodeTyped (inside c t locals) (t.results ∷ []) code [] t.results) → Decided typed (TypedBody m t body)
  body_decided c locals code typed e is same values d = go typed
      (subst (λ x. Decided typed (CodeTyped (inside x t body.locals) (t.results ∷ []) body.code [] t.results)) e
      (subst (λ l. Decided typed (CodeTyped (inside c t l) (t.results ∷ []) body.code [] t.results)) is
      (subst (λ l. Decided typed (CodeTyped (inside c t locals) (t.results ∷ []) l [] t.results)) same d)))
    where
      go : (b : Bool) → Decided b (CodeTyped (inside (context m) t body.locals) (t.results ∷ []) body.code [] t.results) → Decided b (TypedBody m t body)
      go true d = record { locals = values_all body.locals values; code = d }
      go false d = λ h. d h.code
