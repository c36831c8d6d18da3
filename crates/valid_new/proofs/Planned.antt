-- What typing an instruction by its plan answers.
use Rattle.std.proofs.Common.{◌≡◌, true, false, List, [], ◌∷◌, ◌++◌}
use Rattle.wasm_ast.specs.declared.module.ty.Ty.{Ty}
use Rattle.wasm_ast.specs.declared.module.ty.Ty.TheVariants.{I32}
use Rattle.wasm_ast.specs.declared.module.code.Instr.{Instr}
use Rattle.typing_kit.specs.declared.plan.Plan.{Plan}
use Rattle.typing_kit.specs.declared.plan.Met.{Met}
use Rattle.typing_kit.specs.Progress.{Leads}
use Rattle.typing_kit.specs.Stack.{Stack}
use Rattle.typing_kit.specs.Steps.{stepped, IsLeaf, IsPlanOf}
use Rattle.typed_trees.specs.declared.node.Node.{Node}
use Rattle.typed_trees.specs.Contexts.{Context}
use Rattle.typed_trees.specs.Forms.{form, language, is_of_kind}
use Rattle.typed_trees.specs.Matching.{matches}
use Rattle.valid_new.specs.Bodies.{IsMet, Went, type_met, leaf_types}
use Rattle.valid_new.specs.Nodes.{NodeIs}
use Rattle.valid_new.proofs.Judging.{planned_leads}
use Rattle.valid_new.proofs.Moving.{Moves}
use Rattle.valid_new.proofs.Reaching.{form_by, leaves_by, planned_moves, leaf_reached}

module _ (c : Context) (ls : List (List Ty)) (i : Instr) (plan : Plan Ty) (s t : Stack Ty) (met : Met Ty) (p : IsPlanOf plan (form c ls i)) (l : IsLeaf plan) (e : ◌≡◌ {A = Met Ty × Stack Ty} (met, t) (stepped matches is_of_kind I32 plan s)) where
  module _ (m : IsMet met) where
    leads : Leads (language c) ls i s.dead s.top t.dead t.top
    leads = planned_leads c ls i plan s t met p l e m

    moves : Moves c (form_by plan) (leaf_types plan (type_met met)).0 (leaf_types plan (type_met met)).1 (leaves_by plan) s t
    moves = planned_moves c plan s t met l e m

    pub planned_reached : (nodes put : List Node) (n : Node) → NodeIs i (leaf_types plan (type_met met)).0 (leaf_types plan (type_met met)).1 [] [] n → put ≡ nodes ++ n ∷ [] → s.dead ≡ false → Went c ls i s t nodes put
    planned_reached nodes put n is e2 alive = record {
      leads = leads;
      outer = moves.outer;
      unreached = λ d. (let no : ⊥ = cc in absurd no);
      reached = λ ts d v. (n, e2, leaf_reached c ls i plan s t met n p l e m is ts d v);
    }

    pub planned_unreached : (nodes put : List Node) → put ≡ nodes → s.dead ≡ true → Went c ls i s t nodes put
    planned_unreached nodes put e2 dead = record {
      leads = leads;
      outer = moves.outer;
      unreached = λ d. (moves.unreached d, e2);
      reached = λ ts d v. (let no : ⊥ = cc in absurd no);
    }
