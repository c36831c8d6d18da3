-- What typing of an instruction and of code answers.
use Rattle.std.specs.Prelude.{◌≡◌, Bool, true, false, List, [], ◌∷◌, ◌++◌, reverse, Option, Some, None}
use Rattle.wasm_ast.specs.declared.module.ty.Ty.{Ty}
use Rattle.wasm_ast.specs.declared.module.ty.Ty.TheVariants.{I32}
use Rattle.wasm_ast.specs.declared.module.code.Instr.{Instr}
use Rattle.typing_kit.specs.declared.operand.Operand.TheVariants.{Known}
use Rattle.typing_kit.specs.declared.plan.Plan.{Plan}
use Rattle.typing_kit.specs.declared.plan.Plan.TheVariants as plans
use Rattle.typing_kit.specs.declared.plan.Met.{Met}
use Rattle.typing_kit.specs.declared.plan.Met.TheVariants.{Untyped, One}
use Rattle.typing_kit.specs.Matching.{known}
use Rattle.typing_kit.specs.Progress.{Leads, Stuck}
use Rattle.typing_kit.specs.Stack.{Stack}
use Rattle.typing_kit.specs.Steps.{with_top}
use Rattle.typing_kit.specs.Typing.{TypedCode}
use Rattle.typed_trees.specs.declared.node.Node.{Node}
use Rattle.std.specs.Borrow.{Bor}
use Rattle.valid_new.specs.declared.nested.Nested.{Nested}
use Rattle.typed_trees.specs.Contexts.{Context}
use Rattle.typed_trees.specs.Forms.{language}
use Rattle.typed_trees.specs.Trees.{leaves, reachable, reachable_code, erase, erased, EndsAs, TypedNode, TypedNodes, head_of, takes_of, gives_of}

-- The code is typed, and the nodes are it: without what cannot be reached, and each with its types
pub record Body (c : Context) (ls : List (List Ty)) (code : List Instr) (s t : List Ty) (nodes : List Node) : Type 0 where
  pub typed : TypedCode (language c) ls code (known s) (known t)
  pub tree : erased nodes ≡ reachable_code code
  pub end : Option (List Ty)
  pub nodes_typed : TypedNodes c ls nodes s end
  pub ends : EndsAs end t

-- the body, or that the code is not typed
abbrev pub BodyOr : Context → List (List Ty) → List Instr → List Ty → List Ty → Option (List Node) → Type 0
BodyOr c ls code s t (Some nodes) = Body c ls code s t nodes
BodyOr c ls code s t None = TypedCode (language c) ls code (known s) (known t) → ⊥

-- the operands behind a node: values of these types, or nothing is reached
abbrev pub After : Bool → List Ty → Stack Ty → Type 0
After true ts stack = stack.dead ≡ true
After false ts stack = (stack.dead ≡ false) × (stack.top ≡ reverse (known ts))

-- over operands of these types the node is the instruction, typed
pub record Reached (c : Context) (ls : List (List Ty)) (i : Instr) (s : List Ty) (stack : Stack Ty) (n : Node) : Type 0 where
  pub tree : erase n ≡ reachable i
  pub typed : TypedNode c ls n
  pub below : List Ty
  pub is : s ≡ below ++ takes_of n
  pub after : After (leaves (head_of n)) (below ++ gives_of n) stack

-- The instruction is typed: the same code is typed before and after it. Where it is reached a node of it is put behind the nodes.
pub record Went (c : Context) (ls : List (List Ty)) (i : Instr) (old new : Stack Ty) (nodes put : List Node) : Type 0 where
  pub leads : Leads (language c) ls i old.dead old.top new.dead new.top
  pub outer : new.outer ≡ old.outer
  pub unreached : old.dead ≡ true → (new.dead ≡ true) × (put ≡ nodes)
  pub reached : (s : List Ty) → old.dead ≡ false → old.top ≡ reverse (known s) → (n : Node) × (put ≡ nodes ++ n ∷ []) × Reached c ls i s new n

-- so it went, or no code that begins with the instruction is typed
abbrev pub WentOr : Context → List (List Ty) → Instr → Stack Ty → Stack Ty → List Node → List Node → Bool → Type 0
WentOr c ls i old new nodes put true = Went c ls i old new nodes put
WentOr c ls i old new nodes put false = Stuck (language c) ls i old.dead old.top

-- the instruction is typed over the operands that it met
abbrev pub IsMet : Met Ty → Type 0
IsMet Untyped = ⊥
IsMet _ = Unit {0}

-- the type that an instruction met where its plan leaves it open
abbrev pub type_met : Met Ty → Option Ty
type_met (One (Known t)) = Some t
type_met _ = None

-- the types of a node, by the plan and the type that was met
abbrev pub any_types : List Ty → Option Ty → List Ty × List Ty
any_types gives (Some t) = (t ∷ [], gives)
any_types gives None = ([], gives)

abbrev pub select_types : Option Ty → List Ty × List Ty
select_types (Some t) = (t ∷ (t ∷ (I32 ∷ [])), t ∷ [])
select_types None = ([], [])

abbrev pub leaf_types : Plan Ty → Option Ty → List Ty × List Ty
leaf_types (plans.Flat takes top gives) met = (with_top takes.now top, gives.now)
leaf_types (plans.Any kind gives) met = any_types gives.now met
leaf_types plans.Select met = select_types met
leaf_types (plans.Leaves takes top) met = (with_top takes.now top, [])
leaf_types (plans.Table last others) met = (last.now ++ I32 ∷ [], [])
leaf_types plans.Untyped met = ([], [])
leaf_types plans.Nested met = ([], [])

-- the nodes are the typed code of an instruction that holds code, of one arm or of two; over two a condition lies on top
pub record OneArm (c : Context) (ls : List (List Ty)) (n : Nested) (top : Option Ty) (a b : List Node) : Type 0 where
  pub body : Body c (n.label.now ∷ ls) n.first.now n.takes.now n.gives.now a
  pub condition : top ≡ None
  pub second : b ≡ []

pub record TwoArms (c : Context) (ls : List (List Ty)) (n : Nested) (code : List Instr) (top : Option Ty) (a b : List Node) : Type 0 where
  pub first_body : Body c (n.label.now ∷ ls) n.first.now n.takes.now n.gives.now a
  pub second_body : Body c (n.label.now ∷ ls) code n.takes.now n.gives.now b
  pub condition : top ≡ Some I32

abbrev pub AreArms : Context → List (List Ty) → Nested → Option (Bor (List Instr)) → Option Ty → List Node → List Node → Type 0
AreArms c ls n None top a b = OneArm c ls n top a b
AreArms c ls n (Some code) top a b = TwoArms c ls n code.now top a b

abbrev pub AreBodies : Context → List (List Ty) → Nested → Option Ty → List Node → List Node → Type 0
AreBodies c ls n top a b = AreArms c ls n n.second top a b
