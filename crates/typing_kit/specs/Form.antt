-- The forms of instructions: what an instruction takes from the operand stack and leaves there, in the context that
-- a function fixes, by the types that branches to the labels take. A version's function from instructions to forms is
-- the standard's table of instruction types ("Instructions" of chapter 3). Lists of types have the top last.
use Rattle.std.specs.Prelude.{Bool, List}
use Rattle.typing_kit.specs.declared.kind.Kind.{Kind}

-- T are the value types, I the instructions with the code that they hold
pub data Form (T I : Type 0) : Type 0 where
  -- no rule types it
  Untyped : Form T I
  -- it takes the first types and leaves the second
  Flat : List T → List T → Form T I
  -- it takes one operand of the kind, and leaves the types: drop, ref.is_null
  Any : Kind → List T → Form T I
  -- select without a type
  Select : Form T I
  -- it takes the types, and nothing follows it: over any further operands, with any stack behind it
  Leaves : List T → Form T I
  -- br_table, with the types that the last label takes, and those of each other label
  Table : List T → List (List T) → Form T I
  -- code behind a label: what a branch to the label takes, what the instruction takes and leaves, and the code
  Block : List T → List T → List T → List I → Form T I
  -- the same with two arms, and a condition above what it takes
  Choice : List T → List T → List T → List I → List I → Form T I

-- a version: which types match, the type of a condition, which types are of a kind, and the form of an instruction by
-- the types that branches to the labels take, the innermost label first
pub record Language (T I : Type 0) : Type 0 where
  pub sub : T → T → Bool
  pub condition : T
  pub of_kind : Kind → T → Bool
  pub form : List (List T) → I → Form T I
