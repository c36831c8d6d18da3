-- The verdict on a file: the first of these steps that holds. The steps, their order and their texts are this project's
-- own.
use Rattle.std.specs.Prelude.{◌≡◌, ℕ, ◌<◌, ◌≤◌, List, ◌++◌, length, true, false, Option, Some, None, Result, Ok, Err, codes}
use Rattle.std.specs.Fmt.{decimal}
use Rattle.wasm_ast.specs.declared.module.parts.Module.{Module}
use Rattle.core1_ast.specs.Floats.{has_floats}
use Rattle.core1_ast.specs.Typing.{Typed1}
use Rattle.core1_ast.specs.declared.module.parts.Module1.{Module1}
use Rattle.typed_trees.specs.Modules.{IsTyped}
use Rattle.wasm_frame.specs.declared.sections.Version.{Version}
use Rattle.wasm_frame.specs.declared.sections.Version.TheVariants as versions
use Rattle.module_reading.specs.declared.fault.ReadFault.{ReadFault}
use Rattle.module_reading.specs.Texts as reading
use Rattle.module_reading.specs.Limits.{file_limit}
use Rattle.module_reading.specs.Reads.{Reads}
use Rattle.read_new.specs.Spells.{three}
use Rattle.core1_bytes.specs.Spells.{one}
use Rattle.host_kit.specs.ScriptTexts.{text_fault}
use Rattle.pass_stack.specs.Profile.{outside_profile, outside_stack}
use Rattle.pass_stack.specs.declared.outside.Outside.{Outside as Entry}
use Rattle.pass_stack.specs.Texts as outside
use Rattle.valid_core1.specs.Verdict as old
use Rattle.valid_core1.specs.declared.invalid.Invalid.TheVariants as old_invalid
use Rattle.valid_mod.specs.Verdict as new
use Rattle.valid_mod.specs.declared.invalid.Invalid.TheVariants as new_invalid
use Rattle.lower_tool.specs.declared.verdict.Refusal.{Refusal}
use Rattle.lower_tool.specs.declared.verdict.Refusal.TheVariants.{TooLarge, Unreadable, Floats, Outside, Part, Body, Script, DoesNotFit}

-- ---- what every command asks of a file, where Read says how files of its version are read

-- the file is within the limit of size, and is read as a module of which P holds
abbrev pub ReadsWhere : {M : Type 0} → (List ℕ → Result M ReadFault → Type 0) → (M → Type 0) → List ℕ → Type 0
ReadsWhere {M} Read P bytes = (length bytes ≤ file_limit) × ((m : M) × Read bytes (Ok m) × P m)

-- This is the step that refuses the file. A fault of reading is the first that refuses it, and so says that the steps
-- before do not hold; a later step says that the file can be read, and refuses the module
abbrev pub RefusedBy : {M : Type 0} → (List ℕ → Result M ReadFault → Type 0) → (Refusal → M → Type 0) → Refusal → List ℕ → Type 0
RefusedBy Read Refuses TooLarge bytes = file_limit < length bytes
RefusedBy Read Refuses (Unreadable fault) bytes = (length bytes ≤ file_limit) × Read bytes (Err fault)
RefusedBy Read Refuses refusal bytes = ReadsWhere Read (Refuses refusal) bytes

-- ---- a module of 3.0, by the list that it is held against: the profile, or for one that is to be lowered also what is not
-- ---- built

-- no entry of the list holds of it, and it is typed
abbrev pub IsValidBy : (Module → Option Entry) → Module → Type 0
IsValidBy first m = (first m ≡ None) × IsTyped m

-- a part or a body is the first that is not typed
abbrev pub IsUntypedAt : Refusal → Module → Type 0
IsUntypedAt (Part section index) m = new.Tells m (Err (new_invalid.Part section index))
IsUntypedAt (Body place) m = new.Tells m (Err (new_invalid.Body place))
IsUntypedAt _ m = ⊥

-- this is the step that refuses it
abbrev pub RefusesBy : (Module → Option Entry) → Refusal → Module → Type 0
RefusesBy first (Outside entry) m = first m ≡ Some entry
RefusesBy first refusal m = (first m ≡ None) × IsUntypedAt refusal m

-- of one that is checked or run, and of one that is to be lowered
abbrev pub IsValid3 : Module → Type 0
IsValid3 m = IsValidBy outside_profile m

abbrev pub RefusesModule3 : Refusal → Module → Type 0
RefusesModule3 refusal m = RefusesBy outside_profile refusal m

abbrev pub CanLower : Module → Type 0
CanLower m = IsValidBy outside_stack m

abbrev pub RefusesLowering : Refusal → Module → Type 0
RefusesLowering refusal m = RefusesBy outside_stack refusal m

-- ---- a module of 1.0 that is checked

-- it has no floats and is typed
abbrev pub IsValid1 : Module1 → Type 0
IsValid1 m = (has_floats m ≡ false) × Typed1 m

-- this is the step that refuses it
abbrev pub RefusesModule1 : Refusal → Module1 → Type 0
RefusesModule1 Floats m = has_floats m ≡ true
RefusesModule1 (Part section index) m = (has_floats m ≡ false) × old.Tells m (Err (old_invalid.Part section index))
RefusesModule1 (Body place) m = (has_floats m ≡ false) × old.Tells m (Err (old_invalid.Body place))
RefusesModule1 _ m = ⊥

-- ---- the file that a command reads

-- the file can be lowered; a file of a version is valid
abbrev pub IsFineToLower : List ℕ → Type 0
IsFineToLower bytes = ReadsWhere (Reads three) CanLower bytes

abbrev pub IsValid : Version → List ℕ → Type 0
IsValid versions.One bytes = ReadsWhere (Reads one) IsValid1 bytes
IsValid versions.Three bytes = ReadsWhere (Reads three) IsValid3 bytes

-- this is the step that refuses the file
abbrev pub RefusesToLower : Refusal → List ℕ → Type 0
RefusesToLower refusal bytes = RefusedBy (Reads three) RefusesLowering refusal bytes

abbrev pub RefusesAsInvalid : Version → Refusal → List ℕ → Type 0
RefusesAsInvalid versions.One refusal bytes = RefusedBy (Reads one) RefusesModule1 refusal bytes
RefusesAsInvalid versions.Three refusal bytes = RefusedBy (Reads three) RefusesModule3 refusal bytes

-- the text of a refusal; places and ids are decimal numbers, the highest digit first
abbrev pub text_of : Refusal → List ℕ
text_of TooLarge = codes "too large"
text_of (Unreadable fault) = reading.text_of fault
text_of Floats = codes "outside: floats"
text_of (Outside entry) = codes "outside: " ++ outside.text_of entry
text_of (Part section index) = codes "invalid: part " ++ decimal section ++ codes " " ++ decimal index
text_of (Body place) = codes "invalid: body " ++ decimal place
text_of (Script fault) = text_fault fault
text_of DoesNotFit = codes "script: does not fit"
