-- How a script for a 3.0 module becomes a script for the lowered module: this project's own mapping.
use Rattle.std.specs.Prelude.{ℕ, ◌+◌, List, [], ◌∷◌, ◌++◌, map}
use Rattle.std.specs.List.{flat_map}
use Rattle.host_kit.specs.declared.script.Act.{Act}
use Rattle.host_kit.specs.declared.script.Act.TheVariants.{Set}
use Rattle.host_kit.specs.declared.script.Item.{Item}
use Rattle.host_kit.specs.declared.script.Item.TheVariants.{Call, Host}
use Rattle.host_kit.specs.declared.script.Reply.{Reply}
use Rattle.host_kit.specs.declared.script.Script.{Script}
use Rattle.host_kit.specs.declared.value.Value.{Value}
use Rattle.host_kit.specs.declared.value.Value.TheVariants.{I64}
use Rattle.wasm_ast.specs.declared.module.parts.Module.{Module}
use Rattle.headline.specs.Flattening.{flatten, word}
use Rattle.headline.specs.Marks.{result_mark}

-- a call has its arguments flattened; what the host does to the state stays
abbrev pub map_item : Item → Item
map_item (Call name arguments) = Call name (flat_map flatten arguments)
map_item (Host act) = Host act

-- the words of results in their marks, from the mark with this number on
abbrev pub set_results : ℕ → List Value → List Act
set_results k [] = []
set_results k (v ∷ more) = Set (result_mark k) (I64 (word v)) ∷ set_results (k + 1) more

-- a reply gives its first flattened value, and sets the marks of the others after all that it does
abbrev pub reply_with : List Act → List Value → Reply
reply_with acts [] = record { acts = acts; values = [] }
reply_with acts (v ∷ further) = record { acts = acts ++ set_results 1 further; values = v ∷ [] }

abbrev pub map_reply : Reply → Reply
map_reply reply = reply_with reply.acts (flat_map flatten reply.values)

-- The script for the lowered module. The answers to growths stay, and so do the values of the imported globals, each of
-- which is an i32 or an i64 in the profile
abbrev pub map_script : Module → Script → Script
map_script m s = record {
  globals = s.globals;
  replies = map (λ replies. map map_reply replies) s.replies;
  grows = s.grows;
  items = map map_item s.items;
}
